-- What was told of a transaction is shown by each view that keeps the notes.
use Rattle.std.proofs.Common.{◌≡◌, ◌≢◌, refl, sym, subst, ⊎_elim, inl, inr, ℕ, ◌<◌}
use Rattle.hc_base.specs.Lookup.{Among}
use Rattle.hc_base.specs.declared.tid_word.TidWord.{TidWord}
use Rattle.hc_base.specs.declared.tid_word.TidWord.TheVariants as tid
use Rattle.hc_rows.specs.declared.layout.Layout.{Layout}
use Rattle.hc_rows.specs.Places.{log_at}
use Rattle.hc_rule.specs.declared.view.View.{View}
use Rattle.hc_tidlog.specs.Noted.{HasNoted, HasFound, KeepsNotes}
use Rattle.hc_rule.specs.Kinds.LoadLog.{with_place}
use Rattle.hc_rule.specs.Kinds.LoadPage.{with_found}
use Rattle.hc_rule.specs.Kinds.TidWord.{with_seen}
use Rattle.hc_tidlog.specs.Telling.{FindsNone, Tells, Shows}

-- the note of a word is in a view that has it, and in one that keeps its notes
noted : (id : ℕ) (form : TidWord) (v w later : View) → w ≡ with_seen id form v → KeepsNotes w later → HasNoted later id form v.seen.0
noted id form v w later is keeps = keeps.0 (record { tid = record { 0 = id }; word = form; seen = v.seen }) (subst (λ (x : View). Among (record { tid = record { 0 = id }; word = form; seen = v.seen }) x.words) (sym is) (inl refl))

-- and so it is where an empty place was found after it
noted_before : (id place : ℕ) (form : TidWord) (v w later : View) → w ≡ with_found place 0 (with_seen id form v) → KeepsNotes w later → HasNoted later id form v.seen.0
noted_before id place form v w later is keeps = keeps.0 (record { tid = record { 0 = id }; word = form; seen = v.seen }) (subst (λ (x : View). Among (record { tid = record { 0 = id }; word = form; seen = v.seen }) x.words) (sym is) (inl refl))

-- and so is that of a place, and the note of a word before it
found : (id c other : ℕ) (form : TidWord) (v w later : View) → w ≡ with_place c other (with_seen id form v) → KeepsNotes w later → HasNoted later id form v.seen.0 × HasFound later c other
found id c other form v w later is keeps = (
  keeps.0 (record { tid = record { 0 = id }; word = form; seen = v.seen }) (subst (λ (x : View). Among (record { tid = record { 0 = id }; word = form; seen = v.seen }) x.words) (sym is) (inl refl)),
  keeps.1 (record { cid = record { 0 = c }; tid = record { 0 = other } }) (subst (λ (x : View). Among (record { cid = record { 0 = c }; tid = record { 0 = other } }) x.places) (sym is) (inl refl)),
)

pub told_shown : (y : Layout) (id : ℕ) (word : TidWord) (v w later : View) → Tells y id word v w → KeepsNotes w later → Shows id word v.seen.0 later
told_shown y id tid.Empty v w later told keeps = tt
told_shown y id (tid.Live conn ord) v w later told keeps = (conn, ord, inl (noted id (tid.Live conn ord) v w later told keeps))
told_shown y id (tid.Validating conn ord c) v w later told keeps =
    ⊎_elim
    (λ (none : FindsNone y c.0 (with_seen id (tid.Validating conn ord c) v) w). (
      conn,
      ord,
      inr (
        c.0,
        ⊎_elim
            (λ (empty : w ≡ with_found (log_at y c.0) 0 (with_seen id (tid.Validating conn ord c) v)). noted_before id (log_at y c.0) (tid.Validating conn ord c) v w later empty keeps)
            (λ (past : (y.transactions < c.0) × (w ≡ with_seen id (tid.Validating conn ord c) v)). noted id (tid.Validating conn ord c) v w later past.1 keeps)
            none.1,
        inl none.0,
      ),
    ))
    (λ (taken : (other : ℕ) × (other ≢ id) × (w ≡ with_place c.0 other (with_seen id (tid.Validating conn ord c) v))).
    let f = found id c.0 taken.0 (tid.Validating conn ord c) v w later taken.2 keeps in
    (conn, ord, inr (c.0, f.0, inr (taken.0, taken.1, told.0, f.1))))
    told.1
told_shown y id (tid.Committed conn ord c) v w later told keeps = (
  told.0,
  ⊎_elim
      (λ (said : w ≡ with_seen id (tid.Committed conn ord c) v). inl (conn, ord, v.seen.0, noted id (tid.Committed conn ord c) v w later said keeps))
      (λ (at : w ≡ with_place c.0 id (with_seen id (tid.Validating conn ord c) v)). inr (found id c.0 id (tid.Validating conn ord c) v w later at keeps).1)
      told.1,
)
told_shown y id (tid.RolledBack conn ord) v w later told keeps = (conn, ord, v.seen.0, noted id (tid.RolledBack conn ord) v w later told keeps)
