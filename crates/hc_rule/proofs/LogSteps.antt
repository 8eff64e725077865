-- How accounts and the log go on at a load of the log's end: a transaction begins, or proposes the next number.
use Rattle.std.proofs.Common.{◌≡◌, ◌≢◌, ◌∙◌, refl, sym, ap, subst, ⊎_elim, inl, inr, true≢false, ℕ, ◌+◌, ◌≤◌, true, false, List, [], ◌∷◌, arith}
use Rattle.hc_base.specs.Lookup.{Among, but}
use Rattle.hc_base.specs.declared.seat_word.SeatWord.{SeatWord}
use Rattle.hc_base.specs.declared.seat_word.SeatWord.TheVariants as seat
use Rattle.hc_base.specs.declared.tid_word.TidWord.{TidWord}
use Rattle.hc_base.specs.declared.tid_word.TidWord.TheVariants as tid
use Rattle.hc_base.proofs.Lookups.{each_old, each_either, each_grown, grown_here, new_here, rest_here, others_here, old_there}
use Rattle.hc_core.specs.Account.{Txn, IsIdle, WhenOpen, begun_at}
use Rattle.hc_core.specs.Sound.{AreSound}
use Rattle.hc_core.proofs.Counted.{no_more}
use Rattle.hc_core.proofs.Ordered.{placed_drew}
use Rattle.hc_core.proofs.Kept.Begin.{kept_begin}
use Rattle.hc_rule.specs.CommitLog.{IsLogged}
use Rattle.hc_rule.specs.Stages.{IsStage}
use Rattle.hc_rule.specs.TidWords.{Shows, AreWorded, open_id}
use Rattle.hc_rule.proofs.Entering.{Goes, AllGo}

-- the newest transaction of a connection
pub record Newest (ts : List Txn) (P : Txn → Type 0) : Type 0 where
  pub t : Txn
  pub rest : List Txn
  pub is : ts ≡ t ∷ rest
  pub running : t.ended ≡ false
  pub holds : P t

pub newest_of : (ts : List Txn) (P : Txn → Type 0) → WhenOpen ts P → Newest ts P
newest_of [] P opened = absurd opened
newest_of (t ∷ ts) P opened = record { t = t; rest = ts; is = refl; running = opened.0; holds = opened.1 }

-- where none is open there is no open id
pub idle_id : (ts : List Txn) → IsIdle ts → open_id ts ≡ 0
idle_id [] idle = refl
idle_id (t ∷ ts) idle = rw idle refl

pub running_id : (t : Txn) (rest : List Txn) → t.ended ≡ false → open_id (t ∷ rest) ≡ t.id
running_id t rest running = rw running refl

-- a transaction begins
module _ (last : ℕ) (log : ℕ → ℕ) (size drawn : ℕ) (of : ℕ → List Txn) (conn : ℕ) (idle : IsIdle (of conn)) where
  pub logged_begun : IsLogged last log size drawn of → IsLogged last log size drawn (but of conn (begun_at size ∷ of conn))
  logged_begun h = record {
    empty = h.empty;
    sound = kept_begin h.sound conn idle;
    drawn_within = each_grown of conn (begun_at size) (λ j t. t.id ≤ drawn) (omega arith) h.drawn_within;
    each_drawn = λ id some within. let e = h.each_drawn id some within in (e.0, e.1, grown_here of conn (begun_at size) e.0 e.1 e.2, e.3);
    room = h.room;
  }

  pub worded_begun : (word : ℕ → ℕ) (form : ℕ → TidWord) → AreWorded word form drawn of → AreWorded word form drawn (but of conn (begun_at size ∷ of conn))
  worded_begun word form h = record {
    word = h.word;
    fits = h.fits;
    none = h.none;
    shows = each_grown of conn (begun_at size) (λ j t. t.id ≢ 0 → Shows j t (form t.id)) (λ drew. absurd (drew refl)) h.shows;
  }

  pub all_begun : (form : ℕ → TidWord) → AllGo size form of (but of conn (begun_at size ∷ of conn))
  all_begun form j t there drew = (t, grown_here of conn (begun_at size) j t there, (refl, refl, inl refl))

-- what a word says of a transaction it says of one with the same ordinal and place
pub shows_like : (j : ℕ) (t u : Txn) → u.ord ≡ t.ord → u.place ≡ t.place → (f : TidWord) → Shows j t f → Shows j u f
shows_like j t u ord place tid.Empty s = absurd s
shows_like j t u ord place (tid.Live conn o) s = ((s.0.0, s.0.1 ∙ sym ord), place ∙ s.1)
shows_like j t u ord place (tid.Validating conn o c) s = ((s.0.0, s.0.1 ∙ sym ord), ⊎_elim (λ (none : t.place ≡ 0). inl (place ∙ none)) (λ (at : t.place ≡ c.0). inr (place ∙ at)) s.1)
shows_like j t u ord place (tid.Committed conn o c) s = ((s.0.0, s.0.1 ∙ sym ord), place ∙ s.1)
shows_like j t u ord place (tid.RolledBack conn o) s = ((s.0.0, s.0.1 ∙ sym ord), place ∙ s.1)

-- the newest transaction of a connection changes, and is the same one, at the same place
module _ (of : ℕ → List Txn) (conn : ℕ) (t new : Txn) (rest : List Txn) (is : of conn ≡ t ∷ rest) (id : new.id ≡ t.id) (ord : new.ord ≡ t.ord) (place : new.place ≡ t.place) where
  pub logged_changed : (last : ℕ) (log : ℕ → ℕ) (size drawn : ℕ) → IsLogged last log size drawn of → AreSound size (λ c. log (c + 1)) (but of conn (new ∷ rest)) → IsLogged last log size drawn (but of conn (new ∷ rest))
  logged_changed last log size drawn h sound = record {
    empty = h.empty;
    sound = sound;
    drawn_within = each_either of conn t rest is new (λ j u. u.id ≤ drawn) (let was = h.drawn_within conn t (old_there of conn t rest is) in omega (arith, was, id)) h.drawn_within;
    each_drawn = λ n some within.
        let e = h.each_drawn n some within in
        each_old of conn t rest is (λ j u. u.id ≡ n → (k : ℕ) × (v : Txn) × Among v (but of conn (new ∷ rest) k) × (v.id ≡ n))
        (λ same. (conn, new, new_here of conn new rest, id ∙ same))
        (λ u there same. (conn, u, rest_here of conn new rest u there, same))
        (λ j u differ there same. (j, u, others_here of conn new rest j u differ there, same))
        e.0 e.1 e.2 e.3;
    room = h.room;
  }

  pub worded_changed : (word : ℕ → ℕ) (form : ℕ → TidWord) (drawn : ℕ) → AreWorded word form drawn of → AreWorded word form drawn (but of conn (new ∷ rest))
  worded_changed word form drawn h = record {
    word = h.word;
    fits = h.fits;
    none = h.none;
    shows = each_either of conn t rest is new (λ j u. u.id ≢ 0 → Shows j u (form u.id))
        (λ drew. subst (λ n. Shows conn new (form n)) (sym id) (shows_like conn t new ord place (form t.id) (h.shows conn t (old_there of conn t rest is) (λ none. drew (id ∙ none)))))
        h.shows;
  }

  pub all_changed : (size : ℕ) (form : ℕ → TidWord) → AllGo size form of (but of conn (new ∷ rest))
  all_changed size form j u there drew =
      each_old of conn t rest is (λ j u. (v : Txn) × Among v (but of conn (new ∷ rest) j) × Goes size (form u.id) u v)
      (new, new_here of conn new rest, (id, ord, inl place))
      (λ u there. (u, rest_here of conn new rest u there, (refl, refl, inl refl)))
      (λ j u differ there. (u, others_here of conn new rest j u differ there, (refl, refl, inl refl)))
      j u there

-- a running transaction that has drawn its id is past its beginning
pub stage_changed : (s : SeatWord) (t new : Txn) (rest : List Txn) → t.ended ≡ false → t.id ≢ 0 → new.ended ≡ t.ended → new.snapshot ≡ t.snapshot → IsStage s (t ∷ rest) → IsStage s (new ∷ rest)
stage_changed seat.Idle t new rest running drew ended snapshot was = absurd (true≢false (sym was ∙ running))
stage_changed seat.Starting t new rest running drew ended snapshot was =
    ⊎_elim
    (λ (idle : t.ended ≡ true). absurd (true≢false (sym idle ∙ running)))
    (λ begun. absurd (drew (ap (λ (u : Txn). u.id) begun.1)))
    was
stage_changed (seat.Snapshot s) t new rest running drew ended snapshot was = (ended ∙ was.0, snapshot ∙ was.1)

-- no more are committed than drew
pub size_within : (last : ℕ) (log : ℕ → ℕ) (size drawn : ℕ) (of : ℕ → List Txn) → IsLogged last log size drawn of → size ≤ drawn
size_within last log size drawn of h = no_more size drawn (λ c. log (c + 1)) h.sound.distinct (λ c below.
    let e = h.sound.entries c below in
    let id : log (c + 1) ≡ e.1.id = h.sound.decided e.0 e.1 c e.2 e.3 in
    let drew = placed_drew h.sound e.0 e.1 e.2 (λ none. omega (arith, none, e.3)) in
    let within = h.drawn_within e.0 e.1 e.2 in
    (omega (arith, id, drew), omega (arith, id, within)))
