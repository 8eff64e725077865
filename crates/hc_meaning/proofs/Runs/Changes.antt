-- What the changes between two lists of cells are: the keys whose record is another one after, with that record.
use Rattle.std.proofs.Common.{◌≡◌, ◌≢◌, ◌∙◌, ⊎_elim, refl, sym, ap, subst, ℕ, Bool, true, false, not, Option, Some, None, List, map}
use Rattle.std.specs.Prelude.{is_none}
use Rattle.std.proofs.lemmas.Bool.{true≢false, false≢true}
use Rattle.std.proofs.lemmas.Option.{none-some}
use Rattle.std.proofs.lemmas.Slice.Eq.{bytes_eq-Decides}
use Rattle.hc_core.specs.Account.{HoldsKey}
use Rattle.hc_base.specs.Lookup.{Among}
use Rattle.hc_core.specs.Versions.{AreAscending}
use Rattle.hc_core.specs.WriteSet.{is_same_rec}
use Rattle.hc_core.specs.declared.cells.Cell.{Cell}
use Rattle.hc_core.specs.declared.cells.Write.{Write}
use Rattle.hc_core.proofs.Elements.{among_filter}
use Rattle.hc_meaning.specs.Runs.Language.{record_at}
use Rattle.hc_meaning.specs.Runs.Writes.{changes, clearing, fresh, gone, setting}
use Rattle.hc_meaning.proofs.Runs.Cells.{at_from, at_into, known_same}
use Rattle.hc_meaning.proofs.Runs.Joined.{among_back, among_either, among_front, among_map, among_mapped}

same_rec : (rec : Option (List ℕ)) → is_same_rec rec rec ≡ true
same_rec None = refl
same_rec (Some rec) = (bytes_eq-Decides rec rec).1 refl

rec_same : (rec other : Option (List ℕ)) → is_same_rec rec other ≡ true → rec ≡ other
rec_same None None is = refl
rec_same (Some rec) (Some other) is = ap Some ((bytes_eq-Decides rec other).0 is)
rec_same None (Some other) is = absurd (false≢true is)
rec_same (Some rec) None is = absurd (false≢true is)

none_is : (rec : Option (List ℕ)) → is_none rec ≡ true → rec ≡ None
none_is None is = refl
none_is (Some rec) is = absurd (false≢true is)

true_of_not : (b : Bool) → not b ≡ true → b ≡ false
true_of_not true is = absurd (false≢true is)
true_of_not false is = refl

not_of_false : (b : Bool) → (b ≡ true → ⊥) → not b ≡ true
not_of_false true never = absurd (never refl)
not_of_false false never = refl

-- a write is what is there after, and not what was there before
abbrev pub IsChange : List Cell → List Cell → Write → Type 0
IsChange before after w = (record_at after w.key ≡ w.rec) × (record_at before w.key ≢ w.rec)

module _ (before after : List Cell) (from : AreAscending before) (to : AreAscending after) where
  cleared : (cell : Cell) → Among cell (gone before after) → IsChange before after (clearing cell)
  cleared cell there =
      let kept = (among_filter (λ (c : Cell). is_none (record_at after c.key)) cell before).0 there in
      (none_is (record_at after cell.key) kept.1, λ none. none-some cell.rec (sym none ∙ at_from before cell.key cell.rec from kept.0))

  set : (cell : Cell) → Among cell (fresh before after) → IsChange before after (setting cell)
  set cell there =
      let kept = (among_filter (λ (c : Cell). not (is_same_rec (record_at before c.key) (Some c.rec))) cell after).0 there in (
        at_from after cell.key cell.rec to kept.0,
        λ same. true≢false (sym (same_rec (Some cell.rec))
            ∙ ap (λ (r : Option (List ℕ)). is_same_rec r (Some cell.rec)) (sym same)
            ∙ true_of_not (is_same_rec (record_at before cell.key) (Some cell.rec)) kept.1),
      )

  pub change_from : (w : Write) → Among w (changes before after) → IsChange before after w
  change_from w there = ⊎_elim
      (λ front. let cell = among_mapped clearing w (gone before after) front in
      subst (IsChange before after) (sym cell.2) (cleared cell.0 cell.1))
      (λ back. let cell = among_mapped setting w (fresh before after) back in
      subst (IsChange before after) (sym cell.2) (set cell.0 cell.1))
      (among_either w (map clearing (gone before after)) (map setting (fresh before after)) there)

  pub change_into : (key : List ℕ) (rec : Option (List ℕ)) → IsChange before after (record { key = key; rec = rec })
      → Among (record { key = key; rec = rec }) (changes before after)
  change_into key (Some rec) is = among_back (record { key = key; rec = Some rec }) (map clearing (gone before after)) (map setting (fresh before after))
      (among_map setting (record { key = key; rec = rec }) (fresh before after)
      ((among_filter (λ (c : Cell). not (is_same_rec (record_at before c.key) (Some c.rec))) (record { key = key; rec = rec }) after).1 (
        at_into after key rec is.0,
        not_of_false (is_same_rec (record_at before key) (Some rec)) (λ same. is.1 (rec_same (record_at before key) (Some rec) same)),
      )))
  change_into key None is = by_record (record_at before key) refl
    where
      by_record : (found : Option (List ℕ)) → record_at before key ≡ found → Among (record { key = key; rec = None }) (changes before after)
      by_record None was = absurd (is.1 was)
      by_record (Some rec) was = among_front (record { key = key; rec = None }) (map clearing (gone before after)) (map setting (fresh before after))
          (among_map clearing (record { key = key; rec = rec }) (gone before after)
          ((among_filter (λ (c : Cell). is_none (record_at after c.key)) (record { key = key; rec = rec }) before).1
          (at_into before key rec was, ap is_none is.0)))

  -- a key that is no change's has the same record after
  pub unchanged : (key : List ℕ) → (HoldsKey (changes before after) key → ⊥) → record_at after key ≡ record_at before key
  unchanged key none = ⊎_elim
      (λ same. same)
      (λ other. absurd (none (record_at after key, change_into key (record_at after key) (refl, λ was. other (sym was)))))
      (known_same (record_at after key) (record_at before key))
