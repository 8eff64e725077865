-- The record at a key of ascending cells.
use Rattle.std.proofs.Common.{◌≡◌, ◌≢◌, ◌↔◌, ◌⊎◌, ◌∙◌, inl, inr, ⊎_elim, refl, sym, ap, subst, ℕ, true, Option, Some, None, List, [], ◌∷◌, bytes_eq}
use Rattle.std.proofs.lemmas.Bool.{cases_Bool, true≢false}
use Rattle.std.proofs.lemmas.Option.{none-some, same_Some}
use Rattle.std.proofs.lemmas.Slice.Eq.{bytes_eq-Decides}
use Rattle.hc_base.specs.Lookup.{Among}
use Rattle.hc_core.specs.Versions.{AreAscending}
use Rattle.hc_core.specs.declared.cells.Cell.{Cell}
use Rattle.hc_core.proofs.CellOrder.{none_below}
use Rattle.hc_meaning.specs.Runs.Language.{record_at}

-- a cell is its key and its record
cell_is : (cell : Cell) (key rec : List ℕ) → cell.key ≡ key → cell.rec ≡ rec → record { key = key; rec = rec } ≡ cell
cell_is cell key rec same_key same_rec =
    let e : cell ≡ record { key = key; rec = rec } = λ i. record { key = same_key i; rec = same_rec i } in sym e

-- what is at a key is among the cells
pub at_into : (cells : List Cell) (key rec : List ℕ) → record_at cells key ≡ Some rec → Among (record { key = key; rec = rec }) cells
at_into [] key rec found = absurd (none-some rec found)
at_into (cell ∷ cells) key rec found = ⊎_elim
    (λ same. inl (cell_is cell key rec ((bytes_eq-Decides cell.key key).0 same) (same_Some cell.rec rec (rw same at found))))
    (λ other. inr (at_into cells key rec (rw other at found)))
    (cases_Bool (bytes_eq cell.key key))

-- the other way round, where each key is there once
pub at_from : (cells : List Cell) (key rec : List ℕ) → AreAscending cells → Among (record { key = key; rec = rec }) cells → record_at cells key ≡ Some rec
at_from [] key rec ascending there = absurd there
at_from (cell ∷ cells) key rec ascending there = ⊎_elim
    (λ here.
    let same : bytes_eq cell.key key ≡ true = (bytes_eq-Decides cell.key key).1 (sym (ap (λ (c : Cell). c.key) here)) in
    rw same (ap (λ (c : Cell). Some c.rec) (sym here)))
    (λ following. ⊎_elim
    (λ same. absurd (none_below cell.key cells ascending.0 rec
    (subst (λ (k : List ℕ). Among (record { key = k; rec = rec }) cells) (sym ((bytes_eq-Decides cell.key key).0 same)) following)))
    (λ other. rw other (at_from cells key rec ascending.1 following))
    (cases_Bool (bytes_eq cell.key key)))
    there

-- two that have the same records are the same
pub same_option : (a b : Option (List ℕ)) → ((rec : List ℕ) → (a ≡ Some rec) ↔ (b ≡ Some rec)) → a ≡ b
same_option None None same = refl
same_option None (Some r) same = (same r).1 refl
same_option (Some r) b same = sym ((same r).0 refl)

-- whether two are the same
pub known_same : (a b : Option (List ℕ)) → (a ≡ b) ⊎ (a ≢ b)
known_same None None = inl refl
known_same None (Some b) = inr (none-some b)
known_same (Some a) None = inr (λ e. none-some a (sym e))
known_same (Some a) (Some b) = ⊎_elim
    (λ same. inl (ap Some ((bytes_eq-Decides a b).0 same)))
    (λ other. inr (λ e. true≢false (sym ((bytes_eq-Decides a b).1 (same_Some a b e)) ∙ other)))
    (cases_Bool (bytes_eq a b))

-- what is not otherwise is so
pub stable : (a b : Option (List ℕ)) → ((a ≢ b) → ⊥) → a ≡ b
stable a b never = ⊎_elim (λ same. same) (λ other. absurd (never other)) (known_same a b)
