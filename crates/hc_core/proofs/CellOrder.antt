-- Cells in ascending order of keys, and what is among them after one is set.
use Rattle.std.proofs.Common.{◌≡◌, ◌≢◌, ◌∙◌, ◌⊎◌, ◌↔◌, inl, inr, ⊎_elim, refl, sym, ap, subst, ℕ, ◌+◌, ◌≤◌, Bool, true, false, cond, Option, Some, None, List, [], ◌∷◌, length, bytes_eq, add-one, arith}
use Rattle.std.proofs.lemmas.Bool.{true≢false, cases_Bool, cond_both}
use Rattle.std.proofs.lemmas.Slice.Eq.{bytes_eq-Decides}
use Rattle.hc_range.specs.Order.{is_below}
use Rattle.hc_base.specs.Lookup.{Among}
use Rattle.hc_core.specs.Versions.{IsBelowEach, AreAscending}
use Rattle.hc_core.specs.Commits.{set_here, set_cell, count_below, take_out_at, put_in_at}
use Rattle.hc_core.specs.declared.cells.Cell.{Cell}
use Rattle.hc_range.proofs.ByteOrder.{below_irrefl, below_trans, same_from_neither}

-- the place of a key is within the cells
pub count_within : (key : List ℕ) (cells : List Cell) → count_below key cells ≤ length cells
count_within key [] = omega arith
count_within key (cell ∷ cells) =
    cond_both (is_below cell.key key) (count_below key cells + 1) 0 (λ (n : ℕ). n ≤ length (cell ∷ cells))
    (λ _. omega (arith, count_within key cells)) (λ _. omega arith)

-- and stays so when the cell there is taken out
pub count_within_rest : (key : List ℕ) (cells : List Cell) → count_below key cells ≤ length (take_out_at (count_below key cells) key cells)
count_within_rest key [] = omega arith
count_within_rest key (cell ∷ cells) =
    cond_both (is_below cell.key key) (count_below key cells + 1) 0 (λ (n : ℕ). n ≤ length (take_out_at n key (cell ∷ cells)))
    (λ _. rw (add-one (count_below key cells)) (omega (arith, count_within_rest key cells))) (λ _. omega arith)

set_step : (key : List ℕ) (rec : Option (List ℕ)) (cell : Cell) (cells : List Cell) (b : Bool)
    → put_in_at (count_below key cells) key rec (take_out_at (count_below key cells) key cells) ≡ set_cell key rec cells
    → put_in_at (cond b (count_below key cells + 1) 0) key rec (take_out_at (cond b (count_below key cells + 1) 0) key (cell ∷ cells))
    ≡ cond b (cell ∷ set_cell key rec cells) (set_here key rec (cond (bytes_eq cell.key key) cells (cell ∷ cells)))
set_step key rec cell cells true following = rw (add-one (count_below key cells)) (ap (λ (rest : List Cell). cell ∷ rest) following)
set_step key rec cell cells false following = refl

-- a cell is set by taking out the one at its place and putting it in there
pub set_is : (key : List ℕ) (rec : Option (List ℕ)) (cells : List Cell)
    → put_in_at (count_below key cells) key rec (take_out_at (count_below key cells) key cells) ≡ set_cell key rec cells
set_is key rec [] = refl
set_is key rec (cell ∷ cells) = set_step key rec cell cells (is_below cell.key key) (set_is key rec cells)

-- the same, with each step's value under a name of its own
pub set_by : (key looked : List ℕ) (rec : Option (List ℕ)) (cells seen out : List Cell) (place : ℕ) → place ≡ count_below looked seen → looked ≡ key → seen ≡ cells
    → out ≡ take_out_at place looked cells → put_in_at place key rec out ≡ set_cell key rec cells
set_by key looked rec cells seen out place at k same taken = rw (taken, at, k, same) (set_is key rec cells)

-- the place is within what is left
pub place_within_rest : (key looked : List ℕ) (cells seen out : List Cell) (place : ℕ) → place ≡ count_below looked seen → looked ≡ key → seen ≡ cells
    → out ≡ take_out_at place looked cells → place ≤ length out
place_within_rest key looked cells seen out place at k same taken = rw (taken, at, k, same) (count_within_rest key cells)

-- what is below a key is below each cell that the key is below
pub below_each : (key other : List ℕ) (cells : List Cell) → is_below key other ≡ true → IsBelowEach other cells → IsBelowEach key cells
below_each key other [] less each = tt
below_each key other (cell ∷ cells) less each = (below_trans key other cell.key less each.0, below_each key other cells less each.1)

-- a key below each cell has none
pub none_below : (key : List ℕ) (cells : List Cell) → IsBelowEach key cells → (rec : List ℕ) → Among (record { key = key; rec = rec }) cells → ⊥
none_below key [] each rec there = absurd there
none_below key (cell ∷ cells) each rec there =
    ⊎_elim
    (λ same. true≢false (sym each.0 ∙ ap (λ (c : Cell). is_below key c.key) (sym same) ∙ below_irrefl key))
    (λ following. none_below key cells each.1 rec following)
    there

-- where a cell is not below a key, the key is below what is left but for the cell of that key
pub rest_above : (key : List ℕ) (cell : Cell) (cells : List Cell) → is_below cell.key key ≡ false → AreAscending (cell ∷ cells)
    → IsBelowEach key (cond (bytes_eq cell.key key) cells (cell ∷ cells)) × AreAscending (cond (bytes_eq cell.key key) cells (cell ∷ cells))
rest_above key cell cells at_least ascending =
    cond_both (bytes_eq cell.key key) cells (cell ∷ cells) (λ (rest : List Cell). IsBelowEach key rest × AreAscending rest)
    (λ same. (subst (λ (k : List ℕ). IsBelowEach k cells) ((bytes_eq-Decides cell.key key).0 same) ascending.0, ascending.1))
    (λ other.
    let less : is_below key cell.key ≡ true =
    ⊎_elim (λ less. less) (λ no_less. absurd (true≢false (sym ((bytes_eq-Decides cell.key key).1 (same_from_neither cell.key key at_least no_less)) ∙ other)))
    (cases_Bool (is_below key cell.key)) in
    ((less, below_each key cell.key cells less ascending.0), ascending))

here_below : (key other : List ℕ) (rec : Option (List ℕ)) (cells : List Cell) → is_below other key ≡ true → IsBelowEach other cells → IsBelowEach other (set_here key rec cells)
here_below key other None cells less each = each
here_below key other (Some rec) cells less each = (less, each)

-- what is below each cell and below a key stays below each when the key is set
pub set_below : (key other : List ℕ) (rec : Option (List ℕ)) (cells : List Cell) → is_below other key ≡ true → IsBelowEach other cells → IsBelowEach other (set_cell key rec cells)
set_below key other rec [] less each = here_below key other rec [] less tt
set_below key other rec (cell ∷ cells) less each =
    cond_both (is_below cell.key key) (cell ∷ set_cell key rec cells) (set_here key rec (cond (bytes_eq cell.key key) cells (cell ∷ cells))) (λ (now : List Cell). IsBelowEach other now)
    (λ _. (each.0, set_below key other rec cells less each.1))
    (λ _. here_below key other rec (cond (bytes_eq cell.key key) cells (cell ∷ cells)) less
    (cond_both (bytes_eq cell.key key) cells (cell ∷ cells) (λ (rest : List Cell). IsBelowEach other rest) (λ _. each.1) (λ _. each)))

here_ascending : (key : List ℕ) (rec : Option (List ℕ)) (cells : List Cell) → IsBelowEach key cells → AreAscending cells → AreAscending (set_here key rec cells)
here_ascending key None cells each ascending = ascending
here_ascending key (Some rec) cells each ascending = (each, ascending)

-- cells stay in ascending order when a key is set
pub set_ascending : (key : List ℕ) (rec : Option (List ℕ)) (cells : List Cell) → AreAscending cells → AreAscending (set_cell key rec cells)
set_ascending key rec [] ascending = here_ascending key rec [] tt tt
set_ascending key rec (cell ∷ cells) ascending =
    cond_both (is_below cell.key key) (cell ∷ set_cell key rec cells) (set_here key rec (cond (bytes_eq cell.key key) cells (cell ∷ cells))) (λ (now : List Cell). AreAscending now)
    (λ less. (set_below key cell.key rec cells less ascending.0, set_ascending key rec cells ascending.1))
    (λ at_least. let rest = rest_above key cell cells at_least ascending in
    here_ascending key rec (cond (bytes_eq cell.key key) cells (cell ∷ cells)) rest.0 rest.1)

-- a key and a record are among cells after a key is set: they are what was set, or were there under another key
abbrev pub IsSetOrOther : List ℕ → Option (List ℕ) → List Cell → List ℕ → List ℕ → Type 0
IsSetOrOther key rec cells k r = ((k ≡ key) × (rec ≡ Some r)) ⊎ ((k ≢ key) × Among (record { key = k; rec = r }) cells)

here_exact : (key : List ℕ) (rec : Option (List ℕ)) (cells : List Cell) → IsBelowEach key cells → (k r : List ℕ)
    → Among (record { key = k; rec = r }) (set_here key rec cells) ↔ IsSetOrOther key rec cells k r
here_exact key None cells each k r = (
  λ there. inr ((λ same. none_below key cells each r (subst (λ (x : List ℕ). Among (record { key = x; rec = r }) cells) same there)), there),
  λ set. ⊎_elim (λ here. absurd (cc here.1)) (λ other. other.1) set,
)
here_exact key (Some rec) cells each k r = (
  λ there. ⊎_elim
      (λ same. inl (ap (λ (c : Cell). c.key) same, ap (λ (c : Cell). Some c.rec) (sym same)))
      (λ following. inr ((λ same. none_below key cells each r (subst (λ (x : List ℕ). Among (record { key = x; rec = r }) cells) same following)), following))
      there,
  λ set. ⊎_elim
      (λ here. let e : rec ≡ r = (let f : Some rec ≡ Some r = here.1 in cc) in inl (ap (λ (x : List ℕ). record { key = x; rec = r }) here.0 ∙ ap (λ (x : List ℕ). record { key = key; rec = x }) (sym e)))
      (λ other. inr other.1)
      set,
)

other_there : (key : List ℕ) (cell : Cell) (cells : List Cell) (k r : List ℕ) → k ≢ key
    → Among (record { key = k; rec = r }) (cond (bytes_eq cell.key key) cells (cell ∷ cells)) ↔ Among (record { key = k; rec = r }) (cell ∷ cells)
other_there key cell cells k r differ =
    cond_both (bytes_eq cell.key key) cells (cell ∷ cells)
    (λ (rest : List Cell). Among (record { key = k; rec = r }) rest ↔ ((record { key = k; rec = r } ≡ cell) ⊎ Among (record { key = k; rec = r }) cells))
    (λ same. (λ there. inr there, λ there. ⊎_elim (λ here. absurd (differ (ap (λ (c : Cell). c.key) here ∙ (bytes_eq-Decides cell.key key).0 same))) (λ following. following) there))
    (λ _. (λ there. there, λ there. there))

set_exact_below : (key : List ℕ) (rec : Option (List ℕ)) (cell : Cell) (cells : List Cell) (k r : List ℕ)
    → (Among (record { key = k; rec = r }) (set_cell key rec cells) ↔ IsSetOrOther key rec cells k r) → is_below cell.key key ≡ true
    → Among (record { key = k; rec = r }) (cell ∷ set_cell key rec cells) ↔ IsSetOrOther key rec (cell ∷ cells) k r
set_exact_below key rec cell cells k r following less = (
  λ there. ⊎_elim
      (λ here. inr ((λ same. true≢false (sym less ∙ ap (λ (x : List ℕ). is_below x key) (sym (ap (λ (c : Cell). c.key) here) ∙ same) ∙ below_irrefl key)), inl here))
      (λ later. ⊎_elim (λ set. inl set) (λ other. inr (other.0, inr other.1)) (following.0 later))
      there,
  λ set. ⊎_elim
      (λ here. inr (following.1 (inl here)))
      (λ other. ⊎_elim (λ here. inl here) (λ later. inr (following.1 (inr (other.0, later)))) other.1)
      set,
)

set_exact_here : (key : List ℕ) (rec : Option (List ℕ)) (cell : Cell) (cells : List Cell) (k r : List ℕ) → AreAscending (cell ∷ cells) → is_below cell.key key ≡ false
    → Among (record { key = k; rec = r }) (set_here key rec (cond (bytes_eq cell.key key) cells (cell ∷ cells))) ↔ IsSetOrOther key rec (cell ∷ cells) k r
set_exact_here key rec cell cells k r ascending at_least =
    let here = here_exact key rec (cond (bytes_eq cell.key key) cells (cell ∷ cells)) (rest_above key cell cells at_least ascending).0 k r in (
      λ there. ⊎_elim (λ set. inl set) (λ other. inr (other.0, (other_there key cell cells k r other.0).0 other.1)) (here.0 there),
      λ set. here.1 (⊎_elim (λ now. inl now) (λ other. inr (other.0, (other_there key cell cells k r other.0).1 other.1)) set),
    )

-- what is among cells after a key is set
pub set_exact : (key : List ℕ) (rec : Option (List ℕ)) (cells : List Cell) → AreAscending cells → (k r : List ℕ)
    → Among (record { key = k; rec = r }) (set_cell key rec cells) ↔ IsSetOrOther key rec cells k r
set_exact key rec [] ascending k r = here_exact key rec [] tt k r
set_exact key rec (cell ∷ cells) ascending k r =
    cond_both (is_below cell.key key) (cell ∷ set_cell key rec cells) (set_here key rec (cond (bytes_eq cell.key key) cells (cell ∷ cells)))
    (λ (now : List Cell). Among (record { key = k; rec = r }) now ↔ IsSetOrOther key rec (cell ∷ cells) k r)
    (λ less. set_exact_below key rec cell cells k r (set_exact key rec cells ascending.1 k r) less)
    (λ at_least. set_exact_here key rec cell cells k r ascending at_least)
