-- A list that is filled from the front.
use Rattle.std.proofs.Common.{ℕ, ◌+◌, ◌<◌, List, ◌≡◌, inl, inr, ◌∙◌, sym, subst, get_or, set, length, arith}
use Rattle.std.proofs.lemmas.Bool.{cases_eq}
use Rattle.std.proofs.lemmas.List.{get_or-set_same, get_or-set_other}

pub filled_more : (f : ℕ → ℕ) (words : List ℕ) (j v : ℕ) → j < length words → ((k : ℕ) → k < j → get_or words k 0 ≡ f k) → v ≡ f j
    → (k : ℕ) → k < j + 1 → get_or (set words j v) k 0 ≡ f k
filled_more f words j v within so_far now k below = elim (cases_eq k j) [
  | inl same ↦ subst (λ i. get_or (set words j v) i 0 ≡ f i) (sym same) (get_or-set_same words j v 0 within ∙ now)
  | inr other ↦ get_or-set_other words j k v 0 other ∙ so_far k (omega (arith, below, other))
]
