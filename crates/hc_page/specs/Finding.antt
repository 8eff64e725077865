-- Finding: where a key is, or would be, among keys in ascending order.
use Rattle.std.specs.Prelude.{◌≡◌, ◌≤◌, ℕ, List, ◌∷◌, take, drop, length}
use Rattle.std.specs.List.{All}
use Rattle.hc_range.specs.Order.{IsBelow}
use Rattle.hc_page.specs.declared.search.Found.{Found}
use Rattle.hc_page.specs.declared.search.Found.TheVariants.{At, Before}

-- At: the key of this number. Before: the keys up to this number are below, and those from it on are above.
abbrev pub IsFound : List (List ℕ) → List ℕ → Found → Type 0
IsFound keys key (At slot) = (after : List (List ℕ)) × (drop slot keys ≡ key ∷ after)
IsFound keys key (Before slot) =
    (slot ≤ length keys) × All (λ other. IsBelow other key) (take slot keys) × All (λ other. IsBelow key other) (drop slot keys)
