-- Laws: what follows from the definitions alone.
use Rattle.std.specs.Prelude.{◌≡◌, ℕ, ◌<◌, ◌≤◌}
use Rattle.hc_pool.specs.Claiming.{in_turn}

-- in turn from a page that page is the first, and of so many as there are each is one, and no two are the same
abbrev pub EachPageHasItsTurn : Type 0
EachPageHasItsTurn = (pages from : ℕ) → 0 < from → from ≤ pages → (in_turn pages from 0 ≡ from) × ((p : ℕ) → 0 < p → p ≤ pages → (n : ℕ) × (n < pages) × (in_turn pages from n ≡ p)) × ((m n : ℕ) → m < pages → n < pages → in_turn pages from m ≡ in_turn pages from n → m ≡ n)
