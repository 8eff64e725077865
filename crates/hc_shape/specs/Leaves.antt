-- Leaves: which number has a key, where each number of a level has a low fence.
use Rattle.std.specs.Prelude.{ℕ, cond, eqb, ◌&&◌, not, List, [], ◌∷◌, map}
use Rattle.hc_range.specs.Order.{is_below, IsBelow}
use Rattle.hc_base.specs.Content.{Ascends}
use Rattle.hc_base.specs.Lookup.{Among}

-- of a number and those to the right of it, the last whose low fence is not above the key, and the first if there is no such
abbrev pub number_in : (ℕ → List ℕ) → List ℕ → ℕ → List ℕ → ℕ
number_in low key here [] = here
number_in low key here (next ∷ more) = cond (is_below key (low next)) here (number_in low key next more)

-- the number of a level that has the key; 0, which is no number, where the level has none
abbrev pub number_of : (ℕ → List ℕ) → List ℕ → List ℕ → ℕ
number_of low key [] = 0
number_of low key (here ∷ more) = number_in low key here more

-- a level with a new number next to one that it has, to the right of it
abbrev pub with_next : ℕ → ℕ → List ℕ → List ℕ
with_next at new [] = []
with_next at new (n ∷ more) = n ∷ cond (eqb n at) (new ∷ more) (with_next at new more)

-- The low fences of a level's numbers ascend from left to right.
abbrev pub LowsAscend : (ℕ → List ℕ) → List ℕ → Type 0
LowsAscend low numbers = Ascends (map low numbers)

-- A number of the level can give its keys from the cut on to a new number: the cut is above its low fence, and below
-- that of each number to the right of it.
pub record CanCut (low : ℕ → List ℕ) (numbers : List ℕ) (at new : ℕ) (cut : List ℕ) : Type 0 where
  pub ascends : LowsAscend low numbers
  pub there : Among at numbers
  pub fresh : Among new numbers → ⊥
  pub above : IsBelow (low at) cut
  pub below : (n : ℕ) → Among n numbers → IsBelow (low at) (low n) → IsBelow cut (low n)

-- the keys of one number from the cut on are the new one's
abbrev pub moved : ℕ → ℕ → List ℕ → List ℕ → ℕ → ℕ
moved at new cut key n = cond (eqb n at && not (is_below key cut)) new n
