-- Numbers within a range, as parts of an output.
use Rattle.std.specs.Prelude.{◌≡◌, ℕ, ◌≤◌, List, ◌++◌, decimal}

-- from the least one to the greatest
abbrev pub IsWithin : ℕ → ℕ → ℕ → Type 0
IsWithin low high n = (low ≤ n) × (n ≤ high)

-- the digits of the number begin with those of m
abbrev pub BeginsWith : ℕ → ℕ → Type 0
BeginsWith n m = (more : List ℕ) × (decimal n ≡ decimal m ++ more)

-- some number within the range begins so
abbrev pub SomeBegins : ℕ → ℕ → ℕ → Type 0
SomeBegins m low high = (n : ℕ) × IsWithin low high n × BeginsWith n m

-- none does
abbrev pub NoneBegins : ℕ → ℕ → ℕ → Type 0
NoneBegins m low high = (n : ℕ) → IsWithin low high n → BeginsWith n m → ⊥
