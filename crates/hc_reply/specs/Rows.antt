-- The ends of values in a row: a bar (124), or a line feed (10) after the last one.
use Rattle.std.specs.Prelude.{◌≢◌, ℕ, Bool, true, false, List, [], ◌∷◌}

-- what follows the last value, and others
abbrev pub separator : Bool → ℕ
separator true = 10
separator false = 124

abbrev pub NoSeparator : List ℕ → Type 0
NoSeparator [] = Unit {0}
NoSeparator (b ∷ rest) = (b ≢ 10) × (b ≢ 124)
