-- Keys that a store takes.
use Rattle.std.specs.Prelude.{ℕ, ◌≤◌, List, length}

-- the greatest length of a key, in bytes
abbrev pub longest_key : ℕ
longest_key = 463

-- a key is no longer
abbrev pub IsShortKey : List ℕ → Type 0
IsShortKey key = length key ≤ longest_key
