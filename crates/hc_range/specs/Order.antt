-- Byte order. Two byte strings compare by the first byte in which they differ; where one is a proper
-- prefix of the other it comes first. This is the standard library's order of slices of numbers. It is
-- defined for any numbers, so no fact here has to say that a byte is below 256.
use Rattle.std.specs.Prelude.{ℕ, Bool, List, [], ◌∷◌, ◌++◌, IsTrue, IsFalse, if◌then◌else◌}
use Rattle.std.specs.Ordering.{nat_cmp, is_lt}
use Rattle.std.specs.Cmp.Lexicographic.{slice_cmp}

-- whether a comes before b
unfoldable pub is_below : List ℕ → List ℕ → Bool
is_below a b = is_lt (slice_cmp nat_cmp a b)

-- a comes before b
abbrev pub IsBelow : List ℕ → List ℕ → Type 0
IsBelow a b = IsTrue (is_below a b)

-- a comes before b or is b: b does not come before a
abbrev pub IsAtMost : List ℕ → List ℕ → Type 0
IsAtMost a b = IsFalse (is_below b a)

-- the later of two keys, and the earlier
abbrev pub higher : List ℕ → List ℕ → List ℕ
higher a b = if is_below a b then b else a

abbrev pub lower : List ℕ → List ℕ → List ℕ
lower a b = if is_below b a then b else a

-- the next byte string after a key: the key and a byte 0
abbrev pub successor : List ℕ → List ℕ
successor key = key ++ 0 ∷ []
