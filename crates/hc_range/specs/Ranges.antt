-- Ranges of byte strings, and lists of ranges as sets of byte strings.
use Rattle.std.specs.Prelude.{ℕ, Bool, true, false, not, List, [], ◌∷◌, ◌⊎◌, Option, Some, None, IsTrue}
use Rattle.hc_range.specs.Order.{is_below, higher, lower, IsAtMost}
use Rattle.hc_range.specs.declared.range.Range.{Range}

-- whether a key is below an upper end; where there is no end, each key is
abbrev pub is_under : List ℕ → Option (List ℕ) → Bool
is_under key None = true
is_under key (Some end) = is_below key end

-- whether an upper end is below a key; where there is no end, it is below none
abbrev pub is_end_below : Option (List ℕ) → List ℕ → Bool
is_end_below None key = false
is_end_below (Some end) key = is_below end key

-- whether an upper end is at most another
abbrev pub is_end_at_most : Option (List ℕ) → Option (List ℕ) → Bool
is_end_at_most end None = true
is_end_at_most end (Some other) = not (is_under other end)

-- the later of two upper ends
abbrev pub later : Option (List ℕ) → Option (List ℕ) → Option (List ℕ)
later None other = None
later (Some end) None = None
later (Some end) (Some other) = Some (higher end other)

-- a key lies in a range: at its lower end or above, and below its upper end
abbrev pub InRange : Range → List ℕ → Type 0
InRange range key = IsAtMost range.lo key × IsTrue (is_under key range.hi)

-- the range that takes the place of a stretch of ranges, of which the first and the last are given, and
-- of one that overlaps or touches each of them: from the lower of the lower ends to the later of the
-- upper ends
abbrev pub united : Range → Range → Range → Range
united range first last = record { lo = lower range.lo first.lo; hi = later range.hi last.hi }

-- some key lies in both ranges. Where one does, the higher of the two lower ends does (a law says so),
-- so it makes no difference whether a key is any list of numbers or a string of bytes
abbrev pub Meet : Range → Range → Type 0
Meet a b = (key : List ℕ) × InRange a key × InRange b key

-- a key lies in one of the ranges
abbrev pub InAny : List Range → List ℕ → Type 0
InAny [] key = ⊥
InAny (range ∷ ranges) key = InRange range key ⊎ InAny ranges key

-- each key of a range lies in one of the ranges. Where that fails, it fails at the range's lower end or
-- at the upper end of one of the ranges, so here too strings of bytes are enough
abbrev pub Includes : List Range → Range → Type 0
Includes ranges part = (key : List ℕ) → InRange part key → InAny ranges key

-- a ends below where b begins, so they do not overlap, and do not touch either. A range with no upper
-- end ends below nothing
abbrev pub EndsBelow : Range → Range → Type 0
EndsBelow a b = IsTrue (is_end_below a.hi b.lo)

-- a ends below where each of the ranges begins
abbrev pub EndsBelowEach : Range → List Range → Type 0
EndsBelowEach a [] = Unit {0}
EndsBelowEach a (b ∷ ranges) = EndsBelow a b × EndsBelowEach a ranges

-- a range that is not empty: its lower end lies in it
abbrev pub IsNonEmpty : Range → Type 0
IsNonEmpty range = IsTrue (is_under range.lo range.hi)

-- the normal form of a set: no range is empty, they ascend, and no two overlap or touch
abbrev pub IsNormal : List Range → Type 0
IsNormal [] = Unit {0}
IsNormal (range ∷ ranges) = IsNonEmpty range × EndsBelowEach range ranges × IsNormal ranges
