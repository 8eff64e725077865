-- Ranges that are cut at a key.
use Rattle.std.specs.Prelude.{◌≡◌, ℕ, List, [], Some}
use Rattle.hc_range.specs.declared.range.Range.{Range}
use Rattle.hc_range.specs.Order.{IsBelow}
use Rattle.hc_range.specs.Ranges.{InRange}
use Rattle.hc_core.specs.declared.stop.Next.{Next}
use Rattle.hc_core.specs.declared.stop.Next.TheVariants.{More, End}

-- a key that is in a range and above where a call begins
abbrev pub IsCutAt : List ℕ → Range → List ℕ → Type 0
IsCutAt from range key = IsBelow from key × InRange range key

-- the range of all keys below a key
abbrev pub IsUpto : List ℕ → Range → Type 0
IsUpto key below = below ≡ record { lo = []; hi = Some key }

-- how far a call went in a range, that went so far below a key
abbrev pub stopped_by : List ℕ → Next → Next
stopped_by key (More stop) = More stop
stopped_by key End = More key
