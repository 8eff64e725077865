-- Ranges that were gathered, of which the keys count.
use Rattle.std.specs.Prelude.{◌≡◌, ℕ, List, ◌↔◌}
use Rattle.hc_range.specs.declared.range.Range.{Range}
use Rattle.hc_range.specs.Prepared.{Preparation}
use Rattle.hc_range.specs.Ranges.{InAny}

-- two lists of ranges have the same keys
abbrev pub HaveSameKeys : List Range → List Range → Type 0
HaveSameKeys ranges others = (key : List ℕ) → InAny ranges key ↔ InAny others key

-- there is room for a range beside ranges with the same keys
abbrev pub IsPreparedFor : List Range → Range → Preparation → Type 0
IsPreparedFor ranges range prepared = (prepared.range ≡ range) × HaveSameKeys ranges prepared.log
