-- A log with room for one more range.
use Rattle.std.specs.Prelude.{List}
use Rattle.hc_range.specs.declared.range.Range.{Range}

-- a log, and the range that there is room for
pub record Preparation : Type 0 where
  pub log : List Range
  pub range : Range
