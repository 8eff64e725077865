-- The bytes that a source in memory has left.
use Rattle.std.specs.Prelude.{ℕ, List, drop}
use Rattle.hc_io.specs.declared.memory_source.MemSource.{MemSource}
use Rattle.hc_io.specs.declared.memory_source.SureSource.{SureSource}

-- those after the ones that were read
abbrev pub left_in : MemSource → List ℕ
left_in source = drop source.at source.bytes

-- the same of a source that never fails
abbrev pub sure_left_in : SureSource → List ℕ
sure_left_in source = drop source.at source.bytes
