-- Integers of 64 bits among all integers.
use Rattle.std.specs.Prelude.{ℤ, Option, Some, None, if◌then◌else◌}
use Rattle.hc_table.specs.Statements.{is_integer}

-- an integer, where it has 64 bits
abbrev pub fitting : Option ℤ → Option ℤ
fitting None = None
fitting (Some n) = if is_integer n then Some n else None
