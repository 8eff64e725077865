-- Values as a contract sees them. It could speak of others: integers of any size, and texts of any bytes.
use Rattle.std.specs.Prelude.{FitsSigned, List}
use Rattle.std.specs.Int.{w64}
use Rattle.std.specs.Str.{IsUtf8}
use Rattle.std.specs.List.{AllByRecursion}
use Rattle.hc_value.specs.declared.value.Value.{Value}
use Rattle.hc_value.specs.declared.value.Value.TheVariants.{Null, Int, Text, Blob}

-- a value that the program can have: an integer of 64 bits, a text in UTF-8
abbrev pub IsValue : Value → Type 0
IsValue Null = Unit {0}
IsValue (Int n) = FitsSigned w64 n
IsValue (Text text) = IsUtf8 text
IsValue (Blob bytes) = Unit {0}

abbrev pub AreValues : List Value → Type 0
AreValues values = AllByRecursion IsValue values
