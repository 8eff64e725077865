-- The integers of a list by their places.
use Rattle.std.specs.Prelude.{ℕ, ◌<◌, ◌^◌, ℤ, List, Option, Some, None, slice_get}
use Rattle.std.specs.List.{AllByRecursion}
use Rattle.hc_value.specs.declared.value.Value.{Value}
use Rattle.hc_value.specs.declared.value.Value.TheVariants.{Null, Int, Text, Blob}
use Rattle.hc_record.specs.Record.{type_of}

-- an integer's number; the other values have none
abbrev pub number_of : Option Value → Option ℤ
number_of None = None
number_of (Some Null) = None
number_of (Some (Int n)) = Some n
number_of (Some (Text text)) = None
number_of (Some (Blob bytes)) = None

-- the integer at a place, counted from 0
abbrev pub integer_at : List Value → ℕ → Option ℤ
integer_at values place = number_of (slice_get values place)

-- values whose types are numbers of 64 bits
abbrev pub HaveTypes : List Value → Type 0
HaveTypes values = AllByRecursion (λ v. type_of v < 2 ^ 64) values
