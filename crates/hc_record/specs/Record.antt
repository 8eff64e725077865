-- The bytes of a record: "Record Format" of https://www.sqlite.org/fileformat2.html.
use Rattle.std.specs.Prelude.{ℕ, ◌+◌, ◌-◌, ◌*◌, ◌/◌, ◌^◌, ◌==◌, ℤ, pos, negsuc, List, [], ◌++◌, length, flat_map, nat_lt, if◌then◌else◌}
use Rattle.std.specs.Int.{w64, cast_unsigned, bytes_high_first}
use Rattle.hc_value.specs.declared.value.Value.{Value}
use Rattle.hc_value.specs.declared.value.Value.TheVariants.{Null, Int, Text, Blob}
use Rattle.hc_record.specs.Varint.{varint, varint_len}

-- how many bytes the body of a serial type has ("Serial Type Codes Of The Record Format"); the reserved
-- types and the type of floating point numbers have none here
unfoldable pub body_len : ℕ → ℕ
body_len t =
    if nat_lt t 5 then t
    else (if t == 5 then 6 else (if t == 6 then 8 else (if nat_lt t 12 then 0 else (t - 12) / 2)))

-- the first type of the table that holds a number of this magnitude: a number, or below 0 its complement
unfoldable pub type_of_magnitude : ℕ → ℕ
type_of_magnitude magnitude =
    if nat_lt magnitude (2 ^ 7) then 1
    else (if nat_lt magnitude (2 ^ 15) then 2
    else (if nat_lt magnitude (2 ^ 23) then 3
    else (if nat_lt magnitude (2 ^ 31) then 4 else (if nat_lt magnitude (2 ^ 47) then 5 else 6))))

-- 0 and 1 have types of their own, without a body
abbrev pub type_of_int : ℤ → ℕ
type_of_int (pos n) = if nat_lt n 2 then 8 + n else type_of_magnitude n
type_of_int (negsuc n) = type_of_magnitude n

-- the serial type that a value is written with
abbrev pub type_of : Value → ℕ
type_of Null = 0
type_of (Int n) = type_of_int n
type_of (Text text) = 13 + 2 * length text
type_of (Blob bytes) = 12 + 2 * length bytes

-- the body of a value: an integer in two's complement, of which a shorter form is the low bytes of the
-- 64-bit one, big-endian; the bytes of a text or a blob
abbrev pub body_of : Value → List ℕ
body_of Null = []
body_of (Int n) = bytes_high_first (body_len (type_of_int n)) (cast_unsigned w64 n)
body_of (Text text) = text
body_of (Blob bytes) = bytes

-- the types of the values, and the bodies of the values, one after another
abbrev pub types_of : List Value → List ℕ
types_of values = flat_map (λ v. varint (type_of v)) values

abbrev pub bodies_of : List Value → List ℕ
bodies_of values = flat_map body_of values

-- the length of a header with so many bytes of types. It counts itself too: the bytes that the sum takes.
unfoldable pub header_len : ℕ → ℕ
header_len types_len = types_len + varint_len (types_len + varint_len types_len)

-- a record: the header's length, the types, the bodies
unfoldable pub encoding : List Value → List ℕ
encoding values = varint (header_len (length (types_of values))) ++ (types_of values ++ bodies_of values)
