-- How bytes are read as a record, and which fault they have: the first that is found from the left, where
-- the header is tested whole before the bodies. An integer's fault of Spelling is found at its body and
-- reported at its type; every other one is reported where it is found. A place is how many bytes come before it;
-- `end` is that of the end of all bytes. The faults are our own, and so is it that only the shortest
-- varint and the writer's type are taken: SQLite's document has neither.
use Rattle.std.specs.Prelude.{ℕ, zero, suc, ◌+◌, ◌-◌, ◌*◌, ◌%◌, ◌^◌, ◌==◌, ◌||◌, ◌≡◌, Bool, ℤ, pos, List, [], ◌∷◌, length, take, drop, fold, slice_index, Option, Some, None, Result, Ok, Err, IsOk, nat_lt, if◌then◌else◌}
use Rattle.std.specs.Str.{is_utf8}
use Rattle.std.specs.Int.{w64, cast_signed}
use Rattle.hc_value.specs.declared.value.Value.{Value}
use Rattle.hc_value.specs.declared.value.Value.TheVariants.{Null, Int, Text, Blob}
use Rattle.hc_record.specs.declared.fault.RecordKind.{RecordKind}
use Rattle.hc_record.specs.declared.fault.RecordKind.TheVariants.{Short, BadType, Spelling, Utf8, Tail}
use Rattle.hc_record.specs.declared.fault.RecordFault.{RecordFault}
use Rattle.hc_record.specs.declared.fault.RecordFault.TheVariants.{Bad, NoMemory}
use Rattle.hc_record.specs.Varint.{varint_len, read_varint}
use Rattle.hc_record.specs.Record.{body_len, type_of_int, header_len}

-- a step, and the next one with what it gave; a fault ends the reading
infixl 10 ◌>>=◌
abbrev pub ◌>>=◌ : {A B : Type 0} → Result A RecordFault → (A → Result B RecordFault) → Result B RecordFault
(Ok x) >>= f = f x
(Err e) >>= f = Err e

abbrev pub fault : {A : Type 0} → ℕ → RecordKind → Result A RecordFault
fault at kind = Err (Bad at kind)

-- A number and what follows it, in bytes that go up to `stop`. One that the bytes end in is Short there,
-- and one in more bytes than it takes is a fault of Spelling at its first byte.
abbrev pub number_among : ℕ → List ℕ → Option (ℕ × List ℕ) → Result (ℕ × List ℕ) RecordFault
number_among stop bytes None = fault stop Short
number_among stop bytes (Some (n, rest)) = if length bytes == varint_len n + length rest then Ok (n, rest) else fault (stop - length bytes) Spelling

unfoldable pub number_at : ℕ → List ℕ → Result (ℕ × List ℕ) RecordFault
number_at stop bytes = number_among stop bytes (read_varint 8 0 bytes)

-- no value has the types 7, 10 and 11
abbrev pub is_bad : ℕ → Bool
is_bad t = t == 7 || (t == 10 || t == 11)

-- a type and what follows it
unfoldable pub type_at : ℕ → List ℕ → Result (ℕ × List ℕ) RecordFault
type_at stop bytes = number_at stop bytes >>= λ t. if is_bad t.0 then fault (stop - length bytes) BadType else Ok t

-- each type with its place, up to `stop`: at most so many of them
abbrev pub types_within : ℕ → ℕ → List ℕ → Result (List (ℕ × ℕ)) RecordFault
types_within zero stop bytes = Ok []
types_within (suc most) stop [] = Ok []
types_within (suc most) stop (b ∷ bytes) = type_at stop (b ∷ bytes) >>= λ t. types_within most stop t.1 >>= λ types. Ok ((stop - length (b ∷ bytes), t.0) ∷ types)

-- all of them: there are no more types than bytes
unfoldable pub types_at : ℕ → List ℕ → Result (List (ℕ × ℕ)) RecordFault
types_at stop bytes = types_within (length bytes) stop bytes

-- the bits above a body in two's complement: as its first one
abbrev pub bits_above : List ℕ → ℕ
bits_above bytes = if nat_lt (slice_index bytes 0) 128 then 0 else 2 ^ (64 - 8 * length bytes) - 1

-- the integer of a body (`IsBodyReadAgain` of Laws says that it is the one whose body this is)
abbrev pub integer_of : List ℕ → ℤ
integer_of bytes = cast_signed w64 (fold (λ high byte. high * 256 + byte) (bits_above bytes) bytes)

-- The value of a type t that is not bad (at the place `type_place`), whose body is these bytes (at the place `place`). An
-- integer of another type than the writer's is a fault of Spelling at its type, and a text that is
-- not UTF-8 one at its body.
unfoldable pub value_of : ℕ → ℕ → ℕ → List ℕ → Result Value RecordFault
value_of type_place place t body =
    if t == 0 then Ok Null
    else (if nat_lt t 7 then (if type_of_int (integer_of body) == t then Ok (Int (integer_of body)) else fault type_place Spelling)
    else (if nat_lt t 12 then Ok (Int (if t == 9 then pos 1 else pos 0))
    else (if t % 2 == 0 then Ok (Blob body)
    else (if is_utf8 body then Ok (Text body) else fault place Utf8))))

-- A value and what follows its body. A body that the bytes end in is Short there, also where it is no
-- text so far.
unfoldable pub value_at : ℕ → ℕ × ℕ → List ℕ → Result (Value × List ℕ) RecordFault
value_at end type bytes =
    if nat_lt (length bytes) (body_len type.1) then fault end Short
    else (value_of type.0 (end - length bytes) type.1 (take (body_len type.1) bytes) >>= λ v. Ok (v, drop (body_len type.1) bytes))

-- the values, and what follows the last body
abbrev pub values_at : ℕ → List (ℕ × ℕ) → List ℕ → Result (List Value × List ℕ) RecordFault
values_at end [] bytes = Ok ([], bytes)
values_at end (type ∷ types) bytes = value_at end type bytes >>= λ v. values_at end types v.1 >>= λ values. Ok (v.0 ∷ values.0, values.1)

-- the values of all types up to `stop`, and what follows the last body
unfoldable pub values_of_types : ℕ → ℕ → List ℕ → List ℕ → Result (List Value × List ℕ) RecordFault
values_of_types stop end types bytes = types_at stop types >>= λ all. values_at end all bytes

-- After a header's length: the types up to the header's end, and then the bodies. Where the bytes end
-- before the header does, and no type before it is at fault, they are Short.
unfoldable pub columns_at : ℕ → ℕ → List ℕ → Result (List Value × List ℕ) RecordFault
columns_at end size bytes =
    if nat_lt (length bytes) size then (types_at end bytes >>= λ types. fault end Short)
    else values_of_types (end - length (drop size bytes)) end (take size bytes) (drop size bytes)

-- A record at the front of the bytes. A header's length that no header has is a fault of Spelling at 0.
unfoldable pub record_at : List ℕ → Result (List Value × List ℕ) RecordFault
record_at bytes =
    number_at (length bytes) bytes >>= λ header.
    if header_len (header.0 - varint_len header.0) == header.0 then columns_at (length bytes) (header.0 - varint_len header.0) header.1
    else fault 0 Spelling

-- all of the bytes: what follows the last body is a Tail. `NoMemory` is never given here.
unfoldable pub reading : List ℕ → Result (List Value) RecordFault
reading bytes = record_at bytes >>= λ found. if length found.1 == 0 then Ok found.0 else fault (length bytes - length found.1) Tail

-- what a call answered is what is read there, unless memory ran out
abbrev pub Fails : {B : Type 0} → RecordFault → Result B RecordFault → Type 0
Fails NoMemory read = Unit {0}
Fails (Bad at kind) read = read ≡ Err (Bad at kind)

abbrev pub Gives : {A B : Type 0} → (A → B) → Result A RecordFault → Result B RecordFault → Type 0
Gives view (Ok x) read = read ≡ Ok (view x)
Gives view (Err e) read = Fails e read

-- a call that tests whether something is read, and keeps nothing of it
abbrev pub Tests : {A B : Type 0} → Result A RecordFault → Result B RecordFault → Type 0
Tests (Ok x) read = IsOk read
Tests (Err e) read = Fails e read
