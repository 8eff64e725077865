-- What holds of every encoding. A length below 2 ^ 32 is that of all bytes that are read or written.
use Rattle.std.specs.Prelude.{◌≡◌, ◌≢◌, ◌↔◌, ℕ, ◌^◌, ◌<◌, List, [], ◌++◌, length, slice_index, Ok, Err}
use Rattle.hc_value.specs.declared.value.Value.{Value}
use Rattle.hc_record.specs.Varint.{varint}
use Rattle.hc_value.specs.Values.{IsValue, AreValues}
use Rattle.hc_record.specs.Record.{encoding, type_of, body_of}
use Rattle.hc_record.specs.Reading.{number_at, value_at, record_at, reading}
use Rattle.hc_record.specs.declared.fault.RecordFault.TheVariants.{Bad}
use Rattle.hc_record.specs.declared.fault.RecordKind.TheVariants.{Short, Tail}

-- No encoding is the beginning of another: equal bytes are those of one list, and it ends at one place. So
-- two lists have two encodings.
abbrev pub NoEncodingBeginsAnother : Type 0
NoEncodingBeginsAnother =
    (v w : List Value) (rest more : List ℕ) → AreValues v → AreValues w → length (encoding v) < 2 ^ 32 → length (encoding w) < 2 ^ 32
    → encoding v ++ rest ≡ encoding w ++ more → (v ≡ w) × (rest ≡ more)

-- what is written of a number is read again, as its shortest form and whatever follows
abbrev pub IsNumberReadAgain : Type 0
IsNumberReadAgain = (stop n : ℕ) (rest : List ℕ) → n < 2 ^ 64 → number_at stop (varint n ++ rest) ≡ Ok (n, rest)

-- and so is a body, whose type tells its length
abbrev pub IsBodyReadAgain : Type 0
IsBodyReadAgain = (end place : ℕ) (v : Value) (rest : List ℕ) → IsValue v → value_at end (place, type_of v) (body_of v ++ rest) ≡ Ok (v, rest)

-- and so is a record, whose header tells its end
abbrev pub IsRecordReadAgain : Type 0
IsRecordReadAgain = (v : List Value) (rest : List ℕ) → AreValues v → length (encoding v) < 2 ^ 32 → record_at (encoding v ++ rest) ≡ Ok (v, rest)

-- A proper prefix of a record is Short, at its length: whatever is cut off, the fault is where the bytes end.
abbrev pub IsPrefixShort : Type 0
IsPrefixShort =
    (v : List Value) (front missing : List ℕ) → AreValues v → length (encoding v) < 2 ^ 32 → encoding v ≡ front ++ missing → 0 < length missing
    → reading front ≡ Err (Bad (length front) Short)

-- a record, and something after it
abbrev pub HasTail : List ℕ → ℕ → Type 0
HasTail bytes at = (v : List Value) × (rest : List ℕ) × AreValues v × (bytes ≡ encoding v ++ rest) × (rest ≢ []) × (at ≡ length (encoding v))

-- A Tail is what follows a record, and is told where it begins.
abbrev pub IsTailAfterRecord : Type 0
IsTailAfterRecord =
    (bytes : List ℕ) (at : ℕ) → length bytes < 2 ^ 32 → ((i : ℕ) → slice_index bytes i < 2 ^ 8)
    → (reading bytes ≡ Err (Bad at Tail)) ↔ HasTail bytes at
