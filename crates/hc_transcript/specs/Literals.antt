-- Values as literals, and which values an output can have.
use Rattle.std.specs.Prelude.{ℕ, List, [], ◌∷◌, ◌++◌, codes, flat_map, map}
use Rattle.std.specs.Fmt.{signed_decimal}
use Rattle.std.specs.List.{join_with_byte}
use Rattle.hc_text.specs.Bytes.{AreBytes}
use Rattle.hc_text.specs.Digits.{byte_digits}
use Rattle.hc_text.specs.Quotes.{quoted}
use Rattle.hc_value.specs.declared.value.Value.{Value}
use Rattle.hc_value.specs.declared.value.Value.TheVariants.{Null, Int, Text, Blob}
use Rattle.hc_value.specs.Values.{IsValue}

-- a text, or a name, in single quotes (39), which are doubled within
abbrev pub text_literal : List ℕ → List ℕ
text_literal text = quoted 39 text

-- the digits of a byte string, two a byte
abbrev pub hex : List ℕ → List ℕ
hex bytes = flat_map byte_digits bytes

-- a byte string in digits, as `X'..'`
abbrev pub blob_literal : List ℕ → List ℕ
blob_literal bytes = codes "X'" ++ hex bytes ++ 39 ∷ []

-- NULL, the decimal digits with a minus in front below zero, `'..'`, or `X'..'`
abbrev pub value_text : Value → List ℕ
value_text Null = codes "NULL"
value_text (Int n) = signed_decimal n
value_text (Text text) = text_literal text
value_text (Blob bytes) = blob_literal bytes

-- values with bars (124) between them
abbrev pub values_text : List Value → List ℕ
values_text values = join_with_byte 124 (map value_text values)

-- where it is a blob, it is one of bytes
abbrev pub HasBytes : Value → Type 0
HasBytes Null = Unit {0}
HasBytes (Int n) = Unit {0}
HasBytes (Text text) = Unit {0}
HasBytes (Blob bytes) = AreBytes bytes

-- an integer of 64 bits, a text in UTF-8, a blob of bytes
abbrev pub IsPrintable : Value → Type 0
IsPrintable value = IsValue value × HasBytes value
