-- The bytes of a key: the number of a tree, and a list of values. Each value begins with a byte that
-- tells its class, and ends where its bytes say so.
use Rattle.std.specs.Prelude.{ℕ, zero, suc, ◌+◌, ◌-◌, ◌^◌, ℤ, pos, negsuc, List, [], ◌∷◌, ◌++◌, flat_map}
use Rattle.std.specs.Int.{bytes_high_first}
use Rattle.hc_value.specs.declared.value.Value.{Value}
use Rattle.hc_value.specs.declared.value.Value.TheVariants.{Null, Int, Text, Blob}

-- An integer counted from the least one of 64 bits, which is 0 then. In two's complement that is the
-- number with its sign bit turned.
abbrev pub turned : ℤ → ℕ
turned (pos n) = 2 ^ 63 + n
turned (negsuc n) = 2 ^ 63 - 1 - n

-- a byte of a text or a blob: FF follows a 0
abbrev pub escape : ℕ → List ℕ
escape zero = 0 ∷ 255 ∷ []
escape (suc b) = suc b ∷ []

abbrev pub escaped : List ℕ → List ℕ
escaped bytes = flat_map escape bytes

-- two zeros end the bytes of a text or a blob: no escaped byte begins so
abbrev pub ended : List ℕ → List ℕ
ended bytes = escaped bytes ++ 0 ∷ 0 ∷ []

-- a value: its class, and its bytes
unfoldable pub value_bytes : Value → List ℕ
value_bytes Null = 1 ∷ []
value_bytes (Int n) = 2 ∷ bytes_high_first 8 (turned n)
value_bytes (Text text) = 3 ∷ ended text
value_bytes (Blob bytes) = 4 ∷ ended bytes

abbrev pub list_bytes : List Value → List ℕ
list_bytes values = flat_map value_bytes values

-- a key: the tree's number in four bytes, big-endian, and the values one after another
unfoldable pub key_bytes : ℕ → List Value → List ℕ
key_bytes tree values = bytes_high_first 4 tree ++ list_bytes values
