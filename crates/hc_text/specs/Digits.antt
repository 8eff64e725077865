-- Hexadecimal digits in upper case.
use Rattle.std.specs.Prelude.{ℕ, List, [], ◌∷◌, ◌+◌, ◌/◌, ◌%◌, nat_lt, if◌then◌else◌}

-- the digit of a number below 16: 0 to 9 from 48 on, A to F from 65 on
abbrev pub hex_digit : ℕ → ℕ
hex_digit value = if nat_lt value 10 then 48 + value else 55 + value

-- a byte as two digits, the high one first
abbrev pub byte_digits : ℕ → List ℕ
byte_digits byte = hex_digit (byte / 16) ∷ hex_digit (byte % 16) ∷ []
