-- Hexadecimal digits and their values.
use Rattle.std.proofs.Common.{◌≡◌, ℕ, ◌+◌, ◌-◌, ◌<◌, ◌≤◌, true, ◌⊎◌, arith}
use Rattle.std.specs.Char.{is_ascii_hexdigit, digit_value}
use Rattle.std.proofs.lemmas.Bool.Decides.{nat_tests}
use Rattle.hc_text.specs.Digits.{hex_digit}

-- a digit has a value below 16
pub hex_value_small : (c : ℕ) → is_ascii_hexdigit c ≡ true → digit_value c < 16
hex_value_small c is = grind (arith, nat_tests)

-- the digit of a number below 16 is a digit
pub hex_digit_is : (d : ℕ) → d < 16 → is_ascii_hexdigit (hex_digit d) ≡ true
hex_digit_is d small = grind (arith, nat_tests)

-- and has the number as its value
pub hex_digit_means : (d : ℕ) → d < 16 → digit_value (hex_digit d) ≡ d
hex_digit_means d small = grind (arith, nat_tests)

-- it is a byte from 48 to 57, or from 65 to 70
pub hex_digit_range : (d : ℕ) → d < 16 → ((48 ≤ hex_digit d) × (hex_digit d < 58)) ⊎ ((65 ≤ hex_digit d) × (hex_digit d < 71))
hex_digit_range d small = grind (arith, nat_tests)

-- each number below 16 has a digit of its own
pub same_hex_digit : (c d : ℕ) → c < 16 → d < 16 → hex_digit c ≡ hex_digit d → c ≡ d
same_hex_digit c d small other e = grind (arith, nat_tests)

-- a byte from 48 to 57, or from 65 to 70, is a digit
pub low_hex_digit : (b : ℕ) → 48 ≤ b → b < 58 → b ≡ hex_digit (b - 48)
low_hex_digit b low high = grind (arith, nat_tests)

pub high_hex_digit : (b : ℕ) → 65 ≤ b → b < 71 → b ≡ hex_digit (b - 65 + 10)
high_hex_digit b low high = grind (arith, nat_tests)

-- where a digit is no greater than F, it is that of its value, and each digit of a number is no greater
pub upper_is : (b : ℕ) → b ≤ 70 → is_ascii_hexdigit b ≡ true → b ≡ hex_digit (digit_value b)
upper_is b upper is = grind (arith, nat_tests)

pub hex_digit_most : (d : ℕ) → d < 16 → hex_digit d ≤ 70
hex_digit_most d small = grind (arith, nat_tests)

pub ruleset of_upper = (upper_is, hex_digit_most, hex_digit_is, hex_digit_means)
