-- Laws of names and of digits, each shown by a function of `laws` with an empty body.
use Rattle.std.specs.Prelude.{◌≡◌, ℕ, ◌<◌, List, true}
use Rattle.std.specs.Char.{is_ascii_hexdigit, digit_value}
use Rattle.hc_text.specs.Digits.{hex_digit}
use Rattle.hc_text.specs.Names.{SameName}

-- to be the same name is an equivalence
pub record SameNameIsAnEquivalence : Type 0 where
  pub itself : (a : List ℕ) → SameName a a
  pub other_way : (a b : List ℕ) → SameName a b → SameName b a
  pub onward : (a b c : List ℕ) → SameName a b → SameName b c → SameName a c

-- the digit of a number below 16 is a digit with that value
abbrev pub EachDigitHasItsValue : Type 0
EachDigitHasItsValue = (value : ℕ) → value < 16
    → (is_ascii_hexdigit (hex_digit value) ≡ true) × (digit_value (hex_digit value) ≡ value)
