-- The value of digits only grows with more of them.
use Rattle.std.proofs.Common.{◌≡◌, ◌∙◌, ◌+◌, ◌-◌, ◌*◌, ◌<◌, ◌≤◌, ℕ, List, [], ◌∷◌, length, drop, get_or, sym, subst, arith}
use Rattle.std.proofs.lemmas.List.{at_drop_more}
use Rattle.hc_lex.specs.Tokens.{greatest_integer, value_after, value_of}

-- more digits make a value no less
grows : (high : ℕ) (digits : List ℕ) → high ≤ value_after high digits
grows high [] = omega arith
grows high (b ∷ digits) =
    let more : 10 * high + (b - 48) ≤ value_after (10 * high + (b - 48)) digits = grows (10 * high + (b - 48)) digits in
    omega arith

-- a value past a tenth of the greatest is too large with one more digit
too_high : (value b : ℕ) (digits : List ℕ) → 922337203685477580 < value → greatest_integer < value_after value (b ∷ digits)
too_high value b digits high =
    let more : 10 * value + (b - 48) ≤ value_after (10 * value + (b - 48)) digits = grows (10 * value + (b - 48)) digits in
    omega arith

-- where the value of the digits before one is past a tenth of the greatest, all are too large
pub is_too_large : (digits : List ℕ) (value at : ℕ) → at < length digits → 922337203685477580 < value → value_after value (drop at digits) ≡ value_of digits → greatest_integer < value_of digits
is_too_large digits value at within high same =
    let next = at_drop_more (λ left. value_after value left) digits at 0 within in
    let large : greatest_integer < value_after value (get_or digits at 0 ∷ drop (at + 1) digits) = too_high value (get_or digits at 0) (drop (at + 1) digits) high in
    subst (λ v. greatest_integer < v) (sym next ∙ same) large
