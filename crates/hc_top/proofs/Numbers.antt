-- Digits are a number's text where no 0 comes before another digit, and their value fits an i64.
use Rattle.std.proofs.Common.{◌≡◌, ◌∙◌, sym, subst, ap, arith, ℕ, zero, suc, ◌<◌, ◌≤◌, ◌^◌, ℤ, pos, List, ◌++◌, length, get_or, decimal, Result, Ok, Err, Some, None, MatchResult, IfSome, IfNone, w64, Bor}
use Rattle.std.proofs.lemmas.Fmt.{IsAscii-from_digits, decimal-digits_value, decimal_digit, decimal_nonempty, digits_value-decimal, first_decimal}
use Rattle.std.proofs.lemmas.Str.{IsUtf8-from_ascii}
use Rattle.std.proofs.lemmas.Str.Parse.{parse_signed_digits}
use Rattle.std.specs.List.{AllByRecursion}
use Rattle.std.specs.Result.{result_ok}
use Rattle.std.specs.Str.{IsUtf8}
use Rattle.std.specs.Str.Parse.{ParsesSigned, digits_value}
use Rattle.hc_meaning.specs.Front.{BeginsOutside, BeginsWithNumber, IsDigit}
use Rattle.hc_meaning.specs.Input.{IsNumber}
use Rattle.hc_meaning.proofs.Language.Numbers.{digits_model, number_is_digits}
use Rattle.hc_meaning.proofs.Language.Spans.{same_span}

-- no number begins with a 0 that another digit follows
long_begins_higher : (k : ℕ) → k < 2 ^ 63 → 1 < length (decimal k) → get_or (decimal k) 0 0 ≡ 48 → ⊥
long_begins_higher zero small long first = let short : length (decimal 0) ≡ 1 = ap length (decimal_digit 0 (omega arith)) in omega arith
long_begins_higher (suc k) small long first =
    let fits : suc k < 2 ^ 64 = omega arith in
    let some : 0 < suc k = omega arith in
    let high : 48 < get_or (decimal (suc k)) 0 0 = first_decimal (suc k) some fits in
    omega arith

-- several digits that begin with a 0 are no number
pub leading_zero_is_none : (digits : List ℕ) (n : ℤ) → 1 < length digits → get_or digits 0 0 ≡ 48 → IsNumber digits n → ⊥
leading_zero_is_none digits n long first (k, small, is, text) =
    let Long : List ℕ → Type 0 = λ l. 1 < length l in
    let First : List ℕ → Type 0 = λ l. get_or l 0 0 ≡ 48 in
    long_begins_higher k small (subst Long text long) (subst First text first)

-- digits are a text, which `from_utf8` therefore gives
pub digits_are_text : {E : Type 0} (V : E → Type 0) (digits : List ℕ) (r : Result (Bor (List ℕ)) E) → AllByRecursion IsDigit digits → MatchResult r (λ s. (s.now ≡ digits) × IsUtf8 digits) (λ e. ¬ (IsUtf8 digits) × V e) → None ≡ result_ok r → ⊥
digits_are_text V digits (Ok s) all cases none = cc
digits_are_text V digits (Err e) all cases none = cases.0 (IsUtf8-from_ascii digits (IsAscii-from_digits digits (digits_model.to digits all)))

-- what `from_utf8` gives of digits is these digits
pub text_is_digits : {E : Type 0} (V : E → Type 0) (digits : List ℕ) (r : Result (Bor (List ℕ)) E) (text : Bor (List ℕ)) → MatchResult r (λ s. (s.now ≡ digits) × IsUtf8 digits) (λ e. ¬ (IsUtf8 digits) × V e) → Some text ≡ result_ok r → text.now ≡ digits
text_is_digits V digits (Ok s) text cases some = let same : text ≡ s = cc in ap (λ (b : Bor (List ℕ)). b.now) same ∙ cases.0
text_is_digits V digits (Err e) text cases some = absurd (cc)

-- what `parse` says of digits that do not begin with a needless 0
pub parsed_some : {E : Type 0} (digits : List ℕ) (r : Result ℤ E) → AllByRecursion IsDigit digits → (get_or digits 0 0 ≡ 48 → length digits ≤ 1) → ParsesSigned w64 10 digits r → IfSome (result_ok r) (IsNumber digits)
parsed_some {E} digits (Ok n) all plain parses =
    let value : ((0 < length digits) × (digits_value 10 digits < 2 ^ 63)) × (n ≡ pos (digits_value 10 digits)) = parse_signed_digits digits_model {E = E} w64 digits (Ok n) parses all in
    let one : get_or digits 0 0 ≡ 48 → length digits ≡ 1 = λ first. omega (arith, plain first, value.0.0) in
    let fits : digits_value 10 digits < 2 ^ 64 = omega (arith, value.0.1) in
    (digits_value 10 digits, value.0.1, value.1, sym (decimal-digits_value digits_model digits all value.0.0 one fits))
parsed_some digits (Err e) all plain parses = tt

-- digits that `parse` refuses are no number
pub parsed_none : {E : Type 0} (digits : List ℕ) (r : Result ℤ E) → AllByRecursion IsDigit digits → ParsesSigned w64 10 digits r → IfNone (result_ok r) ((n : ℤ) → ¬ IsNumber digits n)
parsed_none digits (Ok n) all parses = tt
parsed_none {E} digits (Err e) all parses = λ n (k, small, is, text).
    let fits : k < 2 ^ 64 = omega (arith, small) in
    let some : 0 < length digits = let P : List ℕ → Type 0 = λ l. 0 < length l in subst P (sym text) (decimal_nonempty k fits) in
    let value : digits_value 10 digits ≡ k = ap (digits_value 10) text ∙ digits_value-decimal digits_model k fits in
    let P : ℕ → Type 0 = λ v. v < 2 ^ 63 in
    (parse_signed_digits digits_model {E = E} w64 digits (Err e) parses all) (some, subst P (sym value) small)

-- a number at the front is written by all the digits at the front
pub number_has_digits : (bytes digits rest : List ℕ) (n : ℤ) (following : List ℕ) → bytes ≡ digits ++ rest → AllByRecursion IsDigit digits → BeginsOutside IsDigit rest → BeginsWithNumber bytes n following → IsNumber digits n
number_has_digits bytes digits rest n following whole all outside ((text, is_number, e), out) =
    let both : (digits ≡ text) × (rest ≡ following) = same_span IsDigit digits text rest following all (number_is_digits text n is_number) outside out (sym whole ∙ e) in
    subst (λ (l : List ℕ). IsNumber l n) (sym both.0) is_number
