-- A number's text is digits, and is read in one way.
use Rattle.std.proofs.Common.{◌≡◌, ◌∙◌, ap, sym, subst, rules, arith, ℕ, ◌<◌, ◌^◌, ℤ, pos, List, w64, FitsSigned}
use Rattle.std.proofs.lemmas.Fmt.{digits_decimal, decimal_injective}
use Rattle.std.proofs.lemmas.Str.Parse.{IsNumeralModel, numerals_by_value}
use Rattle.std.specs.List.{AllByRecursion}
use Rattle.std.specs.Str.Parse.{digits_value}
use Rattle.hc_meaning.specs.Front.{BeginsWithNumber, IsDigit}
use Rattle.hc_meaning.specs.Input.{IsNumber}
use Rattle.hc_meaning.proofs.Language.Spans.{same_span}

-- digits are numerals to the base ten, by their value
pub digits_model : IsNumeralModel (AllByRecursion IsDigit) (digits_value 10)
digits_model = numerals_by_value _ (search rules)

-- a number's text is digits
pub number_is_digits : (text : List ℕ) (n : ℤ) → IsNumber text n → AllByRecursion IsDigit text
number_is_digits text n (k, small, is, e) =
    let in_range : k < 2 ^ 64 = omega arith in
    subst (AllByRecursion IsDigit) (sym e) (digits_decimal digits_model k in_range)

-- what a number's text means is an integer of 64 bits
pub number_fits : (text : List ℕ) (n : ℤ) → IsNumber text n → FitsSigned w64 n
number_fits text n (k, small, is, written) =
    let fits : FitsSigned w64 (pos k) = omega (arith, small) in
    subst (FitsSigned w64) (sym is) fits

-- two numbers with one text are the same
same_number : (text other : List ℕ) (m n : ℤ) → IsNumber text m → IsNumber other n → text ≡ other → m ≡ n
same_number text other m n (j, small_j, is_j, e) (k, small_k, is_k, f) same =
    let fits_j : j < 2 ^ 64 = omega arith in
    let fits_k : k < 2 ^ 64 = omega arith in
    let equal : j ≡ k = decimal_injective j k fits_j fits_k (sym e ∙ same ∙ f) in
    is_j ∙ ap pos equal ∙ sym is_k

-- the number at the front, with all its digits, is read in one way
pub number_once : (bytes : List ℕ) (m n : ℤ) (x y : List ℕ) → BeginsWithNumber bytes m x → BeginsWithNumber bytes n y → (m ≡ n) × (x ≡ y)
number_once bytes m n x y ((text, is_m, e), out_x) ((other, is_n, f), out_y) =
    let both : (text ≡ other) × (x ≡ y) = same_span IsDigit text other x y (number_is_digits text m is_m) (number_is_digits other n is_n) out_x out_y (sym e ∙ f) in
    (same_number text other m n is_m is_n both.0, both.1)
