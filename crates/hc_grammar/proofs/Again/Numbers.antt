-- Numbers between spaces.
use Rattle.std.proofs.Common.{◌≡◌, ◌≢◌, ◌∙◌, refl, sym, ap, subst, ◌<◌, ◌≤◌, ◌^◌, ◌+◌, ◌-◌, ◌*◌, ℕ, List, [], ◌∷◌, length, true, false, decimal, arith, ⊎_elim}
use Rattle.std.proofs.lemmas.Bool.Decides.{nat_tests}
use Rattle.std.proofs.lemmas.Fmt.{decimal_is_IsNumeral}
use Rattle.std.proofs.lemmas.Str.{digit_value_digit}
use Rattle.std.proofs.lemmas.Str.Parse.{digit_from_value}
use Rattle.std.specs.Char.{digit_value, is_ascii_digit}
use Rattle.std.specs.Str.Parse.{AllDigits, IsNumeral, digits_value, digits_value_after}
use Rattle.hc_lex.specs.declared.character.Run.TheVariants as run
use Rattle.hc_lex.specs.declared.token.TokenKind.TheVariants as kind
use Rattle.hc_lex.specs.Characters.{class_of, IsRun, GoesOn}
use Rattle.hc_lex.specs.Tokens.{IsDigits, BeginsSpoiler, value_after, value_of}
use Rattle.hc_grammar.proofs.Again.Apart.{IsApart}
use Rattle.hc_grammar.proofs.Again.Words.{of}

-- a digit is one for the tokens, and digits are a run
is_digit : (c : ℕ) → digit_value c < 10 → is_ascii_digit c ≡ true
is_digit c small = let range = digit_from_value c small in grind (arith, nat_tests)

are_digits : (digits : List ℕ) → AllDigits 10 digits → IsRun run.Number digits
are_digits [] all = tt
are_digits (c ∷ digits) all = (is_digit c all.0, are_digits digits all.1)

-- the value of a token's digits is that of the numeral
same_value : (digits : List ℕ) (high : ℕ) → AllDigits 10 digits → value_after high digits ≡ digits_value_after 10 high digits
same_value [] high all = refl
same_value (c ∷ digits) high all =
    let value : 10 * high + (c - 48) ≡ high * 10 + digit_value c = omega (arith, digit_value_digit c (digit_from_value c all.0)) in
    ap (λ n. value_after n digits) value ∙ same_value digits (high * 10 + digit_value c) all.1

not_empty : (digits : List ℕ) → 0 < length digits → digits ≢ []
not_empty digits some none = let bad : 0 < 0 = subst (λ (l : List ℕ). 0 < length l) none some in omega (arith, bad)

-- A number that a token may have.
module _ (m : ℕ) (fits : m ≤ 2 ^ 63) where
  -- a number's decimal digits are a numeral, and spell it
  numeral : IsNumeral 10 (decimal m) × (digits_value 10 (decimal m) ≡ m)
  numeral = decimal_is_IsNumeral m (omega (arith, fits))

  spells : m ≡ value_of (decimal m)
  spells = sym (same_value (decimal m) 0 numeral.0.1 ∙ numeral.1)

  -- they are a whole number's where no digit follows
  digits_before : (rest : List ℕ) → ¬ GoesOn run.Number rest → IsDigits (decimal m) rest
  digits_before rest ends = (not_empty (decimal m) numeral.0.0, are_digits (decimal m) numeral.0.1, ends)

  -- a space is no digit, and neither it nor the end spoils a number
  no_digit : (more : List ℕ) → ¬ GoesOn run.Number (32 ∷ more)
  no_digit more bad = absurd (let clash : false ≡ true = bad in cc)

  spoils_none : ¬ BeginsSpoiler []
  spoils_none spoils = ⊎_elim (λ b. b) (λ b. b) spoils

  spoils_no_space : (more : List ℕ) → ¬ BeginsSpoiler (32 ∷ more)
  unfolding class_of
  spoils_no_space more spoils = ⊎_elim (λ (b : 32 ≡ 46). omega (arith, b)) (λ (b : false ≡ true). absurd cc) spoils

  -- a number in digits
  pub number : IsApart (of (kind.Integer m) (decimal m))
  number = ((digits_before [] (λ b. b), spoils_none, spells, fits), λ more. (digits_before (32 ∷ more) (no_digit more), spoils_no_space more, spells, fits))
