-- What a character is by its class.
use Rattle.std.proofs.Common.{◌≡◌, ◌≤◌, ◌≢◌, Bool, true, false, if◌then◌else◌, ◌==◌, ◌||◌, ℕ, inl, inr, refl, ap, arith}
use Rattle.std.proofs.lemmas.Bool.Decides.{nat_tests}
use Rattle.std.specs.Char.{is_ascii_digit}
use Rattle.hc_lex.specs.declared.character.Class.{Class}
use Rattle.hc_lex.specs.declared.character.Class.TheVariants.{Space, Letter, Digit, Dollar, Quote, Sign, Other}
use Rattle.hc_lex.specs.Characters.{class_of, is_letter, is_sign, is_space}
use Rattle.hc_lex.specs.Quotes.{IsQuote}
use Rattle.hc_lex.specs.Tokens.{IsBlobMark}

-- the class by the answers to the six questions
abbrev pub class_by : Bool → Bool → Bool → Bool → Bool → Bool → Class
class_by space letter digit dollar quote sign =
    if space then Space
    else (if letter then Letter
    else (if digit then Digit
    else (if dollar then Dollar
    else (if quote then Quote
    else (if sign then Sign
    else Other)))))

-- where the class is digits, quotes or signs, the answer to the question for it is yes
digit_answer : (s l d m q g : Bool) → class_by s l d m q g ≡ Digit → d ≡ true
digit_answer true l d m q g e = cc
digit_answer false true d m q g e = cc
digit_answer false false true m q g e = refl
digit_answer false false false true q g e = cc
digit_answer false false false false true g e = cc
digit_answer false false false false false true e = cc
digit_answer false false false false false false e = cc

quote_answer : (s l d m q g : Bool) → class_by s l d m q g ≡ Quote → q ≡ true
quote_answer true l d m q g e = cc
quote_answer false true d m q g e = cc
quote_answer false false true m q g e = cc
quote_answer false false false true q g e = cc
quote_answer false false false false true g e = refl
quote_answer false false false false false true e = cc
quote_answer false false false false false false e = cc

sign_answer : (s l d m q g : Bool) → class_by s l d m q g ≡ Sign → g ≡ true
sign_answer true l d m q g e = cc
sign_answer false true d m q g e = cc
sign_answer false false true m q g e = cc
sign_answer false false false true q g e = cc
sign_answer false false false false true g e = cc
sign_answer false false false false false true e = refl
sign_answer false false false false false false e = cc

space_answer : (s l d m q g : Bool) → class_by s l d m q g ≡ Space → s ≡ true
space_answer true l d m q g e = refl
space_answer false true d m q g e = cc
space_answer false false true m q g e = cc
space_answer false false false true q g e = cc
space_answer false false false false true g e = cc
space_answer false false false false false true e = cc
space_answer false false false false false false e = cc

-- what is of the class of spaces passes as a space
pub space_class : (b : ℕ) → class_of b ≡ Space → is_space b ≡ true
unfolding class_of
space_class b e = space_answer _ _ _ _ _ _ e

-- what passes as a space is of the class of spaces
pub space_has_class : (b : ℕ) → is_space b ≡ true → class_of b ≡ Space
unfolding class_of
space_has_class b e = ap (λ s. class_by s (is_letter b) (is_ascii_digit b) (b == 36) (b == 34 || b == 39) (is_sign b)) e

-- what is of the class of digits is a digit of ASCII
pub digit_class : (b : ℕ) → class_of b ≡ Digit → is_ascii_digit b ≡ true
unfolding class_of
digit_class b e = digit_answer _ _ _ _ _ _ e

-- the two bytes of the test are the quotes
quote_test : (b : ℕ) → (b == 34 || b == 39) ≡ true → IsQuote b
quote_test b e = grind (arith, nat_tests)

-- what is of the class of quotes is a quote
pub quote_class : (b : ℕ) → class_of b ≡ Quote → IsQuote b
unfolding class_of
quote_class b e = quote_test b (quote_answer _ _ _ _ _ _ e)

-- what is of the class of signs is a sign
pub sign_class : (b : ℕ) → class_of b ≡ Sign → is_sign b ≡ true
unfolding class_of
sign_class b e = sign_answer _ _ _ _ _ _ e

-- the last sign that none of the others is
pub bar_is_left : (b : ℕ) → is_sign b ≡ true → b ≢ 40 → b ≢ 41 → b ≢ 44 → b ≢ 46 → b ≢ 43 → b ≢ 45 → b ≢ 42 → b ≢ 47 → b ≢ 37 → b ≢ 59 → b ≢ 61 → b ≢ 60 → b ≢ 62 → b ≢ 33 → b ≡ 124
bar_is_left b e n1 n2 n3 n4 n5 n6 n7 n8 n9 n10 n11 n12 n13 n14 = grind (arith, nat_tests)

-- neither a minus nor a slash is a space
pub minus_is_no_space : class_of 45 ≢ Space
unfolding class_of
minus_is_no_space = λ e. cc

pub slash_is_no_space : class_of 47 ≢ Space
unfolding class_of
slash_is_no_space = λ e. cc

-- digits are of one class
class_with : (s l d : Bool) (m q g : Bool) → s ≡ false → l ≡ false → d ≡ true → class_by s l d m q g ≡ Digit
class_with true l d m q g no_s no_l is = cc
class_with false true d m q g no_s no_l is = cc
class_with false false true m q g no_s no_l is = refl
class_with false false false m q g no_s no_l is = cc

-- a digit is neither a space nor a letter
digit_is_no_space : (b : ℕ) → is_ascii_digit b ≡ true → is_space b ≡ false
digit_is_no_space b e = grind (arith, nat_tests)

digit_is_no_letter : (b : ℕ) → is_ascii_digit b ≡ true → is_letter b ≡ false
digit_is_no_letter b e = grind (arith, nat_tests)

-- a digit of ASCII is of the class of digits
pub digit_has_class : (b : ℕ) → is_ascii_digit b ≡ true → class_of b ≡ Digit
unfolding class_of
digit_has_class b e = class_with (is_space b) (is_letter b) (is_ascii_digit b) _ _ _ (digit_is_no_space b e) (digit_is_no_letter b e) e

-- the mark of a blob is of the class of letters
pub mark_has_class : (b : ℕ) → IsBlobMark b → class_of b ≡ Letter
unfolding class_of
mark_has_class b (inl e) = ap class_of e
mark_has_class b (inr e) = ap class_of e

-- what is past ASCII is a letter
letter_with : (s l d m q g : Bool) → s ≡ false → l ≡ true → class_by s l d m q g ≡ Letter
letter_with true l d m q g no_s is = cc
letter_with false true d m q g no_s is = refl
letter_with false false d m q g no_s is = cc

-- a byte past ASCII is no space, and passes as a letter
past_ascii_is_no_space : (b : ℕ) → 128 ≤ b → is_space b ≡ false
past_ascii_is_no_space b h = grind (arith, nat_tests)

past_ascii_passes : (b : ℕ) → 128 ≤ b → is_letter b ≡ true
past_ascii_passes b h = grind (arith, nat_tests)

-- a byte past ASCII is of the class of letters
pub past_ascii_is_letter : (b : ℕ) → 128 ≤ b → class_of b ≡ Letter
unfolding class_of
past_ascii_is_letter b h = letter_with (is_space b) (is_letter b) _ _ _ _ (past_ascii_is_no_space b h) (past_ascii_passes b h)
