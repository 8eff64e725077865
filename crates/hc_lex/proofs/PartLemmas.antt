-- What a script's bytes begin with.
use Rattle.std.proofs.Common.{◌≡◌, ◌≢◌, ◌∙◌, Bool, true, false, not, ◌||◌, ◌==◌, ℕ, List, [], ◌∷◌, refl, sym, ap, subst, inl, inr, arith}
use Rattle.std.proofs.lemmas.Bool.Decides.{nat_tests}
use Rattle.std.proofs.lemmas.List.{append-nil}
use Rattle.hc_lex.specs.declared.character.Class.TheVariants.{Space}
use Rattle.hc_lex.specs.declared.part.Part.TheVariants.{Statement}
use Rattle.hc_lex.specs.Blanks.{BeginsNoBlank}
use Rattle.hc_lex.specs.Characters.{class_of, is_space}
use Rattle.hc_lex.specs.Pieces.{Skips}
use Rattle.hc_lex.specs.Quotes.{IsOpenQuoted, IsQuote}
use Rattle.hc_lex.specs.Statements.{IsPart, is_ordinary}
use Rattle.hc_lex.proofs.Classes.{space_class, space_has_class}

-- a literal that does not end is a part of a statement up to the end
pub open_literal : (bytes : List ℕ) (quote : ℕ) (tail : List ℕ) → bytes ≡ quote ∷ tail → IsQuote quote → IsOpenQuoted quote (quote ∷ tail) → Skips (IsPart Statement) bytes []
open_literal bytes quote tail e is left =
    (bytes, sym (append-nil bytes), inl (quote, is, inr ((left.0, e ∙ left.1), refl)))

-- a byte that begins no blank, is no quote and no semicolon is a part of a statement
pub plain_byte : (bytes : List ℕ) (b : ℕ) (tail : List ℕ) → bytes ≡ b ∷ tail → BeginsNoBlank bytes → ¬ IsQuote b → b ≢ 59 → Skips (IsPart Statement) bytes tail
plain_byte bytes b tail e blank quote end = (b ∷ [], e, inr (b, refl, (subst (λ bs. BeginsNoBlank bs) e blank, quote, end)))

-- an ordinary byte is no other one
is_not : (b c : ℕ) → is_ordinary b ≡ true → is_ordinary c ≡ false → b ≢ c
is_not b c is isnt same = let bad : false ≡ true = sym isnt ∙ ap is_ordinary (sym same) ∙ is in cc

-- nor is it a space
no_space : (b : ℕ) → is_ordinary b ≡ true → class_of b ≢ Space
no_space b is e =
    let bad : false ≡ true = sym (ap (λ s. not (s || b == 34 || b == 39 || b == 45 || b == 47 || b == 59)) (space_class b e)) ∙ is in cc

-- so it is a part of a statement
pub ordinary_byte : (b : ℕ) (tail : List ℕ) → is_ordinary b ≡ true → Skips (IsPart Statement) (b ∷ tail) tail
ordinary_byte b tail is = plain_byte (b ∷ tail) b tail refl (no_space b is, (λ p. is_not b 45 is refl p.0), (λ p. is_not b 47 is refl p.0)) no_quote (is_not b 59 is refl)
  where
    no_quote : ¬ IsQuote b
    no_quote (inl e) = is_not b 34 is refl e
    no_quote (inr e) = is_not b 39 is refl e

-- a byte that is none of the others is a space
pub left_is_space : (b : ℕ) → is_ordinary b ≡ false → b ≢ 34 → b ≢ 39 → b ≢ 45 → b ≢ 47 → b ≢ 59 → class_of b ≡ Space
left_is_space b isnt n34 n39 n45 n47 n59 = space_has_class b (grind (arith, nat_tests, isnt))
