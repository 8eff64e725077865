-- Spaces and line comments at the front.
use Rattle.std.proofs.Common.{◌≡◌, ◌∙◌, ℕ, List, [], ◌∷◌, Option, None, Some, refl, sym, ap, subst, inl, inr}
use Rattle.std.specs.Prelude.{IfNone}
use Rattle.hc_lex.specs.declared.character.Class.TheVariants.{Space}
use Rattle.hc_lex.specs.declared.character.Run.TheVariants.{Line}
use Rattle.hc_lex.specs.Blanks.{BeginsNoBlank, IsBlank}
use Rattle.hc_lex.specs.Characters.{BeginsRun, BeginsWith, class_of}
use Rattle.hc_lex.specs.Pieces.{Skips}
use Rattle.hc_lex.proofs.Classes.{minus_is_no_space, slash_is_no_space}

-- a space in front is skipped as a blank
pub one_space : (bytes : List ℕ) (b : ℕ) (tail : List ℕ) → bytes ≡ b ∷ tail → class_of b ≡ Space → Skips IsBlank bytes tail
one_space bytes b tail e is = (b ∷ [], e, inl (b, is, refl))

-- a line comment in front is skipped as a blank, up to the end of its line
pub line_comment : (bytes inner text rest : List ℕ) → bytes ≡ 45 ∷ inner → BeginsRun Line inner text rest → Skips IsBlank (45 ∷ bytes) rest
line_comment bytes inner text rest e run =
    (45 ∷ 45 ∷ text, ap (λ r. 45 ∷ r) (e ∙ ap (λ r. 45 ∷ r) run.0), inr (inl (text, refl, run.1, run.2)))

-- a minus with no second one after it begins no blank
minus_alone : (bytes tail : List ℕ) → bytes ≡ 45 ∷ tail → ¬ BeginsWith 45 tail → BeginsNoBlank bytes
minus_alone bytes tail e n =
    subst (λ bs. BeginsNoBlank bs) (sym e) (minus_is_no_space, (λ p. n p.1), (λ p. cc))

-- a slash with no star after it begins no blank
slash_alone : (bytes tail : List ℕ) → bytes ≡ 47 ∷ tail → ¬ BeginsWith 42 tail → BeginsNoBlank bytes
slash_alone bytes tail e n =
    subst (λ bs. BeginsNoBlank bs) (sym e) (slash_is_no_space, (λ p. cc), (λ p. n p.1))

-- where finding nothing means that no second minus follows, it means that no blank begins at the minus
pub no_line_comment : {X : Type 0} (r : Option X) (bytes tail : List ℕ) → bytes ≡ 45 ∷ tail → IfNone r (¬ BeginsWith 45 tail) → IfNone r (BeginsNoBlank bytes)
no_line_comment None bytes tail e n = minus_alone bytes tail e n
no_line_comment (Some x) bytes tail e n = tt

-- where finding nothing means that no star follows, it means that no blank begins at the slash
pub no_block_comment : {X : Type 0} (r : Option X) (bytes tail : List ℕ) → bytes ≡ 47 ∷ tail → IfNone r (¬ BeginsWith 42 tail) → IfNone r (BeginsNoBlank bytes)
no_block_comment None bytes tail e n = slash_alone bytes tail e n
no_block_comment (Some x) bytes tail e n = tt
