use Rattle.std.proofs.Common.{rules, ◌≢◌, ◌⊎◌, ◌≡◌, ◌∙◌, ◌∷◌, ℕ, arith, inl, inr, subst, sym}
use Rattle.hc_lex.specs.declared.part.Part.TheVariants.{Statement}
use Rattle.hc_lex.specs.Pieces.{Skips}
use Rattle.hc_lex.specs.Quotes.{IsQuote}
use Rattle.hc_lex.specs.Statements.{IsPart}
use Rattle.hc_lex.proofs.BlankLemmas.{one_space}
use Rattle.hc_lex.proofs.PartLemmas.{left_is_space, ordinary_byte, plain_byte}
use Rattle.hc_lex.proofs.statements.read_part.Goals as goal

pub returns-then-is_ordinary : goal.returns-then-is_ordinary
returns-then-is_ordinary c =
    subst (λ bytes. Skips (IsPart Statement) bytes c.args.tail.now) (sym c.requires) (ordinary_byte c.args.first c.args.tail.now (sym c.is_ordinary.ensures ∙ c.if-is_ordinary.true))

-- a minus and a slash are neither quotes nor the end of a statement
no_quote : (b : ℕ) → (b ≡ 45) ⊎ (b ≡ 47) → ¬ IsQuote b
no_quote b (inl e) (inl q) = omega (arith, e, q)
no_quote b (inl e) (inr q) = omega (arith, e, q)
no_quote b (inr e) (inl q) = omega (arith, e, q)
no_quote b (inr e) (inr q) = omega (arith, e, q)

no_end : (b : ℕ) → (b ≡ 45) ⊎ (b ≡ 47) → b ≢ 59
no_end b (inl e) = omega (arith, e)
no_end b (inr e) = omega (arith, e)

pub returns-in-None : goal.returns-in-None
returns-in-None c = plain_byte c.args.bytes.now c.args.first c.args.tail.now c.requires c.in-None.ensures.none (no_quote c.args.first c.in-45.is) (no_end c.args.first c.in-45.is)

pub returns-in_default : goal.returns-in_default
returns-in_default c =
    let n34 : c.args.first ≢ 34 = search rules in
    let n39 : c.args.first ≢ 39 = search rules in
    let n45 : c.args.first ≢ 45 = search rules in
    let n47 : c.args.first ≢ 47 = search rules in
    let n59 : c.args.first ≢ 59 = omega arith in
    one_space c.args.bytes.now c.args.first c.args.tail.now c.requires (left_is_space c.args.first (sym c.is_ordinary.ensures ∙ c.if-is_ordinary.false) n34 n39 n45 n47 n59)
