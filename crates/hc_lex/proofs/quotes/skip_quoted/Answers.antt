use Rattle.std.proofs.Common.{◌∙◌, ◌∷◌, ap}
use Rattle.hc_lex.proofs.Quoted.{other_within, quote_within, quoted_here}
use Rattle.hc_lex.proofs.quotes.skip_quoted.Goals as goal

pub loop-first-preserved-in-Some-skip_byte : goal.loop-first-preserved-in-Some-skip_byte
loop-first-preserved-in-Some-skip_byte c =
    quote_within _ _ _ _ c.in-Some.tail.now _ c.loop-first.invariant c.in-Some.ensures.cases.0 c.if-first-quote.true c.in-Some-skip_byte.ensures

pub returns-in-None-clause-some : goal.returns-in-None-clause-some
returns-in-None-clause-some c =
    quoted_here _ _ _ c.in-Some.tail.now c.loop-first.invariant
    (c.in-Some.ensures.cases.0 ∙ ap (λ b. b ∷ c.in-Some.tail.now) c.if-first-quote.true) c.in-None.ensures

pub loop-first-preserved : goal.loop-first-preserved
loop-first-preserved c = other_within _ _ _ _ c.in-Some.tail.now c.loop-first.invariant c.in-Some.ensures.cases.0 c.if-first-quote.false
