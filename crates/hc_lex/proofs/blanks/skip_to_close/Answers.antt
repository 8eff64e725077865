use Rattle.std.proofs.Common.{◌∙◌, ◌∷◌, ap}
use Rattle.std.proofs.lemmas.List.{nil_from_length}
use Rattle.hc_lex.proofs.Closes.{closed_here, never_closed, no_close_more}
use Rattle.hc_lex.proofs.blanks.skip_to_close.Goals as goal

pub returns-in-Some-skip_byte : goal.returns-in-Some-skip_byte
returns-in-Some-skip_byte c =
    closed_here _ _ c.in-Some.tail.now _ c.loop-first.invariant
    (c.in-Some.ensures.cases.0 ∙ ap (λ b. b ∷ c.in-Some.tail.now) c.if-first-eq42.true) c.in-Some-skip_byte.ensures

pub loop-first-preserved-in_default-skip_byte : goal.loop-first-preserved-in_default-skip_byte
loop-first-preserved-in_default-skip_byte c =
    no_close_more _ _ _ _ c.loop-first.invariant c.in-Some.ensures.cases.0 (λ p. c.in_default-skip_byte.ensures p.1)

pub loop-first-preserved : goal.loop-first-preserved
loop-first-preserved c = no_close_more _ _ _ _ c.loop-first.invariant c.in-Some.ensures.cases.0 (λ p. c.if-first-eq42.false p.0)

pub returns : goal.returns
returns c = never_closed _ _ c.loop-first.invariant (nil_from_length _ c.in_default.ensures.cases)
