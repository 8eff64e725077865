use Rattle.hc_lex.proofs.Values.{is_too_large}
use Rattle.hc_lex.proofs.words.value_of.Goals as goal

pub returns-then-value-clause-none : goal.returns-then-value-clause-none
returns-then-value-clause-none c = is_too_large c.args.digits.now c.loop-b.value c.loop-b.b-index c.loop-b-test.true c.if-value.true c.loop-b.invariant.value
