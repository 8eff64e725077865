use Rattle.std.proofs.Common.{arith, refl, []}
use Rattle.std.proofs.lemmas.Bool.{false≢true}
use Rattle.hc_meaning.proofs.Loops.Rising.{ascends-at, ascends-from}
use Rattle.hc_meaning.proofs.reference.judgement.ascend.Goals as goal

pub returns-then-scripts-i : goal.returns-then-scripts-i
returns-then-scripts-i c = (
  λ no. absurd (false≢true no),
  λ ascends. absurd (omega (arith, c.if-scripts-i.true, ascends-at c.args.scripts.now c.loop-i.i c.index-scripts-i.result c.index-scripts-i-in-loop-i.result c.loop-i.auto.i c.loop-i-test.true ascends)),
)

pub returns : goal.returns
returns c = (
  λ yes. ascends-from c.args.scripts.now (λ k d within. c.loop-i.invariant k d (omega (arith, within, c.loop-i-test.false))) (record { conn = 0; statements = [] }),
  λ ascends. refl,
)
