use Rattle.std.proofs.Common.{ap, arith, refl, []}
use Rattle.std.proofs.lemmas.Bool.{false≢true}
use Rattle.hc_meaning.specs.Runs.Cut.{Script}
use Rattle.hc_judge.proofs.Rising.{ascends_at, ascends_from}
use Rattle.hc_judge.proofs.front.ascend.Goals as goal

pub returns-then-conn : goal.returns-then-conn
returns-then-conn c = (
  λ no. absurd (false≢true no),
  λ ascends. absurd (omega (
    arith,
    c.if-conn.true,
    c.conn.ensures,
    c.conn-in-loop-i.ensures,
    ap (λ (s : Script). s.conn) c.index-scripts-i.is,
    ap (λ (s : Script). s.conn) c.index-scripts-i-in-loop-i.is,
    ascends_at c.args.scripts.now c.loop-i.i c.index-scripts-i.result c.index-scripts-i-in-loop-i.result c.loop-i.auto.i c.loop-i-test.true ascends,
  )),
)

pub returns : goal.returns
returns c = (
  λ yes. ascends_from c.args.scripts.now (λ k d within. c.loop-i.invariant k d (omega (arith, within, c.loop-i-test.false))) (record { conn = 0; commands = [] }),
  λ ascends. refl,
)
