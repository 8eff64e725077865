use Rattle.std.proofs.Common.{◌≡◌, ◌∙◌, sym, arith}
use Rattle.std.proofs.lemmas.Option.{slice_get_within}
use Rattle.hc_meaning.specs.Runs.Cut.{Transaction}
use Rattle.hc_verdict.proofs.OneMore.{at_place, each_of_all, one_more}
use Rattle.hc_verdict.proofs.order.setup_of.Goals as goal

pub loop-k-preserved : goal.loop-k-preserved
loop-k-preserved c = one_more (λ (t : Transaction). t.conn ≡ 0) c.args.history.now c.loop-k.k c.index-history-k.result c.loop-k-test.true c.index-history-k.is c.loop-k.invariant (sym c.conn.ensures ∙ c.if-conn-ne0.false)

pub returns-clause-first : goal.returns-clause-first
returns-clause-first c = λ k t is within.
    each_of_all (λ (t : Transaction). t.conn ≡ 0) c.args.history.now c.loop-k.k c.loop-k-test.false c.loop-k.invariant t (at_place t c.args.history.now k is)

pub returns-clause-end : goal.returns-clause-end
returns-clause-end c = λ t is zero. omega (arith, slice_get_within c.args.history.now _ t is)
