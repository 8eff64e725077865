use Rattle.std.proofs.Common.{ap}
use Rattle.hc_bind.proofs.Columns.{at, pushed_placed}
use Rattle.hc_bind.proofs.change.all_placed.Goals as goal

pub loop-i-preserved : goal.loop-i-preserved
loop-i-preserved c =
    pushed_placed c.args.columns.now c.loop-i.i c.index-columns-i.result c.loop-i.found.items c.push.new.self.items _ c.in_ok-push.ensures.items c.loop-i.invariant
    (ap (at c.index-columns-i.result) c.in_ok-place.ensures.ok) c.loop-i-test.true c.index-columns-i.is
