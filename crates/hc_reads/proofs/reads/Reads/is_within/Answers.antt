use Rattle.hc_reads.proofs.SameKeys.{both_within, first_without}
use Rattle.hc_reads.proofs.reads.Reads.is_within.Goals as goal

pub returns-then-includes_all : goal.returns-then-includes_all
returns-then-includes_all c =
    both_within c.self.inside.log c.self.inside.waiting.items c.args.log.now c.ranges-2.result.now c.as_slice.result.now c.args.self.now c.includes_all.result
    c.includes_all-then-includes_all.result c.ranges-2.ensures.list c.as_slice.ensures.value c.self.view_is c.includes_all.ensures c.if-includes_all.true c.includes_all-then-includes_all.ensures

pub returns-else-includes_all : goal.returns-else-includes_all
returns-else-includes_all c =
    first_without c.self.inside.log c.self.inside.waiting.items c.args.log.now c.ranges-2.result.now c.args.self.now c.includes_all.result c.ranges-2.ensures.list c.self.view_is
    c.includes_all.ensures c.if-includes_all.false
