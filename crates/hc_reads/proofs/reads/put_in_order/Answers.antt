use Rattle.std.proofs.Common.{sym, subst, List, ◌++◌}
use Rattle.hc_range.specs.declared.range.Range.{Range}
use Rattle.hc_reads.specs.Gathered.{HaveSameKeys}
use Rattle.hc_reads.proofs.SameKeys.{same_after, same_joined}
use Rattle.hc_reads.proofs.reads.put_in_order.Goals as goal

pub returns-in_err-more-clause-same : goal.returns-in_err-more-clause-same
returns-in_err-more-clause-same c = same_after c.args.log.now c.args.waiting.now.items c.sort_ranges.new.ranges.items c.sort_ranges.ensures

pub returns-in_err-join-clause-same : goal.returns-in_err-join-clause-same
returns-in_err-join-clause-same c =
    subst (λ (log : List Range). HaveSameKeys (c.args.log.now ++ c.args.waiting.now.items) (log ++ c.sort_ranges.new.ranges.items)) (sym c.in_err-join.ensures.no_memory)
    (same_after c.args.log.now c.args.waiting.now.items c.sort_ranges.new.ranges.items c.sort_ranges.ensures)

pub returns-clause-same : goal.returns-clause-same
returns-clause-same c =
    same_joined c.args.log.now c.args.waiting.now.items c.sort_ranges.new.ranges.items c.as_slice.result.now c.in_ok-more.more c.join.new.self c.clear.new.self.items c.sort_ranges.ensures
    c.as_slice.ensures.value c.in_ok-more.ensures c.in_ok-join.ensures.joined c.clear.ensures.items
