use Rattle.std.proofs.Common.{rules}
use Rattle.std.proofs.lemmas.List.Sorted.{IsPartitionPoint-from_clause}
use Rattle.hc_range.specs.Ranges.{is_end_below}
use Rattle.hc_range.proofs.Searched.{before_partitioned}
use Rattle.hc_range.proofs.search.count_before_any.Goals as goal

pub returns : goal.returns
returns c =
    let cut = IsPartitionPoint-from_clause (λ range. is_end_below range.hi c.args.key.now) _ _ c.partition_point.ensures.partitioned
    (before_partitioned c.args.key.now c.args.ranges.now c.requires) (λ a r q k. search rules) in
    record { within = c.partition_point.ensures.bound; before = cut.0; others = cut.1 }
