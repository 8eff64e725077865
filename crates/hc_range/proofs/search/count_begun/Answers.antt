use Rattle.std.proofs.Common.{not, rules}
use Rattle.std.proofs.lemmas.List.Sorted.{IsPartitionPoint-from_clause}
use Rattle.hc_range.specs.Ranges.{is_end_below}
use Rattle.hc_range.proofs.Searched.{begun_partitioned, AllWithin-not_true, AllWithin-not_false}
use Rattle.hc_range.proofs.search.count_begun.Goals as goal

pub returns : goal.returns
returns c =
    let cut = IsPartitionPoint-from_clause (λ range. not (is_end_below c.args.end.now range.lo)) _ _ c.partition_point.ensures.partitioned
    (begun_partitioned c.args.end.now c.args.ranges.now c.requires) (λ a r q k. search rules) in
    record {
      within = c.partition_point.ensures.bound;
      begun = AllWithin-not_true (λ range. is_end_below c.args.end.now range.lo) _ _ _ cut.0;
      others = AllWithin-not_false (λ range. is_end_below c.args.end.now range.lo) _ _ _ cut.1;
    }
