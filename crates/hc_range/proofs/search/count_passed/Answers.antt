use Rattle.std.proofs.Common.{not, rules}
use Rattle.std.proofs.lemmas.List.Sorted.{IsPartitionPoint-from_clause}
use Rattle.hc_range.specs.Ranges.{is_under}
use Rattle.hc_range.proofs.Searched.{passed_partitioned, AllWithin-not_true, AllWithin-not_false}
use Rattle.hc_range.proofs.search.count_passed.Goals as goal

pub returns : goal.returns
returns c =
    let cut = IsPartitionPoint-from_clause (λ range. not (is_under c.args.key.now range.hi)) _ _ c.partition_point.ensures.partitioned
    (passed_partitioned c.args.key.now c.args.ranges.now c.requires) (λ a r q k. search rules) in
    record {
      within = c.partition_point.ensures.bound;
      passed = AllWithin-not_true (λ range. is_under c.args.key.now range.hi) _ _ _ cut.0;
      others = AllWithin-not_false (λ range. is_under c.args.key.now range.hi) _ _ _ cut.1;
    }
