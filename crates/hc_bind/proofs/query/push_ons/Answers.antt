use Rattle.std.specs.Option.{option_to_list}
use Rattle.hc_schema.specs.Binding.Changes.{with_condition}
use Rattle.hc_bind.specs.Scopes.{seen}
use Rattle.hc_bind.proofs.Judging.{walk_flat_more, walk_flat_why}
use Rattle.hc_bind.proofs.query.push_ons.Goals as goal

pub loop-from-preserved : goal.loop-from-preserved
loop-from-preserved c =
    walk_flat_more (with_condition (seen c.args.scope.now)) (λ from. option_to_list from.on) c.args.out.now.items c.args.tables.now c.loop-from.from-index c.from-item.result c.loop-from.out.items c.loop-from-test.true c.from-item.is c.loop-from.invariant c.push_filter.new.out.items c.in-Ok.ensures

pub returns-in-Err : goal.returns-in-Err
returns-in-Err c =
    walk_flat_why (with_condition (seen c.args.scope.now)) (λ from. option_to_list from.on) c.args.out.now.items c.args.tables.now c.loop-from.from-index c.from-item.result c.loop-from.out.items c.loop-from-test.true c.from-item.is c.loop-from.invariant c.in-Err.fault c.in-Err.ensures
