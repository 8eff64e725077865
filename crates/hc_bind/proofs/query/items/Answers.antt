use Rattle.std.proofs.Common.{[], map}
use Rattle.hc_schema.specs.Binding.Queries.{with_item}
use Rattle.hc_bind.specs.Settings.{read_on, answer_of}
use Rattle.hc_bind.proofs.Judging.{walk_more, walk_why}
use Rattle.hc_bind.proofs.query.items.Goals as goal

pub loop-item-preserved : goal.loop-item-preserved
loop-item-preserved c =
    walk_more (with_item (read_on c.args.setting.now)) [] c.args.list.now c.loop-item.item-index c.item-item.result (map answer_of c.loop-item.out.items) (map answer_of c.push_item.new.out.items) c.loop-item-test.true c.item-item.is c.loop-item.invariant c.in-Ok.ensures

pub returns-in-Err : goal.returns-in-Err
returns-in-Err c =
    walk_why (with_item (read_on c.args.setting.now)) [] c.args.list.now c.loop-item.item-index c.item-item.result (map answer_of c.loop-item.out.items) c.in-Err.fault c.loop-item-test.true c.item-item.is c.loop-item.invariant c.in-Err.ensures
