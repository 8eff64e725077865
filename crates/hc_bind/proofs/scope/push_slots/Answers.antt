use Rattle.std.proofs.Common.{◌∙◌, ap, map, length}
use Rattle.hc_bind.specs.Scopes.{slot_of}
use Rattle.hc_bind.proofs.Slots.{slot_pushed, same_slot}
use Rattle.hc_bind.proofs.scope.push_slots.Goals as goal

pub loop-column-preserved : goal.loop-column-preserved
loop-column-preserved c =
    ap (map slot_of) c.in_ok-push.ensures.items
    ∙ slot_pushed slot_of c.args.source.now c.args.columns.now c.loop-column.column-index c.column-item.result c.args.out.now.items c.loop-column.out.items _ c.loop-column-test.true c.column-item.is c.loop-column.invariant
    (same_slot c.args.source.now _ _ _ _ _ c.as_str.ensures.text (c.in_ok-counted.ensures.ok ∙ ap length c.as_slice.ensures.value))
