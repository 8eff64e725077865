use Rattle.std.proofs.Common.{◌∙◌, sym}
use Rattle.hc_bind.proofs.Aggregates.{any_in_items}
use Rattle.hc_bind.proofs.aggregate.items_have.Goals as goal

pub returns : goal.returns
returns c = c.any_item.ensures ∙ sym (any_in_items c.args.items.now)
