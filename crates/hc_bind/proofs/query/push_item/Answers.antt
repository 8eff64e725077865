use Rattle.std.proofs.Common.{◌∙◌, ap, sym, map, None}
use Rattle.hc_schema.specs.Binding.Faults.{walk}
use Rattle.hc_schema.specs.Binding.Queries.{with_item}
use Rattle.hc_bind.specs.Scopes.{slot_of}
use Rattle.hc_bind.specs.Settings.{read_on, answer_of, star_if}
use Rattle.hc_bind.proofs.Judging.{to_same}
use Rattle.hc_bind.proofs.Stars.{star_all}
use Rattle.hc_bind.proofs.query.push_item.Goals as goal

pub returns-in-All : goal.returns-in-All
returns-in-All c =
    to_same _ _ _ c.push_star.result
    (ap (with_item (read_on c.args.setting.now) (map answer_of c.args.out.now.items)) c.in-All.is
    ∙ sym (star_all slot_of (read_on c.args.setting.now).grouping (map answer_of c.args.out.now.items) c.args.setting.now.scope.slots.items)
    ∙ ap (walk (λ m x. star_if (read_on c.args.setting.now).grouping None m (slot_of x)) (map answer_of c.args.out.now.items)) (sym c.as_slice.ensures.value))
    c.push_star.ensures
