use Rattle.std.proofs.Common.{◌∙◌, ap, sym, map, Some, Err}
use Rattle.std.specs.Prelude.{if◌then◌else◌}
use Rattle.std.specs.List.{filter}
use Rattle.hc_schema.specs.Binding.Faults.{NoTable, walk}
use Rattle.hc_schema.specs.Binding.Scopes.{is_of}
use Rattle.hc_schema.specs.Binding.Queries.{with_star}
use Rattle.hc_bind.specs.Scopes.{slot_of}
use Rattle.hc_bind.specs.Settings.{read_on, answer_of, star_if}
use Rattle.hc_bind.proofs.Judging.{to_same}
use Rattle.hc_bind.proofs.Stars.{star_walk}
use Rattle.hc_bind.proofs.query.push_all_of.Goals as goal

pub returns-then-is_source : goal.returns-then-is_source
returns-then-is_source c =
    to_same _ _ _ c.push_star.result
    (ap (λ b. if b then walk (with_star (read_on c.args.setting.now).grouping) (map answer_of c.args.out.now.items) (filter (is_of (Some c.args.name.now)) (map slot_of c.args.setting.now.scope.slots.items)) else Err (NoTable c.args.name.now))
    (sym c.is_source.ensures ∙ c.if-is_source.true)
    ∙ sym (star_walk slot_of (read_on c.args.setting.now).grouping (Some c.args.name.now) (map answer_of c.args.out.now.items) c.args.setting.now.scope.slots.items)
    ∙ ap (walk (λ m x. star_if (read_on c.args.setting.now).grouping (Some c.args.name.now) m (slot_of x)) (map answer_of c.args.out.now.items)) (sym c.as_slice.ensures.value))
    c.push_star.ensures
