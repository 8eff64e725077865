use Rattle.std.proofs.Common.{◌≡◌, ◌∙◌, ◌++◌, [], List, ap, sym}
use Rattle.std.specs.List.{flat_map}
use Rattle.std.specs.Option.{option_to_list}
use Rattle.hc_ast.specs.declared.query.FromTable.{FromTable}
use Rattle.hc_ast.specs.declared.query.Select.{Select}
use Rattle.hc_ast.specs.declared.bound.Bound.{Bound}
use Rattle.hc_schema.specs.Binding.Faults.{after, walk}
use Rattle.hc_schema.specs.Binding.Scopes.{Scope}
use Rattle.hc_schema.specs.Binding.Changes.{with_condition}
use Rattle.hc_schema.specs.Binding.Queries.{conjuncts}
use Rattle.hc_bind.specs.Scopes.{seen}
use Rattle.hc_bind.proofs.Judging.{passes, tells_same, told_by, walk_append}
use Rattle.hc_bind.proofs.query.conjuncts.Goals as goal

-- the ON conditions come first
ons_first : (scope : Scope) (q : Select) (tables : List FromTable) (none : List Bound) → tables ≡ q.tables → none ≡ []
    → conjuncts scope q ≡ after (walk (with_condition scope) none (flat_map (λ from. option_to_list from.on) tables)) (λ m. walk (with_condition scope) m (option_to_list q.filter))
ons_first scope q tables none same empty =
    ap (λ ts. walk (with_condition scope) [] (flat_map (λ from. option_to_list from.on) ts ++ option_to_list q.filter)) (sym same)
    ∙ ap (λ bs. walk (with_condition scope) bs (flat_map (λ from. option_to_list from.on) tables ++ option_to_list q.filter)) (sym empty)
    ∙ walk_append (with_condition scope) none (flat_map (λ from. option_to_list from.on) tables) (option_to_list q.filter)

pub returns-in-Ok : goal.returns-in-Ok
returns-in-Ok c =
    tells_same _ _ c.with_filter.result
    (ons_first (seen c.args.scope.now) c.args.q.now c.as_slice.result.now c.new-out.result.items c.as_slice.ensures c.new-out.ensures.items
    ∙ ap (λ j. after j (λ m. walk (with_condition (seen c.args.scope.now)) m (option_to_list c.args.q.now.filter))) c.in-Ok.ensures)
    c.with_filter.ensures

pub returns-in-Err : goal.returns-in-Err
returns-in-Err c =
    told_by c.in-Err.fault _ _ (ons_first (seen c.args.scope.now) c.args.q.now c.as_slice.result.now c.new-out.result.items c.as_slice.ensures c.new-out.ensures.items)
    (passes c.in-Err.fault _ (λ m. walk (with_condition (seen c.args.scope.now)) m (option_to_list c.args.q.now.filter)) c.in-Err.ensures)
