use Rattle.std.proofs.Common.{◌∙◌, ◌++◌, ◌∷◌, [], sym, ap, Ok}
use Rattle.hc_schema.specs.Binding.Faults.{after}
use Rattle.hc_schema.specs.Binding.Changes.{new_set, with_set}
use Rattle.hc_bind.specs.Scopes.{seen}
use Rattle.hc_bind.proofs.Judging.{passes, walk_more, walk_why}
use Rattle.hc_bind.proofs.change.sets.Goals as goal

pub loop-assign-preserved : goal.loop-assign-preserved
loop-assign-preserved c =
    walk_more (with_set (seen c.args.scope.now) c.args.columns.now) [] c.args.assigns.now c.loop-assign.assign-index c.assign-item.result c.loop-assign.found (c.loop-assign.found ++ c.in-Ok.set ∷ []) c.loop-assign-test.true c.assign-item.is c.loop-assign.invariant
    (ap (λ j. after j (λ set. Ok (c.loop-assign.found ++ set ∷ [])))
    (ap (λ before. new_set (seen c.args.scope.now) c.args.columns.now before c.assign-item.result) (sym c.as_slice.ensures) ∙ c.in-Ok.ensures))
    ∙ ap (λ v. Ok v) (sym c.in_ok-push-in-Ok.ensures.ok)

pub returns-in-Err : goal.returns-in-Err
returns-in-Err c =
    walk_why (with_set (seen c.args.scope.now) c.args.columns.now) [] c.args.assigns.now c.loop-assign.assign-index c.assign-item.result c.loop-assign.found c.in-Err.fault c.loop-assign-test.true c.assign-item.is c.loop-assign.invariant
    (passes c.in-Err.fault (new_set (seen c.args.scope.now) c.args.columns.now c.loop-assign.found c.assign-item.result) (λ set. Ok (c.loop-assign.found ++ set ∷ []))
    (λ fault why. ap (λ before. new_set (seen c.args.scope.now) c.args.columns.now before c.assign-item.result) (sym c.as_slice.ensures) ∙ c.in-Err.ensures fault why))
