use Rattle.std.proofs.Common.{◌≡◌, ◌∙◌, ◌++◌, ◌∷◌, [], sym, ap, map, Ok}
use Rattle.std.proofs.lemmas.List.{map-append}
use Rattle.hc_schema.specs.Binding.Faults.{after}
use Rattle.hc_schema.specs.Binding.Changes.{named_column, with_column}
use Rattle.hc_bind.specs.Places.{placed_of}
use Rattle.hc_bind.proofs.Judging.{passes, walk_more, walk_why}
use Rattle.hc_bind.proofs.change.named_columns.Goals as goal

pub loop-name-preserved : goal.loop-name-preserved
loop-name-preserved c =
    let m = map placed_of c.loop-name.found.items in
    let told : named_column c.args.columns.now (map (λ p. p.place) m) c.name-item.result ≡ Ok (placed_of c.in-Ok.placed) =
    ap (λ before. named_column c.args.columns.now (map (λ p. p.place) (map placed_of before)) c.name-item.result) (sym c.as_slice.ensures.value)
    ∙ ap (named_column c.args.columns.now (map (λ p. p.place) (map placed_of c.as_slice.result.now))) (sym c.as_str.ensures.text)
    ∙ c.in-Ok.ensures in
    walk_more (with_column c.args.columns.now) [] c.args.names.now c.loop-name.name-index c.name-item.result m (m ++ placed_of c.in-Ok.placed ∷ []) c.loop-name-test.true c.name-item.is c.loop-name.invariant
    (ap (λ j. after j (λ p. Ok (m ++ p ∷ []))) told)
    ∙ ap (λ v. Ok v) (sym (ap (map placed_of) c.in_ok-push-in-Ok.ensures.items ∙ map-append placed_of c.loop-name.found.items (c.in-Ok.placed ∷ [])))

pub returns-in-Err : goal.returns-in-Err
returns-in-Err c =
    let m = map placed_of c.loop-name.found.items in
    walk_why (with_column c.args.columns.now) [] c.args.names.now c.loop-name.name-index c.name-item.result m c.in-Err.fault c.loop-name-test.true c.name-item.is c.loop-name.invariant
    (passes c.in-Err.fault (named_column c.args.columns.now (map (λ p. p.place) m) c.name-item.result) (λ p. Ok (m ++ p ∷ []))
    (λ fault why.
    ap (λ before. named_column c.args.columns.now (map (λ p. p.place) (map placed_of before)) c.name-item.result) (sym c.as_slice.ensures.value)
    ∙ ap (named_column c.args.columns.now (map (λ p. p.place) (map placed_of c.as_slice.result.now))) (sym c.as_str.ensures.text)
    ∙ c.in-Err.ensures fault why))
