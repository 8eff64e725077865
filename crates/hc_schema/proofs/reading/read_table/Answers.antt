use Rattle.std.proofs.Common.{◌≡◌, ◌∷◌, None, Some, rules, sym, ap, subst, ◌∙◌, arith}
use Rattle.hc_schema.specs.Reading.{IsRecord, head_values}
use Rattle.hc_schema.proofs.Pairs.{some_same, after_ok}
use Rattle.hc_schema.proofs.TableCells.{head_of, head_is, first_is, rest_long, rest_read}
use Rattle.hc_schema.proofs.reading.read_table.Goals as goal

pub returns-in_default-2 : goal.returns-in_default-2
returns-in_default-2 c t is all =
    let parts : c.args.cells.now ≡ c.in-Some.first.now ∷ c.in-Some.rest.now = search rules in
    let record_is = first_is t c.args.cells.now c.in-Some.rest.now c.in-Some.first.now is all parts in
    let found = c.in_ok-head.ensures (head_of t) (head_is t is) (subst (IsRecord (head_values (head_of t))) (sym c.as_slice.ensures) record_is) in
    let no : Some (head_of t) ≡ None = sym found ∙ c.in_default-2.is in
    absurd cc

pub returns-then-rest-head : goal.returns-then-rest-head
returns-then-rest-head c t is all =
    let parts : c.args.cells.now ≡ c.in-Some.first.now ∷ c.in-Some.rest.now = search rules in
    let record_is = first_is t c.args.cells.now c.in-Some.rest.now c.in-Some.first.now is all parts in
    let found = c.in_ok-head.ensures (head_of t) (head_is t is) (subst (IsRecord (head_values (head_of t))) (sym c.as_slice.ensures) record_is) in
    let same : c.in-Some-2.head ≡ head_of t = some_same _ _ (sym c.in-Some-2.is ∙ found) in
    absurd (omega (arith, c.if-rest-head.true, ap (λ h. h.count) same, rest_long t c.args.cells.now c.in-Some.rest.now c.in-Some.first.now all parts))

pub returns : goal.returns
returns c =
    let parts : c.args.cells.now ≡ c.in-Some.first.now ∷ c.in-Some.rest.now = search rules in
    after_ok c.read_rest.result _ _ c.read_rest.ensures
    (λ answer rest t is all.
    let record_is = first_is t c.args.cells.now c.in-Some.rest.now c.in-Some.first.now is all parts in
    let found = c.in_ok-head.ensures (head_of t) (head_is t is) (subst (IsRecord (head_values (head_of t))) (sym c.as_slice.ensures) record_is) in
    let same : c.in-Some-2.head ≡ head_of t = some_same _ _ (sym c.in-Some-2.is ∙ found) in
    rest t (rest_read t c.args.cells.now c.in-Some.rest.now c.split_at.result.0.now c.split_at.result.1.now c.in-Some.first.now c.in-Some-2.head is all parts same c.split_at.ensures.front c.split_at.ensures.back))
