use Rattle.std.proofs.Common.{◌≡◌, ◌∷◌, None, Some, rules, sym, ◌∙◌}
use Rattle.hc_schema.specs.Reading.{IsNumberOf}
use Rattle.hc_schema.proofs.Pairs.{first_of, read_more}
use Rattle.hc_schema.proofs.reading.columns_from.Goals as goal

pub returns-in_default-column_from_number : goal.returns-in_default-column_from_number
returns-in_default-column_from_number c all pairs =
    let parts : c.loop-value.left.now ≡ c.in-Some.value.now ∷ c.in-Some.rest.now = search rules in
    let left = c.loop-value.invariant all pairs in
    let first = first_of IsNumberOf c.loop-value.left.now c.in-Some.value.now c.in-Some.rest.now left.0 parts left.2 in
    let no : Some first.one ≡ None = sym (c.column_from_number.ensures first.one first.related) ∙ c.in_default-column_from_number.is in
    absurd cc

pub loop-value-preserved : goal.loop-value-preserved
loop-value-preserved c all pairs =
    let parts : c.loop-value.left.now ≡ c.in-Some.value.now ∷ c.in-Some.rest.now = search rules in
    let left = c.loop-value.invariant all pairs in
    let first = first_of IsNumberOf c.loop-value.left.now c.in-Some.value.now c.in-Some.rest.now left.0 parts left.2 in
    let same : Some c.in-Some-column_from_number.k ≡ Some first.one = sym c.in-Some-column_from_number.is ∙ c.column_from_number.ensures first.one first.related in
    (first.others, read_more all c.loop-value.columns c.push.new.self left.0 first.others first.one c.in-Some-column_from_number.k left.1 first.parts same c.in_ok-push.ensures.ok, first.pairs)
