use Rattle.std.proofs.Common.{◌≡◌, ◌∷◌, None, Some, rules, sym, ◌∙◌}
use Rattle.hc_schema.specs.Reading.{IsIndexCell}
use Rattle.hc_schema.proofs.Pairs.{first_of, read_more}
use Rattle.hc_schema.proofs.reading.read_indexes.Goals as goal

pub returns-in_default-2 : goal.returns-in_default-2
returns-in_default-2 c all pairs =
    let parts : c.loop-cell.left.now ≡ c.in-Some.cell.now ∷ c.in-Some.rest.now = search rules in
    let left = c.loop-cell.invariant all pairs in
    let first = first_of IsIndexCell c.loop-cell.left.now c.in-Some.cell.now c.in-Some.rest.now left.0 parts left.2 in
    let no : Some first.one ≡ None = sym (c.in_ok-index.ensures first.one first.related) ∙ c.in_default-2.is in
    absurd cc

pub loop-cell-preserved : goal.loop-cell-preserved
loop-cell-preserved c all pairs =
    let parts : c.loop-cell.left.now ≡ c.in-Some.cell.now ∷ c.in-Some.rest.now = search rules in
    let left = c.loop-cell.invariant all pairs in
    let first = first_of IsIndexCell c.loop-cell.left.now c.in-Some.cell.now c.in-Some.rest.now left.0 parts left.2 in
    let same : Some c.in-Some-2.index ≡ Some first.one = sym c.in-Some-2.is ∙ c.in_ok-index.ensures first.one first.related in
    (first.others, read_more all c.loop-cell.indexes c.push.new.self left.0 first.others first.one c.in-Some-2.index left.1 first.parts same c.in_ok-push.ensures.ok, first.pairs)
