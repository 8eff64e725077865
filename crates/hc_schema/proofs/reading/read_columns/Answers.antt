use Rattle.std.proofs.Common.{◌≡◌, ◌∷◌, None, Some, rules, sym, subst, ◌∙◌}
use Rattle.hc_schema.specs.Cells.{column_values}
use Rattle.hc_schema.specs.Reading.{IsColumnCell, IsRecord}
use Rattle.hc_schema.proofs.Pairs.{first_of, read_all, read_more}
use Rattle.hc_schema.proofs.reading.read_columns.Goals as goal

pub returns-in_default-2 : goal.returns-in_default-2
returns-in_default-2 c all pairs =
    let parts : c.loop-cell.left.now ≡ c.in-Some.cell.now ∷ c.in-Some.rest.now = search rules in
    let left = c.loop-cell.invariant all pairs in
    let first = first_of IsColumnCell c.loop-cell.left.now c.in-Some.cell.now c.in-Some.rest.now left.0 parts left.2 in
    let found = c.in_ok-column.ensures first.one first.related.0 (subst (IsRecord (column_values first.one)) (sym c.as_slice.ensures) first.related.1) in
    let no : Some first.one ≡ None = sym found ∙ c.in_default-2.is in
    absurd cc

pub loop-cell-preserved : goal.loop-cell-preserved
loop-cell-preserved c all pairs =
    let parts : c.loop-cell.left.now ≡ c.in-Some.cell.now ∷ c.in-Some.rest.now = search rules in
    let left = c.loop-cell.invariant all pairs in
    let first = first_of IsColumnCell c.loop-cell.left.now c.in-Some.cell.now c.in-Some.rest.now left.0 parts left.2 in
    let found = c.in_ok-column.ensures first.one first.related.0 (subst (IsRecord (column_values first.one)) (sym c.as_slice.ensures) first.related.1) in
    let same : Some c.in-Some-2.column ≡ Some first.one = sym c.in-Some-2.is ∙ found in
    (first.others, read_more all c.loop-cell.columns c.push.new.self left.0 first.others first.one c.in-Some-2.column left.1 first.parts same c.in_ok-push.ensures.ok, first.pairs)

pub returns : goal.returns
returns c all pairs =
    let left = c.loop-cell.invariant all pairs in read_all IsColumnCell c.loop-cell.left.now all c.loop-cell.columns left.0 left.1 c.in_default.ensures.cases left.2
