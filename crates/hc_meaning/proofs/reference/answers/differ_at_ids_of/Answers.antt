use Rattle.std.proofs.Common.{◌∙◌, sym, subst, get_or, pos, ℤ, FitsSigned, w64, rules}
use Rattle.std.specs.Prelude.{All}
use Rattle.std.proofs.lemmas.Int.{to_z-of_z}
use Rattle.std.proofs.lemmas.List.{take_all}
use Rattle.std.proofs.lemmas.List.Elements.{All-more}
use Rattle.hc_meaning.proofs.Table.Differences.{AgreesAt}
use Rattle.hc_meaning.proofs.reference.answers.differ_at_ids_of.Goals as goal

pub loop-row-preserved : goal.loop-row-preserved
loop-row-preserved c =
    let fits : FitsSigned w64 (get_or c.args.rows.now c.loop-row.row-index (pos 0, pos 0)).0 = search rules in
    let there = simp to_z-of_z at c.value_at.ensures in
    let here = simp to_z-of_z at c.value_at-in-loop-row.ensures in
    All-more (λ (row : ℤ × ℤ). AgreesAt c.args.before.now c.args.after.now row.0) c.args.rows.now c.loop-row.row-index (pos 0, pos 0) c.loop-row-test.true c.loop-row.invariant
    (sym there ∙ c.same.ensures.0 c.if-not-same.false ∙ here)

pub returns-clause-none : goal.returns-clause-none
returns-clause-none c = λ no.
    subst (All (λ row. AgreesAt c.args.before.now c.args.after.now row.0)) (take_all c.loop-row.row-index c.args.rows.now c.loop-row-test.false) c.loop-row.invariant
