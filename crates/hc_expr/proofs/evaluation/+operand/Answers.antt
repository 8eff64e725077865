use Rattle.std.proofs.Common.{ap, ◌∙◌}
use Rattle.hc_expr.specs.Logic.{disjunction}
use Rattle.hc_expr.specs.Operands.{held}
use Rattle.hc_expr.specs.Values.{are_equal}
use Rattle.hc_expr.proofs.Lists.{among_step, first_step, among_fault, first_fault}
use Rattle.hc_expr.proofs.evaluation.+operand.Goals as goal

pub among-returns-in-Err : goal.among-returns-in-Err
among-returns-in-Err t c =
    among_fault c.args.row.now c.args.list.now c.loop-e.e-index c.e-item.result c.args.v.now c.in-Err.fault c.loop-e-test.true c.e-item.is c.in-Err.ensures

pub among-loop-e-preserved : goal.among-loop-e-preserved
among-loop-e-preserved t c =
    let s = among_step c.args.row.now c.args.list.now c.loop-e.e-index c.e-item.result c.args.v.now (held c.in-Ok.w) c.loop-e.found c.loop-e-test.true c.e-item.is c.loop-e.invariant c.in-Ok.ensures in
    (s.0, s.1, (c.disjunction-found.ensures ∙ ap (disjunction c.loop-e.found) (c.are_equal.ensures ∙ ap (are_equal c.args.v.now) c.get.ensures)) ∙ s.2)

pub first-returns-in-Err : goal.first-returns-in-Err
first-returns-in-Err t c =
    first_fault c.args.row.now c.args.list.now c.loop-e.e-index c.e-item.result c.in-Err.fault c.loop-e-test.true c.e-item.is c.in-Err.ensures

pub first-loop-e-preserved : goal.first-loop-e-preserved
first-loop-e-preserved t c =
    let s = first_step c.args.row.now c.args.list.now c.loop-e.e-index c.e-item.result (held c.in-Ok.w) (held c.loop-e.found) c.loop-e-test.true c.e-item.is c.loop-e.invariant c.in-Ok.ensures in
    (s.0, s.1, c.or-found.ensures ∙ s.2)
