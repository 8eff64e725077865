-- The expressions so far have values, and what is found is that of these.
use Rattle.std.proofs.Common.{◌≡◌, Some, List, take}
use Rattle.hc_value.specs.declared.value.Value.{Value}
use Rattle.hc_expr.specs.Operands.{held}
use Rattle.hc_expr.specs.Values.{values_of, is_among, first_value}
use Rattle.hc_expr.proofs.evaluation.+operand.Given as goal

abbrev pub invariant-among-loop-e : goal.invariant-among-loop-e
invariant-among-loop-e l = (vs : List Value) × (values_of l.row (take l.e-index l.list) ≡ Some vs) × (l.found ≡ is_among l.v vs)

abbrev pub invariant-first-loop-e : goal.invariant-first-loop-e
invariant-first-loop-e l = (vs : List Value) × (values_of l.row (take l.e-index l.list) ≡ Some vs) × (held l.found ≡ first_value vs)
