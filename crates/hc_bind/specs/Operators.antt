-- Operators with one operand.
use Rattle.hc_ast.specs.declared.bound.Bound.{Bound}
use Rattle.hc_ast.specs.declared.bound.Bound.TheVariants as bound
use Rattle.hc_bind.specs.declared.operator.UnaryOp.{UnaryOp}
use Rattle.hc_bind.specs.declared.operator.UnaryOp.TheVariants.{Not, Minus, Plus}

abbrev pub maker : UnaryOp → Bound → Bound
maker Not = bound.Not
maker Minus = bound.Minus
maker Plus = bound.Plus
