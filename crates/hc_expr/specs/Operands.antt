-- Values that are lent or made, and when a call's answer is an outcome.
use Rattle.std.specs.Prelude.{◌≡◌, Option, Some, None, Ok, Err, Result}
use Rattle.hc_value.specs.declared.value.Value.{Value}
use Rattle.hc_expr.specs.declared.fault.EvalFault.{EvalFault}
use Rattle.hc_expr.specs.declared.fault.EvalFault.TheVariants.{Overflow, NoMemory}
use Rattle.hc_expr.specs.declared.operand.Operand.{Operand}
use Rattle.hc_expr.specs.declared.operand.Operand.TheVariants.{Lent, Made}
use Rattle.hc_expr.specs.Arithmetic.{Outcome}
use Rattle.hc_expr.specs.Logic.{Truth}

-- the value of an operand
abbrev pub held : Operand → Value
held (Lent v) = v.now
held (Made v) = v

-- the answer is the outcome; that memory ran out may be answered in place of any
abbrev pub Gives : {T : Type 0} → (T → Value) → Result T EvalFault → Outcome → Type 0
Gives value_of (Ok v) outcome = outcome ≡ Some (value_of v)
Gives value_of (Err Overflow) outcome = outcome ≡ None
Gives value_of (Err NoMemory) outcome = Unit {0}

-- the same of a truth, where there is no truth if something overflows
abbrev pub GivesTruth : Result Truth EvalFault → Option Truth → Type 0
GivesTruth (Ok t) outcome = outcome ≡ Some t
GivesTruth (Err Overflow) outcome = outcome ≡ None
GivesTruth (Err NoMemory) outcome = Unit {0}
