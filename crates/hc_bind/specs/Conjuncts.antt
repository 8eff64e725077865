-- What is told of a condition whose conjuncts are added to a list: its class.
use Rattle.std.specs.Prelude.{◌≡◌, List, [], ◌∷◌, ◌++◌, Result, Ok, Err}
use Rattle.hc_value.specs.declared.storage.Class.{Class}
use Rattle.hc_ast.specs.declared.bound.Bound.{Bound}
use Rattle.hc_schema.specs.declared.typed.Typed.{Typed}
use Rattle.hc_schema.specs.Binding.Faults.{Judged}
use Rattle.hc_schema.specs.Binding.Expressions.{Reading}
use Rattle.hc_bind.specs.declared.fault.BindFault.{BindFault}
use Rattle.hc_bind.specs.Answers.{IsWhy}

-- the expression has this class, and the operands of its ANDs come after those before
abbrev pub Conjoined : Judged Typed → Judged (List Bound) → List Bound → List Bound → Class → Type 0
Conjoined rows conjuncts before now class =
    (t : Typed) × (rows ≡ Ok t) × (t.class ≡ class) × (more : List Bound) × (conjuncts ≡ Ok more) × (now ≡ before ++ more)

abbrev pub Conjoins : Reading → List Bound → List Bound → Result Class BindFault → Type 0
Conjoins r before now (Ok class) = Conjoined r.on_rows r.conjuncts before now class
Conjoins r before now (Err e) = IsWhy e r.on_rows

-- the same of one that is no AND
abbrev pub ConjoinsAlone : Judged Typed → List Bound → List Bound → Result Class BindFault → Type 0
ConjoinsAlone rows before now (Ok class) = (t : Typed) × (rows ≡ Ok t) × (t.class ≡ class) × (now ≡ before ++ t.value ∷ [])
ConjoinsAlone rows before now (Err e) = IsWhy e rows
