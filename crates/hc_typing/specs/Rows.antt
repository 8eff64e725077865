-- Rows for an expression that names were resolved in: what they have to have, and what its value is of.
use Rattle.std.specs.Prelude.{◌≡◌, ◌⊎◌, List, slice_index_or, Some}
use Rattle.hc_base.specs.Lookup.{Among}
use Rattle.hc_value.specs.declared.storage.Class.{Class}
use Rattle.hc_value.specs.declared.storage.Class.TheVariants as class
use Rattle.hc_value.specs.declared.value.Value.{Value}
use Rattle.hc_value.specs.declared.value.Value.TheVariants.{Null}
use Rattle.hc_value.specs.Order.{class_of}
use Rattle.hc_expr.specs.Arithmetic.{Outcome}
use Rattle.hc_schema.specs.Binding.Scopes.{Scope, Slot}

-- a value is NULL or of the class; where the class is that of NULL it is NULL
abbrev pub IsOfClass : Class → Value → Type 0
IsOfClass c v = (class_of v ≡ class.Null) ⊎ (class_of v ≡ c)

-- an outcome overflows, or is NULL or of the class
abbrev pub IsAlwaysOf : Class → Outcome → Type 0
IsAlwaysOf c o = (v : Value) → o ≡ Some v → IsOfClass c v

-- the row has in the place of each column in scope NULL or a value of the column's class
abbrev pub FitsScope : Scope → List Value → Type 0
FitsScope scope row = (slot : Slot) → Among slot scope.slots → IsOfClass slot.class (slice_index_or row slot.place Null)

-- the rows have the same value in the place of each column in scope
abbrev pub AgreeInScope : Scope → List Value → List Value → Type 0
AgreeInScope scope row other = (slot : Slot) → Among slot scope.slots → slice_index_or row slot.place Null ≡ slice_index_or other slot.place Null
