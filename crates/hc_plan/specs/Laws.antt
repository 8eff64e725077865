-- What follows from the definitions alone. Each law is the contract of a function that does nothing.
use Rattle.std.specs.Prelude.{◌≡◌, ℕ, true, List, slice_get, Some}
use Rattle.hc_value.specs.declared.value.Value.{Value}
use Rattle.hc_ast.specs.declared.bound.Bound.{Bound}
use Rattle.hc_expr.specs.Values.{value_of}
use Rattle.hc_schema.specs.declared.table.Table.{Table}
use Rattle.hc_schema.specs.Paths.{facts, path_of}
use Rattle.hc_plan.specs.Rows.{AgreeBefore, IsOnPath, IsTrueOn, conjunct_of}

-- An expression whose columns are all before an offset has the same value, or overflows, on all rows with the same values there.
abbrev pub ColumnsBeforeDecide : Type 0
ColumnsBeforeDecide = (offset : ℕ) (row other : List Value) (e : Bound) → AgreeBefore offset row other → (facts offset e).before ≡ true
    → value_of row e ≡ value_of other e

-- A row on which the conjunct of its table's path is true is on the path.
abbrev pub ATrueRowIsOnThePath : Type 0
ATrueRowIsOnThePath = (t : Table) (offset : ℕ) (conjuncts : List Bound) (row : List Value)
    → ((n : ℕ) (conjunct : Bound) → conjunct_of (path_of t offset conjuncts) ≡ Some n → slice_get conjuncts n ≡ Some conjunct → IsTrueOn row conjunct)
    → IsOnPath t offset conjuncts (path_of t offset conjuncts) row
