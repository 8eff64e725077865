-- What follows from the definitions of binding and of values alone. Each law is the contract of a function that does nothing.
use Rattle.std.specs.Prelude.{◌≡◌, List, Ok}
use Rattle.hc_value.specs.declared.value.Value.{Value}
use Rattle.hc_ast.specs.declared.expression.Expr.{Expr}
use Rattle.hc_expr.specs.Values.{value_of}
use Rattle.hc_schema.specs.declared.typed.Typed.{Typed}
use Rattle.hc_schema.specs.Binding.Expressions.{Grouping, on_rows, reading_of}
use Rattle.hc_schema.specs.Binding.Scopes.{Scope}
use Rattle.hc_typing.specs.Groups.{FitsGroups}
use Rattle.hc_typing.specs.Rows.{AgreeInScope, FitsScope, IsAlwaysOf}

-- A bound expression has NULL or a value of its class, or overflows, on each row that has NULL or a value of its column's class
-- in the place of each column in scope.
abbrev pub ABoundExpressionHasItsClass : Type 0
ABoundExpressionHasItsClass = (scope : Scope) (e : Expr) (t : Typed) (row : List Value)
    → on_rows scope e ≡ Ok t → FitsScope scope row → IsAlwaysOf t.class (value_of row t.value)

-- It reads no place of a row but those of columns in scope.
abbrev pub ABoundExpressionReadsItsScope : Type 0
ABoundExpressionReadsItsScope = (scope : Scope) (e : Expr) (t : Typed) (row other : List Value)
    → on_rows scope e ≡ Ok t → AgreeInScope scope row other → value_of row t.value ≡ value_of other t.value

-- An expression that is read on groups has NULL or a value of its class, or overflows, on each row of a group that has NULL or a
-- value of their class in the places of the expressions of GROUP BY and of the aggregates.
abbrev pub AnExpressionOnGroupsHasItsClass : Type 0
AnExpressionOnGroupsHasItsClass = (scope : Scope) (g : Grouping) (e : Expr) (t : Typed) (row : List Value)
    → (reading_of scope e).on_groups g ≡ Ok t → FitsGroups scope g row → IsAlwaysOf t.class (value_of row t.value)
