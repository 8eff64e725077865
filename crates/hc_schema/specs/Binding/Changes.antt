-- INSERT, UPDATE and DELETE. The table comes first; then names and expressions in the order of text, a name as it is met.
use Rattle.std.specs.Prelude.{ℕ, ◌+◌, Bool, true, ◌&&◌, List, [], ◌∷◌, ◌++◌, length, map, Option, Some, None, Ok, Err, if◌then◌else◌, nat_eq}
use Rattle.std.specs.List.{list_any}
use Rattle.std.specs.Option.{option_to_list}
use Rattle.hc_ast.specs.declared.expression.Expr.{Expr}
use Rattle.hc_ast.specs.declared.bound.Bound.{Bound}
use Rattle.hc_ast.specs.declared.statement.ExprRow.{ExprRow}
use Rattle.hc_ast.specs.declared.statement.Assign.{Assign}
use Rattle.hc_schema.specs.declared.table.Column.{Column}
use Rattle.hc_schema.specs.declared.bound_statement.BoundRow.{BoundRow}
use Rattle.hc_schema.specs.declared.bound_statement.BoundSet.{BoundSet}
use Rattle.hc_schema.specs.declared.typed.Typed.{Typed}
use Rattle.hc_schema.specs.Binding.Names.{same_name}
use Rattle.hc_schema.specs.Binding.Faults.{Judged, NoColumn, TwoColumns, Mixed, Arity, after, walk, each}
use Rattle.hc_schema.specs.Binding.Classes.{fits}
use Rattle.hc_schema.specs.Binding.Scopes.{Scope, no_scope}
use Rattle.hc_schema.specs.Binding.Expressions.{values_of, on_rows, conjuncts_of}

-- ---- columns by their names

-- a column of a table with its place
pub record Placed : Type 0 where
  pub column : Column
  pub place : ℕ

-- the first column of this name, counted from a place on
abbrev pub column_called : ℕ → List Column → List ℕ → Judged Placed
column_called place [] name = Err (NoColumn name)
column_called place (column ∷ columns) name =
    if same_name column.name name then Ok (record { column = column; place = place }) else column_called (place + 1) columns name

-- a column that is not among those named before
abbrev pub if_new : List ℕ → Placed → Judged Placed
if_new before found = if list_any (nat_eq found.place) before then Err (TwoColumns found.column.name) else Ok found

-- the column of this name, which must be there and not be named before
abbrev pub named_column : List Column → List ℕ → List ℕ → Judged Placed
named_column columns before name = after (column_called 0 columns name) (if_new before)

-- ---- INSERT

abbrev pub with_column : List Column → List Placed → List ℕ → Judged (List Placed)
with_column columns before name =
    after (named_column columns (map (λ p. p.place) before) name) (λ p. Ok (before ++ p ∷ []))

-- columns with their places, counted from a place on
abbrev pub all_placed : ℕ → List Column → List Placed
all_placed place [] = []
all_placed place (column ∷ columns) = record { column = column; place = place } ∷ all_placed (place + 1) columns

-- the columns that rows have values for: those named, or all
abbrev pub row_columns : List Column → Option (List (List ℕ)) → Judged (List Placed)
row_columns columns None = Ok (all_placed 0 columns)
row_columns columns (Some names) = walk (with_column columns) [] names

-- each value fits the class of its column
abbrev pub all_fit_columns : List Placed → List Typed → Bool
all_fit_columns (p ∷ ps) (t ∷ ts) = fits t.class p.column.class && all_fit_columns ps ts
all_fit_columns ps ts = true

-- A row has a value for each column, of its class: first its expressions, then their number, then their classes.
abbrev pub fitted_row : List Placed → List Typed → Judged BoundRow
fitted_row places ts =
    if nat_eq (length ts) (length places)
    then (if all_fit_columns places ts then Ok (record { values = values_of ts }) else Err Mixed)
    else Err (Arity (length ts) (length places))

-- a new row, which has no column in scope
abbrev pub new_row : List Placed → ExprRow → Judged BoundRow
new_row places row = after (each (map (on_rows no_scope) row.values)) (fitted_row places)

-- ---- UPDATE and DELETE

-- the value of a SET on the table's rows, which fits the column's class
abbrev pub set_value : Scope → Expr → Placed → Judged BoundSet
set_value scope value p = after (on_rows scope value) (λ t.
    if fits t.class p.column.class then Ok (record { column = p.place; value = t.value }) else Err Mixed)

-- a SET after others: its column, then its value
abbrev pub new_set : Scope → List Column → List BoundSet → Assign → Judged BoundSet
new_set scope columns before assign =
    after (named_column columns (map (λ set. set.column) before) assign.column) (set_value scope assign.value)

abbrev pub with_set : Scope → List Column → List BoundSet → Assign → Judged (List BoundSet)
with_set scope columns before assign = after (new_set scope columns before assign) (λ set. Ok (before ++ set ∷ []))

-- the conjuncts of some conditions, after those before
abbrev pub with_condition : Scope → List Bound → Expr → Judged (List Bound)
with_condition scope before e = after (conjuncts_of scope e) (λ more. Ok (before ++ more))

-- the conjuncts of a condition; none without one
abbrev pub filtered : Scope → Option Expr → Judged (List Bound)
filtered scope e = walk (with_condition scope) [] (option_to_list e)
