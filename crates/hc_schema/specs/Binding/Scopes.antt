-- Which names are in scope, and what a column's name means. After the FROM clause of https://www.sqlite.org/lang_select.html and the
-- functions of lang_expr.html.
use Rattle.std.specs.Prelude.{ℕ, ◌+◌, Bool, true, ◌&&◌, List, [], ◌∷◌, ◌++◌, length, Option, Some, None, Ok, Err, if◌then◌else◌}
use Rattle.std.specs.List.{list_any, filter}
use Rattle.hc_value.specs.declared.storage.Class.{Class}
use Rattle.hc_ast.specs.declared.bound.Bound.{Bound}
use Rattle.hc_ast.specs.declared.bound.Bound.TheVariants as bound
use Rattle.hc_schema.specs.declared.table.Table.{Table}
use Rattle.hc_schema.specs.declared.table.Column.{Column}
use Rattle.hc_schema.specs.declared.typed.Typed.{Typed}
use Rattle.hc_schema.specs.Binding.Names.{same_name}
use Rattle.hc_schema.specs.Binding.Faults.{Judged, NoTable, NoColumn, Ambiguous}

-- a column in scope: what its table is called, its own name, its class, and its place in a row
pub record Slot : Type 0 where
  pub source : List ℕ
  pub name : List ℕ
  pub class : Class
  pub place : ℕ

-- what the tables in scope are called, in FROM's order, and their columns
pub record Scope : Type 0 where
  pub sources : List (List ℕ)
  pub slots : List Slot

-- no name is in scope
abbrev pub no_scope : Scope
no_scope = record { sources = []; slots = [] }

-- the columns of a table that is called so, the first of which has this place
abbrev pub source_slots : List ℕ → ℕ → List Column → List Slot
source_slots source place [] = []
source_slots source place (column ∷ columns) =
    record { source = source; name = column.name; class = column.class; place = place } ∷ source_slots source (place + 1) columns

-- A scope and one table more, which is called by its alias or else by its name.
abbrev pub with_source : Scope → List ℕ → Table → Scope
with_source scope name t = record {
  sources = scope.sources ++ name ∷ [];
  slots = scope.slots ++ source_slots name (length scope.slots) t.columns;
}

-- the one table of a statement that changes it, which is called by its own name
abbrev pub scope_of : Table → Scope
scope_of t = with_source no_scope t.name t

-- a table in scope is called so
abbrev pub is_source : Scope → List ℕ → Bool
is_source scope name = list_any (λ source. same_name source name) scope.sources

-- whether a column may be meant by a name with this table's name before it, or with none
abbrev pub is_of : Option (List ℕ) → Slot → Bool
is_of None slot = true
is_of (Some name) slot = same_name slot.source name

-- the columns in scope that are called so
abbrev pub is_meant : Option (List ℕ) → List ℕ → Slot → Bool
is_meant source name slot = is_of source slot && same_name slot.name name

-- a bound expression with its class
abbrev pub typed : Bound → Class → Typed
typed value class = record { value = value; class = class }

-- a column of a row
abbrev pub column : Slot → Typed
column slot = typed (bound.Column slot.place) slot.class

-- there is exactly one
abbrev pub the_one : List ℕ → List Slot → Judged Typed
the_one name [] = Err (NoColumn name)
the_one name (slot ∷ []) = Ok (column slot)
the_one name (slot ∷ other ∷ others) = Err (Ambiguous name)

-- A name without a table's name means the one column in scope that is called so; `t.c` means one of the table t.
abbrev pub resolved : Scope → Option (List ℕ) → List ℕ → Judged Typed
resolved scope None name = the_one name (filter (is_meant None name) scope.slots)
resolved scope (Some source) name =
    if is_source scope source then the_one name (filter (is_meant (Some source) name) scope.slots) else Err (NoTable source)

-- the table of this name
abbrev pub table_called : List Table → List ℕ → Judged Table
table_called [] name = Err (NoTable name)
table_called (t ∷ tables) name = if same_name t.name name then Ok t else table_called tables name
