-- What a statement means over tables, or its first fault.
use Rattle.std.specs.Prelude.{◌≡◌, ℕ, List, [], map, Option, Ok, Err}
use Rattle.hc_ast.specs.declared.bound.Bound.{Bound}
use Rattle.hc_ast.specs.declared.expression.Expr.{Expr}
use Rattle.hc_ast.specs.declared.statement.ExprRow.{ExprRow}
use Rattle.hc_ast.specs.declared.statement.Assign.{Assign}
use Rattle.hc_ast.specs.declared.statement.Stmt.{Stmt}
use Rattle.hc_ast.specs.declared.statement.Stmt.TheVariants as stmt
use Rattle.hc_schema.specs.declared.table.Table.{Table}
use Rattle.hc_schema.specs.declared.bound_statement.BoundRow.{BoundRow}
use Rattle.hc_schema.specs.declared.bound_statement.BoundSet.{BoundSet}
use Rattle.hc_schema.specs.declared.bound_statement.BoundSelect.{BoundSelect}
use Rattle.hc_schema.specs.declared.bound_statement.BoundStmt.{BoundStmt}
use Rattle.hc_schema.specs.declared.bound_statement.BoundStmt.TheVariants as form
use Rattle.hc_schema.specs.Binding.Faults.{Fault, Judged, after, walk, each}
use Rattle.hc_schema.specs.Binding.Scopes.{table_called, scope_of}
use Rattle.hc_schema.specs.Binding.Changes.{row_columns, new_row, with_set, filtered}
use Rattle.hc_schema.specs.Binding.Queries.{Query, query}

-- a statement that is bound, with its tables as plain data
pub data Binding : Type 0 where
  Select : Query → Binding
  Insert : Table → List ℕ → List BoundRow → Binding
  Update : Table → List BoundSet → List Bound → Binding
  Delete : Table → List Bound → Binding
  Other : Stmt → Binding

-- INSERT: the table, the columns, then row after row
abbrev pub insert : List Table → List ℕ → Option (List (List ℕ)) → List ExprRow → Judged Binding
insert tables name columns rows =
    after (table_called tables name) (λ t.
    after (row_columns t.columns columns) (λ places.
    after (each (map (new_row places) rows)) (λ new.
    Ok (Insert t (map (λ p. p.place) places) new))))

-- UPDATE: the table, each SET, then WHERE
abbrev pub update : List Table → List ℕ → List Assign → Option Expr → Judged Binding
update tables name sets filter =
    after (table_called tables name) (λ t.
    after (walk (with_set (scope_of t) t.columns) [] sets) (λ set.
    after (filtered (scope_of t) filter) (λ kept.
    Ok (Update t set kept))))

-- DELETE: the table, then WHERE
abbrev pub delete : List Table → List ℕ → Option Expr → Judged Binding
delete tables name filter =
    after (table_called tables name) (λ t.
    after (filtered (scope_of t) filter) (λ kept.
    Ok (Delete t kept)))

-- Statements of any other kind are as they are written.
abbrev pub binding : List Table → Stmt → Judged Binding
binding tables (stmt.Select q) = after (query tables q) (λ bound. Ok (Select bound))
binding tables (stmt.Insert table columns rows) = insert tables table columns rows
binding tables (stmt.Update table sets filter) = update tables table sets filter
binding tables (stmt.Delete table filter) = delete tables table filter
binding tables s = Ok (Other s)

-- ---- bound statements as the program has them

abbrev pub query_of : BoundSelect → Query
query_of q = record {
  tables = map (λ t. t.now) q.tables;
  conjuncts = q.conjuncts;
  grouped = q.grouped;
  groups = q.groups;
  aggregates = q.aggregates;
  having = q.having;
  distinct = q.distinct;
  items = q.items;
  order = q.order;
  limit = q.limit;
  offset = q.offset;
}

abbrev pub binding_of : BoundStmt → Binding
binding_of (form.Select q) = Select (query_of q)
binding_of (form.Insert table columns rows) = Insert table.now columns rows
binding_of (form.Update table sets conjuncts) = Update table.now sets conjuncts
binding_of (form.Delete table conjuncts) = Delete table.now conjuncts
binding_of (form.Other s) = Other s.now

-- the statement is bound so over the tables
abbrev pub IsBound : List Table → Stmt → Binding → Type 0
IsBound tables s b = binding tables s ≡ Ok b

-- the statement has this fault over the tables
abbrev pub IsRefused : List Table → Stmt → Fault → Type 0
IsRefused tables s fault = binding tables s ≡ Err fault
