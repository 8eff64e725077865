-- The paths of a statement's tables.
use Rattle.std.specs.Prelude.{ℕ, zero, suc, ◌<◌, ◌^◌, List, length, take, slice_get}
use Rattle.std.specs.Option.{option_map, unwrap_or}
use Rattle.std.specs.List.{AllByRecursion, sum_by}
use denote.Ref.{Bor}
use Rattle.hc_ast.specs.declared.bound.Bound.{Bound}
use Rattle.hc_schema.specs.declared.table.Table.{Table}
use Rattle.hc_schema.specs.declared.path.Path.{Path}
use Rattle.hc_schema.specs.declared.path.Path.TheVariants.{Whole}
use Rattle.hc_schema.specs.declared.bound_statement.BoundStmt.{BoundStmt}
use Rattle.hc_schema.specs.declared.bound_statement.BoundStmt.TheVariants.{Select, Insert, Update, Delete, Other}
use Rattle.hc_schema.specs.Paths.{path_of}

-- how many columns tables have together
abbrev pub width_of : List (Bor Table) → ℕ
width_of tables = sum_by (λ t. length t.now.columns) tables

-- the path of the n-th of a query's tables, whose columns begin where those before it end; one that is not there is whole
abbrev pub query_path : List (Bor Table) → List Bound → ℕ → Path
query_path tables conjuncts n = unwrap_or (option_map (λ t. path_of t.now (width_of (take n tables)) conjuncts) (slice_get tables n)) Whole

-- the path of the one table of a change
abbrev pub change_path : Table → List Bound → ℕ → Path
change_path table conjuncts zero = path_of table 0 conjuncts
change_path table conjuncts (suc n) = Whole

-- the path of the n-th table of a statement
abbrev pub statement_path : BoundStmt → ℕ → Path
statement_path (Select q) n = query_path q.tables q.conjuncts n
statement_path (Insert table columns rows) n = Whole
statement_path (Update table sets conjuncts) n = change_path table.now conjuncts n
statement_path (Delete table conjuncts) n = change_path table.now conjuncts n
statement_path (Other stmt) n = Whole

-- Parts that are counted in 32 bits, as those of every statement that is bound are.
abbrev pub IsCountableTable : Table → Type 0
IsCountableTable t = length t.indexes < 2 ^ 32

abbrev pub IsCountable : BoundStmt → Type 0
IsCountable (Select q) =
    (length q.conjuncts < 2 ^ 32) × (width_of q.tables < 2 ^ 32) × AllByRecursion (λ t. IsCountableTable t.now) q.tables
IsCountable (Insert table columns rows) = Unit {0}
IsCountable (Update table sets conjuncts) = (length conjuncts < 2 ^ 32) × IsCountableTable table.now
IsCountable (Delete table conjuncts) = (length conjuncts < 2 ^ 32) × IsCountableTable table.now
IsCountable (Other stmt) = Unit {0}
