-- Short words for values, expressions, replies and ranges.
use Rattle.std.specs.Prelude.{ℕ, pos, Bool, true, false, List, [], ◌∷◌, ◌++◌, length, Option, Some, None}
use Rattle.hc_range.specs.declared.range.Range.{Range}
use Rattle.hc_value.specs.declared.storage.Class.{Class}
use Rattle.hc_value.specs.declared.value.Value.{Value}
use Rattle.hc_value.specs.declared.value.Value.TheVariants.{Null, Int}
use Rattle.hc_key.specs.Keys.{key_bytes}
use Rattle.hc_ast.specs.declared.expression.Expr.{Expr}
use Rattle.hc_ast.specs.declared.expression.Expr.TheVariants as expr
use Rattle.hc_ast.specs.declared.query.FromTable.{FromTable}
use Rattle.hc_ast.specs.declared.query.Item.{Item}
use Rattle.hc_ast.specs.declared.query.Item.TheVariants as item
use Rattle.hc_ast.specs.declared.query.Select.{Select}
use Rattle.hc_ast.specs.declared.statement.ExprRow.{ExprRow}
use Rattle.hc_ast.specs.declared.statement.Assign.{Assign}
use Rattle.hc_ast.specs.declared.table.ColumnDef.{ColumnDef}
use Rattle.hc_ast.specs.declared.table.ColumnRule.{ColumnRule}
use Rattle.hc_transcript.specs.declared.reply.Line.TheVariants as line
use Rattle.hc_transcript.specs.declared.refusal.Refusal.{Refusal}
use Rattle.hc_schema.specs.declared.row.Row.{Row}
use Rattle.hc_schema.specs.declared.table.Table.{Table}
use Rattle.hc_schema.specs.declared.table.Column.{Column}
use Rattle.hc_schema.specs.Databases.{Filled}
use Rattle.hc_schema.specs.Cells.{key_name, number, tree_range}
use Rattle.hc_sql.specs.Looks.{only}
use Rattle.hc_sql.specs.Results.{Reply}

-- ---- values and rows

abbrev pub int : ℕ → Value
int n = Int (pos n)

-- a row of a rowid
abbrev pub at : ℕ → List Value → Row
at rowid values = record { rowid = pos rowid; values = values }

abbrev pub filled : Table → List Row → Filled
filled t rows = record { table = t; rows = rows }

-- ---- tables

abbrev pub typed : List ℕ → Class → Bool → Column
typed name class not_null = record { name = name; class = class; not_null = not_null }

abbrev pub defined : List ℕ → Class → List ColumnRule → ColumnDef
defined name class rules = record { name = name; class = class; rules = rules }

-- ---- expressions

abbrev pub literal : ℕ → Expr
literal n = expr.Value (Int (pos n))

abbrev pub nothing : Expr
nothing = expr.Value Null

abbrev pub column : List ℕ → Expr
column name = expr.Name None name

abbrev pub column_of : List ℕ → List ℕ → Expr
column_of table name = expr.Name (Some table) name

-- ---- parts of statements

abbrev pub row : List Expr → ExprRow
row values = record { values = values }

abbrev pub set : List ℕ → Expr → Assign
set name value = record { column = name; value = value }

abbrev pub from : List ℕ → FromTable
from name = record { name = name; alias = None; joined = false; on = None }

abbrev pub joined : List ℕ → Expr → FromTable
joined name on = record { name = name; alias = None; joined = true; on = Some on }

abbrev pub one : Expr → Item
one value = item.One value None

-- items of tables under a condition
abbrev pub query : List Item → List FromTable → Option Expr → Select
query items tables filter =
    record { distinct = false; items = items; tables = tables; filter = filter; groups = []; having = None; order = []; limit = None; offset = None }

-- ---- replies

abbrev pub shows : List (List Value) → Reply
shows rows = record { rows = rows; last = line.Ok (length rows) }

abbrev pub does : ℕ → Reply
does count = record { rows = []; last = line.Ok count }

abbrev pub refuses : Refusal → Reply
refuses refusal = record { rows = []; last = line.Error refusal }

-- ---- ranges, and single keys as ranges

-- the key of a row
abbrev pub row_cell : ℕ → ℕ → Range
row_cell tree rowid = only (key_bytes tree (Int (pos rowid) ∷ []))

-- the key of a row in an index
abbrev pub index_cell : ℕ → List Value → ℕ → Range
index_cell tree values rowid = only (key_bytes tree (values ++ Int (pos rowid) ∷ []))

-- from the key of a row to the end of its table
abbrev pub from_row : ℕ → ℕ → Range
from_row tree rowid = record { lo = key_bytes tree (Int (pos rowid) ∷ []); hi = (tree_range tree).hi }

-- the key of a name and a tree number in the catalog; 0 where the name is the object's own
abbrev pub catalog_cell : List ℕ → ℕ → Range
catalog_cell name n = only (key_bytes 0 (key_name name ∷ number n ∷ []))

-- the key of a table's column
abbrev pub column_cell : List ℕ → ℕ → Range
column_cell table k = only (key_bytes 0 (key_name table ∷ number 0 ∷ number k ∷ []))
