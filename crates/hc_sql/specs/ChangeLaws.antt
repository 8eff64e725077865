-- What statements that change a database leave. Each law is the contract of a function that does nothing.
use Rattle.std.specs.Prelude.{◌≡◌, ℕ, Bool, true, List, [], ◌∷◌, Option, Some, Ok}
use Rattle.std.specs.List.{AllByRecursion}
use Rattle.hc_range.specs.Ranges.{InAny}
use Rattle.hc_ast.specs.declared.bound.Bound.{Bound}
use Rattle.hc_ast.specs.declared.expression.Expr.{Expr}
use Rattle.hc_ast.specs.declared.table.ColumnDef.{ColumnDef}
use Rattle.hc_ast.specs.declared.table.KeyRule.{KeyRule}
use Rattle.hc_ast.specs.declared.statement.Assign.{Assign}
use Rattle.hc_ast.specs.declared.statement.Stmt.{Stmt}
use Rattle.hc_ast.specs.declared.statement.Stmt.TheVariants as stmt
use Rattle.hc_schema.specs.declared.bound_statement.BoundSet.{BoundSet}
use Rattle.hc_schema.specs.declared.table.Table.{Table}
use Rattle.hc_schema.specs.Binding.Statements.{Update, binding}
use Rattle.hc_schema.specs.Databases.{Database, IsDatabase, Agree}
use Rattle.hc_sql.specs.Stored.{rows_in}
use Rattle.hc_sql.specs.Select.{meets}
use Rattle.hc_sql.specs.Update.{changed}
use Rattle.hc_sql.specs.Statements.{named_tables, run, reads}

-- what the statement leaves of a database is a database: each index has what it should of the rows, and no row twice where it is unique
abbrev pub LeavesADatabase : Stmt → Type 0
LeavesADatabase s = (db : Database) → IsDatabase db → IsDatabase (run db s).db

-- what a DELETE leaves of a database is one
abbrev pub ADeleteLeavesADatabase : Type 0
ADeleteLeavesADatabase = (table : List ℕ) (filter : Option Expr) → LeavesADatabase (stmt.Delete table filter)

-- what a DROP TABLE leaves of a database is one
abbrev pub ADropTableLeavesADatabase : Type 0
ADropTableLeavesADatabase = (maybe : Bool) (name : List ℕ) → LeavesADatabase (stmt.DropTable maybe name)

-- what a DROP INDEX leaves of a database is one
abbrev pub ADropIndexLeavesADatabase : Type 0
ADropIndexLeavesADatabase = (maybe : Bool) (name : List ℕ) → LeavesADatabase (stmt.DropIndex maybe name)

-- On two databases that agree on what the statement reads on the first, it answers the same, reads the same, and leaves the same
-- records at each key that it reads. What it does not read it leaves as it was in each (`ChangesAreRead`).
abbrev pub IsDecidedByItsReads : Stmt → Type 0
IsDecidedByItsReads s = (a b : Database) → IsDatabase a → IsDatabase b → Agree (InAny (reads a s)) a b
    → ((run a s).reply ≡ (run b s).reply) × (reads a s ≡ reads b s) × Agree (InAny (reads a s)) (run a s).db (run b s).db

-- a DELETE is decided by what it reads
abbrev pub DeletesAreDecided : Type 0
DeletesAreDecided = (table : List ℕ) (filter : Option Expr) → IsDecidedByItsReads (stmt.Delete table filter)

-- a CREATE TABLE is decided by what it reads
abbrev pub CreateTableIsDecided : Type 0
CreateTableIsDecided = (maybe : Bool) (name : List ℕ) (columns : List ColumnDef) (rules : List KeyRule) → IsDecidedByItsReads (stmt.CreateTable maybe name columns rules)

-- a DROP TABLE is decided by what it reads
abbrev pub DropTableIsDecided : Type 0
DropTableIsDecided = (maybe : Bool) (name : List ℕ) → IsDecidedByItsReads (stmt.DropTable maybe name)

-- a CREATE INDEX is decided by what it reads
abbrev pub CreateIndexIsDecided : Type 0
CreateIndexIsDecided = (is_unique maybe : Bool) (name table : List ℕ) (columns : List (List ℕ)) → IsDecidedByItsReads (stmt.CreateIndex is_unique maybe name table columns)

-- a DROP INDEX is decided by what it reads
abbrev pub DropIndexIsDecided : Type 0
DropIndexIsDecided = (maybe : Bool) (name : List ℕ) → IsDecidedByItsReads (stmt.DropIndex maybe name)

-- ---- UPDATE to the same values

-- once it is bound over the table that it names, the UPDATE sets each row that meets its condition to the values that it has
abbrev pub SetsTheSame : Database → List ℕ → List Assign → Option Expr → Type 0
SetsTheSame db table assigns filter =
    (tables : List Table) (t : Table) (sets : List BoundSet) (conjuncts : List Bound) → (named_tables (table ∷ []) db).result ≡ Ok tables
    → binding tables (stmt.Update table assigns filter) ≡ Ok (Update t sets conjuncts)
    → AllByRecursion (λ row. meets conjuncts row.values ≡ Some true → changed t sets row ≡ Some (record { old = row; new = row })) (rows_in db t.tree)

-- such an UPDATE changes nothing
abbrev pub AnUpdateToTheSameChangesNothing : Type 0
AnUpdateToTheSameChangesNothing =
    (db : Database) (table : List ℕ) (assigns : List Assign) (filter : Option Expr) → IsDatabase db → SetsTheSame db table assigns filter → (run db (stmt.Update table assigns filter)).db ≡ db
