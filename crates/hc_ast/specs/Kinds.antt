-- Which statements there are, and what each has.
use Rattle.std.specs.Prelude.{◌≢◌, [], ⊤}
use Rattle.hc_ast.specs.declared.kind.StatementKind.{StatementKind}
use Rattle.hc_ast.specs.declared.kind.StatementKind.TheVariants.{Transaction, Select, Insert, Update, Delete, Create, Drop}
use Rattle.hc_ast.specs.declared.statement.Stmt.{Stmt}
use Rattle.hc_ast.specs.declared.statement.Stmt.TheVariants as stmt

-- a transaction command, or one of the six kinds of statements that a transaction runs
abbrev pub statement_kind : Stmt → StatementKind
statement_kind (stmt.Select query) = Select
statement_kind (stmt.Insert table columns rows) = Insert
statement_kind (stmt.Update table sets filter) = Update
statement_kind (stmt.Delete table filter) = Delete
statement_kind (stmt.CreateTable maybe name columns rules) = Create
statement_kind (stmt.CreateIndex unique maybe name table columns) = Create
statement_kind (stmt.DropTable maybe name) = Drop
statement_kind (stmt.DropIndex maybe name) = Drop
statement_kind stmt.Begin = Transaction
statement_kind stmt.Commit = Transaction
statement_kind stmt.Rollback = Transaction
statement_kind (stmt.RollbackTo name) = Transaction
statement_kind (stmt.Savepoint name) = Transaction
statement_kind (stmt.Release name) = Transaction

-- A query asks for an item at least, and a new table has a column at least. The tree alone would let both be empty.
abbrev pub HasItsParts : Stmt → Type 0
HasItsParts (stmt.Select query) = query.items ≢ []
HasItsParts (stmt.Insert table columns rows) = ⊤
HasItsParts (stmt.Update table sets filter) = ⊤
HasItsParts (stmt.Delete table filter) = ⊤
HasItsParts (stmt.CreateTable maybe name columns rules) = columns ≢ []
HasItsParts (stmt.CreateIndex unique maybe name table columns) = ⊤
HasItsParts (stmt.DropTable maybe name) = ⊤
HasItsParts (stmt.DropIndex maybe name) = ⊤
HasItsParts stmt.Begin = ⊤
HasItsParts stmt.Commit = ⊤
HasItsParts stmt.Rollback = ⊤
HasItsParts (stmt.RollbackTo name) = ⊤
HasItsParts (stmt.Savepoint name) = ⊤
HasItsParts (stmt.Release name) = ⊤
