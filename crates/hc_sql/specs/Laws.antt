-- What holds of statements. Each law is the contract of a function that does nothing.
use Rattle.std.specs.Prelude.{◌≡◌, ◌↔◌}
use Rattle.hc_range.specs.Ranges.{InAny}
use Rattle.hc_ast.specs.declared.query.Select.{Select}
use Rattle.hc_ast.specs.declared.statement.Stmt.{Stmt}
use Rattle.hc_ast.specs.declared.statement.Stmt.TheVariants as stmt
use Rattle.hc_core.specs.declared.cells.Cell.{Cell}
use Rattle.hc_transcript.specs.declared.refusal.Refusal.{Refusal}
use Rattle.hc_transcript.specs.declared.reply.Line.TheVariants as line
use Rattle.hc_schema.specs.Databases.{Database, IsDatabase, Agree, HasCell}
use Rattle.hc_sql.specs.Statements.{run, reads}

-- a refused statement leaves the database as it was
abbrev pub ARefusedStatementChangesNothing : Type 0
ARefusedStatementChangesNothing = (db : Database) (s : Stmt) (refusal : Refusal) → (run db s).reply.last ≡ line.Error refusal → (run db s).db ≡ db

-- On two databases that agree on what a query reads on the first, it answers the same and reads the same.
abbrev pub QueriesAreDecided : Type 0
QueriesAreDecided = (a b : Database) (q : Select) → IsDatabase a → IsDatabase b → Agree (InAny (reads a (stmt.Select q))) a b
    → ((run a (stmt.Select q)).reply ≡ (run b (stmt.Select q)).reply) × (reads a (stmt.Select q) ≡ reads b (stmt.Select q))

-- A statement changes no key that it does not read: each cell of another key is in the database before exactly where it is in the one after.
abbrev pub ChangesAreRead : Type 0
ChangesAreRead = (db : Database) (s : Stmt) (cell : Cell) → IsDatabase db → (InAny (reads db s) cell.key → ⊥) → HasCell db cell ↔ HasCell (run db s).db cell

-- a query changes nothing
abbrev pub AQueryChangesNothing : Type 0
AQueryChangesNothing = (db : Database) (q : Select) → (run db (stmt.Select q)).db ≡ db
