-- Worked statements: what a statement on a small database answers, what it leaves, and which ranges of keys it reads, sets and clears.
-- The text of a statement is its canonical text, so text and tree cannot part.
use Rattle.std.specs.Prelude.{◌≡◌, ℕ, List, []}
use Rattle.hc_range.specs.declared.range.Range.{Range}
use Rattle.hc_ast.specs.declared.statement.Stmt.{Stmt}
use Rattle.hc_ast.specs.Canonical.{canonical}
use Rattle.hc_schema.specs.Databases.{Database}
use Rattle.hc_sql.specs.Results.{Reply}
use Rattle.hc_sql.specs.Statements.{run, reads}

-- A database as statements make it, one after another, of the empty one: those before, the last one with its text, and the database
-- after it.
pub data Setup : Type 0 where
  Empty : Setup
  -- one that no short script makes
  Given : Database → Setup
  After : Setup → List ℕ → Stmt → Database → Setup

abbrev pub db_of : Setup → Database
db_of Empty = []
db_of (Given db) = db
db_of (After before text s db) = db

-- the last statement has the text, and makes the database of the one before
abbrev pub Makes : Setup → Type 0
Makes Empty = Unit {0}
Makes (Given db) = Unit {0}
Makes (After before text s db) = (canonical s ≡ text) × ((run (db_of before) s).db ≡ db)

-- A statement with its text, the database that it is run on, its reply, the database after it, and what it reads, sets and clears
-- in the order of work.
pub record Worked : Type 0 where
  pub on : Setup
  pub text : List ℕ
  pub statement : Stmt
  pub reply : Reply
  pub after : Database
  pub reads : List Range

-- it is so
pub record Holds (w : Worked) : Type 0 where
  pub written : canonical w.statement ≡ w.text
  pub answered : (run (db_of w.on) w.statement).reply ≡ w.reply
  pub changed : (run (db_of w.on) w.statement).db ≡ w.after
  pub looked : reads (db_of w.on) w.statement ≡ w.reads
