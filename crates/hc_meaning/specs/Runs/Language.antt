-- A language: what its databases are, and what a statement answers, leaves and reads. What a right run is speaks of any
-- language, and never looks into a database.
use Rattle.std.specs.Prelude.{◌≡◌, ◌≢◌, ◌↔◌, ℕ, List, [], ◌∷◌, Option, Some, None, if◌then◌else◌, bytes_eq, ⊤}
use Rattle.hc_ast.specs.declared.statement.Stmt.{Stmt}
use Rattle.hc_range.specs.declared.range.Range.{Range}
use Rattle.hc_range.specs.Ranges.{InAny}
use Rattle.hc_core.specs.Versions.{AreAscending}
use Rattle.hc_core.specs.declared.cells.Cell.{Cell}
use Rattle.hc_transcript.specs.declared.refusal.Refusal.{Refusal}
use Rattle.hc_transcript.specs.declared.refusal.Refusal.TheVariants.{Busy, Full, NoMemory}
use Rattle.hc_transcript.specs.declared.reply.Line.{Line}
use Rattle.hc_transcript.specs.declared.reply.Line.TheVariants.{Error}
use Rattle.hc_meaning.specs.declared.answer.Answer.{Answer}

-- what a statement answers, and the database after it
pub record Effect (Db : Type 0) : Type 0 where
  pub answer : Answer
  pub db : Db

pub record Language : Type 1 where
  -- what databases are made of, and which values are databases
  pub Db : Type 0
  pub IsDb : Db → Type 0
  -- the database before the first commit
  pub start : Db
  -- its cells: keys with their records, in ascending order
  pub cells : Db → List Cell
  -- what a statement does, if it is one that touches the database
  pub run : Db → Stmt → Effect Db
  -- the ranges of keys that it reads
  pub reads : Db → Stmt → List Range

-- the record at a key, if there is one
abbrev pub record_at : List Cell → List ℕ → Option (List ℕ)
record_at [] key = None
record_at (cell ∷ cells) key = if bytes_eq cell.key key then Some cell.rec else record_at cells key

-- two databases have the same at each key of these ranges
abbrev pub AgreeOn : (L : Language) → List Range → L.Db → L.Db → Type 0
AgreeOn L ranges a b = (key : List ℕ) → InAny ranges key → record_at (L.cells a) key ≡ record_at (L.cells b) key

-- the two databases agree on what a statement reads on the first
abbrev pub AgreeFor : (L : Language) → Stmt → L.Db → L.Db → Type 0
AgreeFor L statement a b = AgreeOn L (L.reads a statement) a b

-- it is not among the refusals that are told of a commit, or of any statement where memory runs out
abbrev pub IsOwn : Line → Type 0
IsOwn (Error (Busy conn ordinal key)) = ⊥
IsOwn (Error (Full full)) = ⊥
IsOwn (Error NoMemory) = ⊥
IsOwn last = ⊤

-- The laws of a language, which right runs rest on.
pub record IsLanguage (L : Language) : Type 0 where
  -- The database at the start is one, and has no cell.
  pub start_is : L.IsDb L.start
  pub start_empty : L.cells L.start ≡ []
  -- A statement leaves a database.
  pub kept : (db : L.Db) (statement : Stmt) → L.IsDb db → L.IsDb (L.run db statement).db
  -- The cells of a database ascend, so each key is there once.
  pub ascending : (db : L.Db) → L.IsDb db → AreAscending (L.cells db)
  -- Different databases have different cells.
  pub told : (a b : L.Db) → L.IsDb a → L.IsDb b → L.cells a ≡ L.cells b → a ≡ b
  -- A refusal is one of the statement itself, and changes nothing.
  pub own : (db : L.Db) (statement : Stmt) → L.IsDb db → IsOwn (L.run db statement).answer.last
  pub refused : (db : L.Db) (statement : Stmt) (refusal : Refusal) → L.IsDb db
      → (L.run db statement).answer.last ≡ Error refusal → (L.run db statement).db ≡ db
  -- Where two databases agree on what a statement reads, it answers the same on both,
  pub same_answer : (a b : L.Db) (statement : Stmt) → L.IsDb a → L.IsDb b → AgreeFor L statement a b
      → (L.run a statement).answer ≡ (L.run b statement).answer
  -- reads the same keys,
  pub same_reads : (a b : L.Db) (statement : Stmt) → L.IsDb a → L.IsDb b → AgreeFor L statement a b
      → (key : List ℕ) → InAny (L.reads a statement) key ↔ InAny (L.reads b statement) key
  -- and leaves the same there.
  pub same_changes : (a b : L.Db) (statement : Stmt) → L.IsDb a → L.IsDb b → AgreeFor L statement a b
      → AgreeOn L (L.reads a statement) (L.run a statement).db (L.run b statement).db
  -- It changes no key that it does not read.
  pub changes_read : (db : L.Db) (statement : Stmt) (key : List ℕ) → L.IsDb db
      → record_at (L.cells (L.run db statement).db) key ≢ record_at (L.cells db) key → InAny (L.reads db statement) key
