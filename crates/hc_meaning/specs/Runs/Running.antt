-- A transaction as it runs: what each of its commands answers, and the database and the savepoints after it. SAVEPOINT,
-- RELEASE and ROLLBACK TO are those of SQLite's language pages (lang_savepoint.html), within a transaction.
use Rattle.std.specs.Prelude.{ℕ, Bool, true, false, List, [], ◌∷◌, ◌||◌, if◌then◌else◌}
use Rattle.std.specs.Str.{str_eq_ignore_ascii_case}
use Rattle.hc_range.specs.declared.range.Range.{Range}
use Rattle.hc_transcript.specs.declared.refusal.Refusal.{Refusal}
use Rattle.hc_transcript.specs.declared.refusal.Refusal.TheVariants.{NoSavepoint, Within}
use Rattle.hc_transcript.specs.declared.reply.Line.TheVariants.{Ok, Error}
use Rattle.hc_meaning.specs.declared.answer.Answer.{Answer}
use Rattle.hc_meaning.specs.declared.command.Command.{Command}
use Rattle.hc_meaning.specs.declared.command.Command.TheVariants as command
use Rattle.hc_meaning.specs.Runs.Language.{Language}

-- a savepoint: its name, and the database as it was made
pub record Mark (L : Language) : Type 0 where
  pub name : List ℕ
  pub db : L.Db

pub record Running (L : Language) : Type 0 where
  -- whether none of its commands has run yet: BEGIN is in its place there alone
  pub fresh : Bool
  pub db : L.Db
  -- the newest first
  pub marks : List (Mark L)

-- a transaction that begins on a database
abbrev pub begun_on : (L : Language) → L.Db → Running L
begun_on L db = record { fresh = true; db = db; marks = [] }

-- `ok 0`
abbrev pub done : Answer
done = record { rows = []; last = Ok 0 }

abbrev pub refused : Refusal → Answer
refused refusal = record { rows = []; last = Error refusal }

-- a savepoint has this name, where the case of ASCII letters makes no difference
abbrev pub is_named : {L : Language} → List ℕ → Mark L → Bool
is_named name mark = str_eq_ignore_ascii_case name mark.name

abbrev pub is_marked : {L : Language} → List ℕ → List (Mark L) → Bool
is_marked name [] = false
is_marked name (mark ∷ marks) = is_named name mark || is_marked name marks

-- the savepoints outside of the newest with this name, and that one with them
abbrev pub marks_outside : {L : Language} → List ℕ → List (Mark L) → List (Mark L)
marks_outside name [] = []
marks_outside name (mark ∷ marks) = if is_named name mark then marks else marks_outside name marks

abbrev pub marks_upto : {L : Language} → List ℕ → List (Mark L) → List (Mark L)
marks_upto name [] = []
marks_upto name (mark ∷ marks) = if is_named name mark then mark ∷ marks else marks_upto name marks

-- the database of the newest savepoint, where there is one
abbrev pub db_of_newest : {L : Language} → L.Db → List (Mark L) → L.Db
db_of_newest db [] = db
db_of_newest db (mark ∷ marks) = mark.db

-- what a command answers
abbrev pub answer_to : (L : Language) → Running L → Command → Answer
answer_to L now (command.Run statement) = (L.run now.db statement).answer
answer_to L now command.Begin = if now.fresh then done else refused Within
answer_to L now command.Commit = done
answer_to L now command.Rollback = done
answer_to L now (command.Savepoint name) = done
answer_to L now (command.Release name) = if is_marked name now.marks then done else refused (NoSavepoint name)
answer_to L now (command.RollbackTo name) = if is_marked name now.marks then done else refused (NoSavepoint name)
answer_to L now (command.Fault refusal) = refused refusal

-- the database after it. `first` is the one on which the transaction began
abbrev pub db_after : (L : Language) → L.Db → Running L → Command → L.Db
db_after L first now (command.Run statement) = (L.run now.db statement).db
db_after L first now command.Begin = now.db
db_after L first now command.Commit = now.db
db_after L first now command.Rollback = first
db_after L first now (command.Savepoint name) = now.db
db_after L first now (command.Release name) = now.db
db_after L first now (command.RollbackTo name) = db_of_newest now.db (marks_upto name now.marks)
db_after L first now (command.Fault refusal) = now.db

-- the savepoints after it: RELEASE takes the newest of the name and all inside it away, ROLLBACK TO keeps that one
abbrev pub marks_after : (L : Language) → Running L → Command → List (Mark L)
marks_after L now (command.Run statement) = now.marks
marks_after L now command.Begin = now.marks
marks_after L now command.Commit = now.marks
marks_after L now command.Rollback = []
marks_after L now (command.Savepoint name) = record { name = name; db = now.db } ∷ now.marks
marks_after L now (command.Release name) = if is_marked name now.marks then marks_outside name now.marks else now.marks
marks_after L now (command.RollbackTo name) = if is_marked name now.marks then marks_upto name now.marks else now.marks
marks_after L now (command.Fault refusal) = now.marks

abbrev pub after_command : (L : Language) → L.Db → Running L → Command → Running L
after_command L first now command = record { fresh = false; db = db_after L first now command; marks = marks_after L now command }

-- what it reads
abbrev pub reads_of : (L : Language) → Running L → Command → List Range
reads_of L now (command.Run statement) = L.reads now.db statement
reads_of L now _ = []
