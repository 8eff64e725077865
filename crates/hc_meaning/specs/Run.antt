-- What statements answer, and what they do to a db, when they run one after another. INSERT and SELECT
-- are those of SQLite's language pages (lang_insert.html, lang_select.html), cut down to two forms.
use Rattle.std.specs.Prelude.{◌≡◌, ◌≢◌, ℤ, List, [], ◌∷◌, length, map, if◌then◌else◌, is_some, codes}
use Rattle.hc_value.specs.declared.value.Value.TheVariants.{Int}
use Rattle.hc_transcript.specs.declared.reply.Line.TheVariants.{Ok, Error}
use Rattle.hc_transcript.specs.declared.refusal.Refusal.TheVariants.{Primary}
use Rattle.hc_transcript.specs.declared.reply.Reply.{Reply}
use Rattle.hc_meaning.specs.declared.answer.Answer.{Answer}
use Rattle.hc_meaning.specs.declared.answer.Outcome.{Outcome}
use Rattle.hc_meaning.specs.declared.answer.Ran.{Ran}
use Rattle.hc_meaning.specs.declared.statement.Statement.{Statement}
use Rattle.hc_meaning.specs.declared.statement.Statement.TheVariants.{Insert, Select}
use Rattle.hc_meaning.specs.Database.{Db, value_at, rows_at, with_row}

-- a reply without its ending
abbrev pub answer_of : Reply → Answer
answer_of reply = record { rows = reply.rows; last = reply.last }

-- A row with this id is there: 1555, SQLITE_CONSTRAINT_PRIMARYKEY of SQLite's result codes (rescode.html),
-- with the table and its key column. Nothing changes.
abbrev pub duplicate : Answer
duplicate = record { rows = []; last = Error (Primary (codes "t") (codes "id")) }

-- the column v of these rows, and how many they are
abbrev pub selected : Db → Answer
selected rows = record { rows = map (λ row. record { values = Int row.1 ∷ [] }) rows; last = Ok (length rows) }

-- one statement: INSERT changes one row, unless the id is taken
abbrev pub run : Db → Statement → Outcome
run db (Insert id v) = if is_some (value_at db id)
    then record { answer = duplicate; db = db }
    else record { answer = record { rows = []; last = Ok 1 }; db = with_row db id v }
run db (Select id) = record { answer = selected (rows_at db id); db = db }

-- an answer, and then what later statements answer and leave
abbrev pub with_first_answer : Answer → Ran → Ran
with_first_answer answer later = record { answers = answer ∷ later.answers; db = later.db }

-- each statement runs on the db that the one before it left
abbrev pub run_all : Db → List Statement → Ran
run_all db [] = record { answers = []; db = db }
run_all db (statement ∷ statements) = with_first_answer (run db statement).answer (run_all (run db statement).db statements)

-- the ids at which the statements change the db
abbrev pub Writes : Db → List Statement → ℤ → Type 0
Writes db statements id = value_at (run_all db statements).db id ≢ value_at db id

-- some id is among them
abbrev pub WritesSome : Db → List Statement → Type 0
WritesSome db statements = (id : ℤ) × Writes db statements id

-- no id is
abbrev pub WritesNone : Db → List Statement → Type 0
WritesNone db statements = (id : ℤ) → value_at (run_all db statements).db id ≡ value_at db id
