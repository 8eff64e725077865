-- How a transaction of a played run is closed: committed, refused, with nothing to commit, or rolled back.
use Rattle.std.specs.Prelude.{ℕ, ◌+◌, List, [], ◌∷◌, Option, Some, None, length}
use Rattle.hc_range.specs.declared.range.Range.{Range}
use Rattle.hc_base.specs.Lookup.{but}
use Rattle.hc_core.specs.declared.cells.Write.{Write}
use Rattle.hc_transcript.specs.declared.refusal.Refusal.TheVariants.{Busy}
use Rattle.hc_transcript.specs.declared.reply.Line.{Line}
use Rattle.hc_transcript.specs.declared.reply.Line.TheVariants.{Ok, Error}
use Rattle.hc_transcript.specs.declared.reply.Ending.{Ending}
use Rattle.hc_transcript.specs.declared.reply.Ending.TheVariants.{Commit, Snapshot, RolledBack}
use Rattle.hc_transcript.specs.declared.reply.Reply.{Reply}
use Rattle.hc_meaning.specs.declared.answer.Answer.{Answer}
use Rattle.hc_meaning.specs.Runs.Language.{Language}
use Rattle.hc_meaning.specs.Runs.Running.{refused}
use Rattle.hc_meaning.specs.Runs.Stage.{Committed, Opened, Stage, newest_db, commits_above, db_at, conflict_key, writer_of}
use Rattle.hc_meaning.specs.Runs.Walk.{Item}
use Rattle.hc_meaning.specs.Runs.Writes.{left_by, reads, writes}

-- what a turn prints, and where the run is after it
pub record Played (L : Language) : Type 0 where
  pub reply : Reply
  pub stage : Stage L

abbrev pub answered : Answer → Option Ending → Reply
answered answer ending = record { rows = answer.rows; last = answer.last; ending = ending }

abbrev pub with_standing : {L : Language} → Stage L → ℕ → ℕ → Option Opened → Stage L
with_standing stage conn count opened = record stage { standing = but stage.standing conn (record { count = count; opened = opened }) }

-- the transaction is closed with this reply
abbrev pub closed : {L : Language} → Stage L → ℕ → ℕ → Answer → Ending → Played L
closed stage conn count answer ending =
    record { reply = answered answer (Some ending); stage = with_standing stage conn count None }

-- it is committed, with the next commit number. The database after it is the newest one with its statements run on it
abbrev pub committed : (L : Language) → Stage L → ℕ → ℕ → List Item → List Write → Answer → Played L
committed L stage conn count items ws answer = closed
    (record stage { commits = record { conn = conn; ordinal = count; writes = ws; db = left_by L (newest_db L stage.commits) items } ∷ stage.commits })
    conn count answer (Commit (length stage.commits + 1))

-- the commit is refused over a key, which names the newest commit that wrote it
abbrev pub named : {L : Language} → Stage L → ℕ → ℕ → ℕ → List ℕ → Option (Committed L) → Answer → Played L
named stage conn count snapshot key None answer = closed stage conn count answer (RolledBack snapshot)
named stage conn count snapshot key (Some c) answer = closed stage conn count (refused (Busy c.conn c.ordinal key)) (RolledBack snapshot)

abbrev pub decided : (L : Language) → Stage L → ℕ → ℕ → ℕ → List Item → List Write → Answer → Option (List ℕ) → Played L
decided L stage conn count snapshot items ws answer None = committed L stage conn count items ws answer
decided L stage conn count snapshot items ws answer (Some key) =
    named stage conn count snapshot key (writer_of key (commits_above snapshot stage.commits)) answer

-- a commit with no writes has nothing to decide
abbrev pub asked : (L : Language) → Stage L → ℕ → ℕ → ℕ → List Item → List Write → List Range → Answer → Played L
asked L stage conn count snapshot items [] ranges answer = closed stage conn count answer (Snapshot snapshot)
asked L stage conn count snapshot items (w ∷ ws) ranges answer = decided L stage conn count snapshot items (w ∷ ws) answer
    (conflict_key (w ∷ ws) ranges (commits_above snapshot stage.commits))

abbrev pub commit : (L : Language) → Stage L → ℕ → ℕ → ℕ → List Item → Answer → Played L
commit L stage conn count snapshot items answer = asked L stage conn count snapshot items
    (writes L (db_at L snapshot stage.commits) items) (reads L (db_at L snapshot stage.commits) items) answer

-- a statement of its own commits where it is carried out
abbrev pub commit_if_ok : (L : Language) → Stage L → ℕ → ℕ → ℕ → List Item → Answer → Line → Played L
commit_if_ok L stage conn count snapshot items answer (Ok n) = commit L stage conn count snapshot items answer
commit_if_ok L stage conn count snapshot items answer (Error refusal) = closed stage conn count answer (RolledBack snapshot)
