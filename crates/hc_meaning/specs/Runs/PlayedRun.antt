-- The run in which statements run whole, one after another, as a fold over turns. Nothing is used up in it, and memory is
-- there, so no reply is 7 and no commit is answered 13.
use Rattle.std.specs.Prelude.{ℕ, ◌+◌, Bool, true, false, List, [], ◌∷◌, ◌++◌, Option, Some, None, fold, length, filter, map, ◌==◌, unwrap_or}
use Rattle.hc_transcript.specs.declared.reply.Ending.TheVariants.{RolledBack}
use Rattle.hc_transcript.specs.declared.reply.Reply.{Reply}
use Rattle.hc_transcript.specs.declared.reply.Transcript.{Transcript}
use Rattle.hc_meaning.specs.declared.answer.Answer.{Answer}
use Rattle.hc_meaning.specs.declared.command.Command.{Command}
use Rattle.hc_meaning.specs.declared.command.Command.TheVariants as command
use Rattle.hc_meaning.specs.Runs.Closing.{Played, answered, closed, commit, commit_if_ok, with_standing}
use Rattle.hc_meaning.specs.Runs.Cut.{Script, stray_answer}
use Rattle.hc_meaning.specs.Runs.Language.{Language}
use Rattle.hc_meaning.specs.Runs.RightRun.{has_command}
use Rattle.hc_meaning.specs.Runs.Running.{answer_to, begun_on}
use Rattle.hc_meaning.specs.Runs.Stage.{Opened, Stage, first_stage, db_at}
use Rattle.hc_meaning.specs.Runs.Turns.{Turn, all_turns}
use Rattle.hc_meaning.specs.Runs.Walk.{Item, Answered}
use Rattle.hc_meaning.specs.Runs.Writes.{after_item}

-- the snapshot of a transaction after a command: a statement that touches the database takes the number of commits so far
-- where there is none
abbrev pub snapshot_with : ℕ → Command → Option ℕ → Option ℕ
snapshot_with now c (Some snapshot) = Some snapshot
snapshot_with now (command.Run statement) None = Some now
snapshot_with now c None = None

-- what a command answers after the items of its transaction, whose snapshot has this number
abbrev pub answer_at : (L : Language) → Stage L → ℕ → List Item → Command → Answer
answer_at L stage snapshot items c = answer_to L
    (fold (after_item L (db_at L snapshot stage.commits)) (begun_on L (db_at L snapshot stage.commits)) items) c

-- the transaction goes on, unless this is the script's last command, with which it is rolled back
abbrev pub goes_on : {L : Language} → Stage L → ℕ → ℕ → ℕ → Opened → Answer → Bool → Played L
goes_on stage conn count snapshot now answer false =
    record { reply = answered answer None; stage = with_standing stage conn count (Some now) }
goes_on stage conn count snapshot now answer true = closed stage conn count answer (RolledBack snapshot)

-- a command within a transaction, with its answer
abbrev pub inside : (L : Language) → Stage L → ℕ → ℕ → ℕ → Opened → Answer → Bool → Command → Played L
inside L stage conn count snapshot now answer last command.Commit = commit L stage conn count snapshot now.items answer
inside L stage conn count snapshot now answer last command.Rollback = closed stage conn count answer (RolledBack snapshot)
inside L stage conn count snapshot now answer last c = goes_on stage conn count snapshot now answer last

-- the same, where the answer is still to be found
abbrev pub inside_at : (L : Language) → Stage L → ℕ → ℕ → ℕ → Option ℕ → List Item → Bool → Command → Played L
inside_at L stage conn count snapshot taken items last c = inside L stage conn count snapshot
    (record { items = items ++ Answered c (answer_at L stage snapshot items c) ∷ []; snapshot = taken })
    (answer_at L stage snapshot items c) last c

abbrev pub inside_with : (L : Language) → Stage L → ℕ → ℕ → Opened → Bool → Command → Played L
inside_with L stage conn count now last c = inside_at L stage conn count
    (unwrap_or (snapshot_with (length stage.commits) c now.snapshot) (length stage.commits))
    (snapshot_with (length stage.commits) c now.snapshot) now.items last c

-- a statement that is a transaction of its own
abbrev pub own : (L : Language) → Stage L → ℕ → ℕ → Command → Answer → Played L
own L stage conn count c answer =
    commit_if_ok L stage conn count (length stage.commits) (Answered c answer ∷ []) answer answer.last

-- a command where no transaction is open. BEGIN opens one, and is its first
abbrev pub outside : (L : Language) → Stage L → ℕ → ℕ → Bool → Command → Played L
outside L stage conn count last (command.Run statement) = own L stage conn (count + 1) (command.Run statement)
    (answer_at L stage (length stage.commits) [] (command.Run statement))
outside L stage conn count last command.Begin =
    inside_with L stage conn (count + 1) (record { items = []; snapshot = None }) last command.Begin
outside L stage conn count last c = record { reply = answered (stray_answer c) None; stage = stage }

abbrev pub place_turn : (L : Language) → Stage L → ℕ → Option Opened → Turn → Played L
place_turn L stage count None turn = outside L stage turn.conn count turn.last turn.command
place_turn L stage count (Some now) turn = inside_with L stage turn.conn count now turn.last turn.command

abbrev pub play_turn : (L : Language) → Stage L → Turn → Played L
play_turn L stage turn = place_turn L stage (stage.standing turn.conn).count (stage.standing turn.conn).opened turn

pub record Said : Type 0 where
  pub conn : ℕ
  pub reply : Reply

abbrev pub play : (L : Language) → Stage L → List Turn → List Said
play L stage [] = []
play L stage (turn ∷ turns) = record { conn = turn.conn; reply = (play_turn L stage turn).reply } ∷ play L (play_turn L stage turn).stage turns

-- the replies of a connection
abbrev pub replies_of : ℕ → List Said → List Reply
replies_of conn said = map (λ s. s.reply) (filter (λ s. s.conn == conn) said)

-- the whole run of scripts, the first of which is the setup, in the order that the numbers name
abbrev pub played : (L : Language) → List Script → List ℕ → List Transcript
played L scripts order = map
    (λ script. record { conn = script.conn; replies = replies_of script.conn (play L (first_stage L) (all_turns scripts order)) })
    (filter has_command scripts)
