-- The run in which the statements of one connection run one after another, each as a transaction of its own.
use Rattle.std.specs.Prelude.{ℕ, ◌+◌, List, [], ◌∷◌, Some}
use Rattle.hc_transcript.specs.declared.reply.Line.{Line}
use Rattle.hc_transcript.specs.declared.reply.Line.TheVariants.{Ok, Error}
use Rattle.hc_transcript.specs.declared.reply.Ending.{Ending}
use Rattle.hc_transcript.specs.declared.reply.Ending.TheVariants.{Commit, Snapshot, RolledBack}
use Rattle.hc_transcript.specs.declared.reply.Reply.{Reply}
use Rattle.hc_transcript.specs.declared.reply.Transcript.{Transcript}
use Rattle.hc_meaning.specs.declared.statement.Statement.{Statement}
use Rattle.hc_meaning.specs.declared.statement.Statement.TheVariants.{Insert, Select}
use Rattle.hc_meaning.specs.Database.{Db, empty_db}
use Rattle.hc_meaning.specs.Run.{run}

-- how a statement ends after so many commits, by its last line
abbrev pub ending_after : ℕ → Statement → Line → Ending
ending_after commits (Insert id v) (Ok count) = Commit (commits + 1)
ending_after commits (Select id) (Ok count) = Snapshot commits
ending_after commits (Insert id v) (Error refusal) = RolledBack commits
ending_after commits (Select id) (Error refusal) = RolledBack commits

-- the reply to a statement that runs on a db after so many commits
abbrev pub reply_to : ℕ → Db → Statement → Reply
reply_to commits db statement = record {
  rows = (run db statement).answer.rows;
  last = (run db statement).answer.last;
  ending = Some (ending_after commits statement (run db statement).answer.last);
}

-- how many commits there are after an ending
abbrev pub commits_at : ℕ → Ending → ℕ
commits_at commits (Commit k) = k
commits_at commits (Snapshot s) = commits
commits_at commits (RolledBack s) = commits

abbrev pub commits_after : ℕ → Db → Statement → ℕ
commits_after commits db statement = commits_at commits (ending_after commits statement (run db statement).answer.last)

-- the replies to the statements, from a db after so many commits
abbrev pub played : ℕ → Db → List Statement → List Reply
played commits db [] = []
played commits db (statement ∷ statements) =
    reply_to commits db statement ∷ played (commits_after commits db statement) (run db statement).db statements

-- a connection's transcript, unless it has no statement
abbrev pub transcripts_of : ℕ → List Reply → List Transcript
transcripts_of conn [] = []
transcripts_of conn (reply ∷ replies) = record { conn = conn; replies = reply ∷ replies } ∷ []

-- the whole run of the setup script, from the empty db
abbrev pub played_alone : List Statement → List Transcript
played_alone statements = transcripts_of 0 (played 0 empty_db statements)
