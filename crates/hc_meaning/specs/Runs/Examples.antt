-- What the definitions say of small runs at any language.
use Rattle.std.specs.Prelude.{◌≡◌, ◌≢◌, ℕ, List, [], ◌∷◌, Some}
use Rattle.hc_ast.specs.declared.statement.Stmt.{Stmt}
use Rattle.hc_transcript.specs.declared.reply.Ending.{Ending}
use Rattle.hc_transcript.specs.declared.reply.Ending.TheVariants.{Commit, Snapshot, RolledBack}
use Rattle.hc_transcript.specs.declared.reply.Line.{Line}
use Rattle.hc_transcript.specs.declared.reply.Line.TheVariants.{Ok}
use Rattle.hc_transcript.specs.declared.reply.Transcript.{Transcript}
use Rattle.hc_meaning.specs.declared.command.Command.TheVariants as command
use Rattle.hc_meaning.specs.Runs.Cut.{Script}
use Rattle.hc_meaning.specs.Runs.Language.{Language}
use Rattle.hc_meaning.specs.Runs.RightRun.{IsRightRun}
use Rattle.hc_meaning.specs.Runs.Walk.{Answered, Item}
use Rattle.hc_meaning.specs.Runs.Writes.{writes}

-- the script of connection 0, with one statement
abbrev pub one_script : Stmt → List Script
one_script statement = record { conn = 0; commands = command.Run statement ∷ [] } ∷ []

-- its transcript, with this last line and ending and no rows
abbrev pub one_reply : Line → Ending → List Transcript
one_reply last ending = record { conn = 0; replies = record { rows = []; last = last; ending = Some ending } ∷ [] } ∷ []

-- the answer of the statement on the first database has this last line and no rows
abbrev pub AnswersFirst : (L : Language) → Stmt → Line → Type 0
AnswersFirst L statement last = (L.run L.start statement).answer ≡ record { rows = []; last = last }

-- the statement as a transaction
abbrev pub one_item : Stmt → Line → List Item
one_item statement last = Answered (command.Run statement) (record { rows = []; last = last }) ∷ []

-- Of one statement that is carried out, `commit 1` is right where it writes something, `snapshot 0` where it writes
-- nothing, and `rolled back` never.
pub record OneStatementEnds (L : Language) (statement : Stmt) (count : ℕ) : Type 0 where
  pub commits : writes L L.start (one_item statement (Ok count)) ≢ [] → IsRightRun L (one_script statement) (one_reply (Ok count) (Commit 1))
  pub reads : writes L L.start (one_item statement (Ok count)) ≡ [] → IsRightRun L (one_script statement) (one_reply (Ok count) (Snapshot 0))
  pub not_undone : (s : ℕ) → IsRightRun L (one_script statement) (one_reply (Ok count) (RolledBack s)) → ⊥

abbrev pub OneStatementIsJudged : Language → Type 0
OneStatementIsJudged L = (statement : Stmt) (count : ℕ) → AnswersFirst L statement (Ok count) → OneStatementEnds L statement count
