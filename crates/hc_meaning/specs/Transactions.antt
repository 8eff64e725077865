-- A connection's statements with their replies, cut into transactions.
use Rattle.std.specs.Prelude.{ℕ, ◌+◌, Bool, true, false, List, [], ◌∷◌, ◌++◌, ◌==◌, if◌then◌else◌, Option, None, Some, option_map, option_and_then, filter}
use Rattle.hc_transcript.specs.declared.reply.Line.{Line}
use Rattle.hc_transcript.specs.declared.reply.Line.TheVariants.{Ok, Error}
use Rattle.hc_transcript.specs.declared.reply.Ending.{Ending}
use Rattle.hc_transcript.specs.declared.reply.Ending.TheVariants.{Commit, Snapshot, RolledBack}
use Rattle.hc_transcript.specs.declared.reply.Reply.{Reply}
use Rattle.hc_transcript.specs.declared.reply.Transcript.{Transcript}
use Rattle.hc_meaning.specs.declared.statement.Statement.{Statement}
use Rattle.hc_meaning.specs.declared.transaction.Script.{Script}
use Rattle.hc_meaning.specs.declared.transaction.Transaction.{Transaction}
use Rattle.hc_meaning.specs.Run.{answer_of}

-- Which endings may follow a statement that is a transaction of its own: committed or with nothing to
-- commit where it was carried out, rolled back where it was refused.
abbrev pub may_end : Line → Ending → Bool
may_end (Ok count) (Commit k) = true
may_end (Ok count) (Snapshot s) = true
may_end (Ok count) (RolledBack s) = false
may_end (Error refusal) (Commit k) = false
may_end (Error refusal) (Snapshot s) = false
may_end (Error refusal) (RolledBack s) = true

-- a statement that is a transaction of its own
abbrev pub own : ℕ → ℕ → Statement → Reply → Ending → Transaction
own conn ordinal statement reply ending = record {
  conn = conn;
  ordinal = ordinal;
  statements = statement ∷ [];
  answers = answer_of reply ∷ [];
  ending = ending;
}

-- The same, if its reply has an ending that it may have.
abbrev pub own_if_ended : ℕ → ℕ → Statement → Reply → Option Ending → Option Transaction
own_if_ended conn ordinal statement reply None = None
own_if_ended conn ordinal statement reply (Some ending) =
    if may_end reply.last ending then Some (own conn ordinal statement reply ending) else None

-- The walk over a connection's statements, each with its reply, between two transactions. `ordinal` is
-- the next one's. There is no cut where a statement lacks its reply or a reply its statement, or where an
-- ending is missing, too many or of another form.
abbrev pub cut : ℕ → ℕ → List Statement → List Reply → Option (List Transaction)
cut conn ordinal [] [] = Some []
cut conn ordinal [] (reply ∷ replies) = None
cut conn ordinal (statement ∷ statements) [] = None
cut conn ordinal (statement ∷ statements) (reply ∷ replies) =
    option_and_then (λ transaction. option_map (λ later. transaction ∷ later) (cut conn (ordinal + 1) statements replies))
    (own_if_ended conn ordinal statement reply reply.ending)

-- a connection's transcript, if it is one of this script
abbrev pub cut_one : Script → Transcript → Option (List Transaction)
cut_one script transcript = if script.conn == transcript.conn
    then cut script.conn 1 script.statements transcript.replies
    else None

-- the transactions of the first connection, and then the others'
abbrev pub joined : Option (List Transaction) → Option (List Transaction) → Option (List Transaction)
joined first others = option_and_then (λ transactions. option_map (λ later. transactions ++ later) others) first

-- each script with its transcript, in the same order
abbrev pub cut_each : List Script → List Transcript → Option (List Transaction)
cut_each [] [] = Some []
cut_each [] (transcript ∷ transcripts) = None
cut_each (script ∷ scripts) [] = None
cut_each (script ∷ scripts) (transcript ∷ transcripts) = joined (cut_one script transcript) (cut_each scripts transcripts)

abbrev pub is_filled : List Statement → Bool
is_filled [] = false
is_filled (statement ∷ statements) = true

abbrev pub has_statement : Script → Bool
has_statement script = is_filled script.statements

-- All connections' transactions, by connection. Each connection with a statement has one transcript, in the
-- order of the connections, and no other has one.
abbrev pub cut_all : List Script → List Transcript → Option (List Transaction)
cut_all scripts transcripts = cut_each (filter has_statement scripts) transcripts
