-- When the replies to a connection's commands so far fit its account.
use Rattle.std.specs.Prelude.{◌≡◌, ◌≢◌, ℕ, ◌+◌, List, [], ◌∷◌, ◌++◌, Option, Some, None, length, reverse, filter, ⊤}
use Rattle.std.specs.List.{AllByRecursion, AllZip}
use Rattle.hc_core.specs.Account.{Txn}
use Rattle.hc_base.specs.Lookup.{Among}
use Rattle.hc_transcript.specs.declared.reply.Reply.{Reply}
use Rattle.hc_transcript.specs.declared.reply.Transcript.{Transcript}
use Rattle.hc_meaning.specs.declared.command.Command.{Command}
use Rattle.hc_meaning.specs.declared.command.Command.TheVariants as command
use Rattle.hc_meaning.specs.Runs.Cut.{Cut, Script, IsRefusedOutside, cut}
use Rattle.hc_meaning.specs.Runs.Fitting.{FitsOne, FitsOpen}
use Rattle.hc_meaning.specs.Runs.Language.{Language}
use Rattle.hc_meaning.specs.Runs.RightRun.{has_command}
use Rattle.hc_meaning.specs.Runs.Walk.{Item, Answered, CommitRefused, OutOfMemory}

-- an item ran no statement that touches the database
abbrev pub TouchesNothing : Item → Type 0
TouchesNothing (Answered (command.Run statement) answer) = ⊥
TouchesNothing (Answered c answer) = ⊤
TouchesNothing (CommitRefused c) = ⊥
TouchesNothing (OutOfMemory c) = ⊤

-- what the account has besides the closed transactions: the open one, which may be missing while it touched nothing
abbrev pub FitsRest : (L : Language) → Option (List Item) → List Txn → Type 0
FitsRest L None rest = rest ≡ []
FitsRest L (Some items) [] = AllByRecursion TouchesNothing items
FitsRest L (Some items) (x ∷ rest) = FitsOpen L items x × (rest ≡ [])

-- The replies are those to the first of the commands of connection `conn`, whose account had so many transactions before.
-- `txns` are the account's transactions, the newest first.
pub record Fits (L : Language) (conn before : ℕ) (commands : List Command) (replies : List Reply) (txns : List Txn) : Type 0 where
  -- The replies are cut, and each statement in no transaction is refused.
  pub walked : Cut
  pub is_cut : cut conn (before + 1) None commands replies ≡ Some walked
  pub strays : AllByRecursion IsRefusedOutside walked.strays
  -- The account has the older transactions, one for each that is closed, in the same order, and the rest.
  pub older : List Txn
  pub older_length : length older ≡ before
  pub closed : List Txn
  pub rest : List Txn
  pub account : txns ≡ rest ++ reverse closed ++ older
  -- Each closed one fits its own, and the open one the rest.
  pub each : AllZip (FitsOne L) walked.closed closed
  pub open_fits : FitsRest L walked.unfinished rest

-- A script's transcript is whole, and fits the account of its connection, which had none before.
pub record ScriptFits (L : Language) (of : ℕ → List Txn) (script : Script) (transcript : Transcript) : Type 0 where
  pub same : transcript.conn ≡ script.conn
  pub each : length transcript.replies ≡ length script.commands
  pub fits : Fits L script.conn 0 script.commands transcript.replies (of script.conn)

-- Each connection with a statement has its transcript, which fits, and no other connection has a transaction.
pub record AllFit (L : Language) (of : ℕ → List Txn) (scripts : List Script) (transcripts : List Transcript) : Type 0 where
  pub each : AllZip (ScriptFits L of) (filter has_command scripts) transcripts
  pub no_other : (i : ℕ) → ((script : Script) → Among script (filter has_command scripts) → script.conn ≢ i) → of i ≡ []
