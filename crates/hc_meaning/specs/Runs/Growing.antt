-- How a transcript that fits grows by a reply, which is how a session keeps that it fits.
use Rattle.std.specs.Prelude.{◌≡◌, ℕ, ◌+◌, List, [], ◌∷◌, ◌++◌, Some, is_some, length, reverse}
use Rattle.hc_core.specs.Account.{Txn}
use Rattle.hc_transcript.specs.declared.reply.Ending.{Ending}
use Rattle.hc_transcript.specs.declared.reply.Reply.{Reply}
use Rattle.hc_meaning.specs.declared.answer.Answer.{Answer}
use Rattle.hc_meaning.specs.declared.command.Command.{Command}
use Rattle.hc_meaning.specs.Runs.Cut.{Cut, Transaction, is_over, items_of, stray_answer}
use Rattle.hc_meaning.specs.Runs.Fits.{Fits, FitsRest}
use Rattle.hc_meaning.specs.Runs.Fitting.{FitsOne}
use Rattle.hc_meaning.specs.Runs.Language.{Language}
use Rattle.hc_meaning.specs.Runs.Walk.{Belongs, Close, Closes, Item, LeavesOut, Move, Outside, move}

-- the transaction that is closed next, where `n` is the ordinal of the first
abbrev pub next_closed : ℕ → ℕ → Cut → Item → Close → Ending → Transaction
next_closed conn n c item close ending = record {
  conn = conn;
  ordinal = n + length c.closed;
  items = items_of c.unfinished ++ item ∷ [];
  close = close;
  ending = ending;
}

-- Before its first reply a connection fits its account, which has the older transactions alone.
abbrev pub FitsAtStart : Language → Type 0
FitsAtStart L = (conn : ℕ) (commands : List Command) (older : List Txn) → Fits L conn (length older) commands [] older

-- What a next reply says, after a cut.
abbrev pub next_move : Cut → Command → List Command → Reply → Move
next_move c k later r = move (is_some c.unfinished) (is_over later) k r

-- With a next reply to command k a connection fits its account as follows.
pub record NextReplyFits (L : Language) (conn before : ℕ) (earlier : List Command) (k : Command) (later : List Command)
    (replies : List Reply) (r : Reply) (txns : List Txn) (fits : Fits L conn before (earlier ++ k ∷ later) replies txns) : Type 0 where
  -- It is left out, or refused outside of any transaction: the account is as before.
  pub left_out : next_move fits.walked k later r ≡ LeavesOut → Fits L conn before (earlier ++ k ∷ later) (replies ++ r ∷ []) txns
  pub outside : (answer : Answer) → next_move fits.walked k later r ≡ Outside answer → answer ≡ stray_answer k
      → Fits L conn before (earlier ++ k ∷ later) (replies ++ r ∷ []) txns
  -- It belongs to the open transaction, or opens one: the account has what fits its items.
  pub belongs : (item : Item) (rest : List Txn) → next_move fits.walked k later r ≡ Belongs item
      → FitsRest L (Some (items_of fits.walked.unfinished ++ item ∷ [])) rest
      → Fits L conn before (earlier ++ k ∷ later) (replies ++ r ∷ []) (rest ++ reverse fits.closed ++ fits.older)
  -- It closes a transaction: the account has one that fits it.
  pub closes : (item : Item) (close : Close) (ending : Ending) (x : Txn) → next_move fits.walked k later r ≡ Closes item close ending
      → FitsOne L (next_closed conn (before + 1) fits.walked item close ending) x
      → Fits L conn before (earlier ++ k ∷ later) (replies ++ r ∷ []) (x ∷ (reverse fits.closed ++ fits.older))

abbrev pub FitsGrows : Language → Type 0
FitsGrows L = (conn before : ℕ) (earlier : List Command) (k : Command) (later : List Command) (replies : List Reply) (r : Reply) (txns : List Txn)
    (fits : Fits L conn before (earlier ++ k ∷ later) replies txns) → length replies ≡ length earlier
    → NextReplyFits L conn before earlier k later replies r txns fits
