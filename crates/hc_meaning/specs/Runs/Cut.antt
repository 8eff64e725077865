-- A connection's commands with their replies, cut into transactions.
use Rattle.std.specs.Prelude.{◌≡◌, ℕ, ◌+◌, Bool, true, false, List, [], ◌∷◌, ◌++◌, Option, Some, None, option_map, is_some, length}
use Rattle.hc_transcript.specs.declared.refusal.Refusal.TheVariants.{NoTransaction}
use Rattle.hc_transcript.specs.declared.reply.Ending.{Ending}
use Rattle.hc_transcript.specs.declared.reply.Reply.{Reply}
use Rattle.hc_transcript.specs.declared.reply.Transcript.{Transcript}
use Rattle.hc_meaning.specs.declared.answer.Answer.{Answer}
use Rattle.hc_meaning.specs.declared.command.Command.{Command}
use Rattle.hc_meaning.specs.declared.command.Command.TheVariants as command
use Rattle.hc_meaning.specs.Runs.Running.{refused}
use Rattle.hc_meaning.specs.Runs.Walk.{Item, Close, move, LeavesOut, Outside, Belongs, Closes, Misses}

-- the commands of one connection
pub record Script : Type 0 where
  pub conn : ℕ
  pub commands : List Command

-- A transaction, named by its connection and its ordinal there, which counts from 1.
pub record Transaction : Type 0 where
  pub conn : ℕ
  pub ordinal : ℕ
  pub items : List Item
  pub close : Close
  pub ending : Ending

-- a command in no transaction, with its answer
pub record Stray : Type 0 where
  pub command : Command
  pub answer : Answer

pub record Cut : Type 0 where
  -- the transactions that are closed, in order
  pub closed : List Transaction
  -- the items of the open one, where the replies end within it
  pub unfinished : Option (List Item)
  pub strays : List Stray

abbrev pub with_closed : Transaction → Cut → Cut
with_closed t later = record later { closed = t ∷ later.closed }

abbrev pub with_stray : Stray → Cut → Cut
with_stray stray later = record later { strays = stray ∷ later.strays }

-- the items of a transaction that is open, or of one that opens
abbrev pub items_of : Option (List Item) → List Item
items_of None = []
items_of (Some items) = items

abbrev pub is_over : List Command → Bool
is_over [] = true
is_over (c ∷ commands) = false

-- where no command is left, no transaction may be open
abbrev pub cut_at_end : Option (List Item) → Option Cut
cut_at_end None = Some (record { closed = []; unfinished = None; strays = [] })
cut_at_end (Some items) = None

-- The walk. `ordinal` is the next transaction's, and `now` has the items of the open one. Replies may end before the
-- commands do. There is no cut where a reply is not of the form.
abbrev pub cut : ℕ → ℕ → Option (List Item) → List Command → List Reply → Option Cut
cut conn ordinal now [] [] = cut_at_end now
cut conn ordinal now [] (reply ∷ replies) = None
cut conn ordinal now (c ∷ commands) [] = Some (record { closed = []; unfinished = now; strays = [] })
cut conn ordinal now (c ∷ commands) (reply ∷ replies) = elim (move (is_some now) (is_over commands) c reply) [
  | LeavesOut ↦ cut conn ordinal now commands replies
  | Outside answer ↦ option_map (with_stray (record { command = c; answer = answer })) (cut conn ordinal now commands replies)
  | Belongs item ↦ cut conn ordinal (Some (items_of now ++ item ∷ [])) commands replies
  | Closes item close ending ↦ option_map
      (with_closed (record { conn = conn; ordinal = ordinal; items = items_of now ++ item ∷ []; close = close; ending = ending }))
      (cut conn (ordinal + 1) None commands replies)
  | Misses ↦ None
]

-- a command in no transaction is refused: for its own fault, or since there is no transaction
abbrev pub stray_answer : Command → Answer
stray_answer (command.Fault refusal) = refused refusal
stray_answer _ = refused NoTransaction

abbrev pub IsRefusedOutside : Stray → Type 0
IsRefusedOutside stray = stray.answer ≡ stray_answer stray.command

-- a connection with its transcript, and their cut
pub record Connection : Type 0 where
  pub script : Script
  pub transcript : Transcript
  pub cut : Cut

-- The transcript is the connection's, with a reply for each command, and is cut so.
pub record IsCutOf (c : Connection) : Type 0 where
  pub same : c.transcript.conn ≡ c.script.conn
  pub each : length c.transcript.replies ≡ length c.script.commands
  pub cut : cut c.script.conn 1 None c.script.commands c.transcript.replies ≡ Some c.cut
