-- The walk over a whole transcript, as what it has to find: the transactions that it closes, and that each command in
-- none is refused as it has to be.
use Rattle.std.specs.Prelude.{◌≡◌, ℕ, ◌+◌, Bool, true, false, List, [], ◌∷◌, ◌++◌, Option, Some, None, is_some, length}
use Rattle.hc_transcript.specs.declared.reply.Reply.{Reply}
use Rattle.hc_transcript.specs.declared.reply.Transcript.{Transcript}
use Rattle.hc_meaning.specs.declared.command.Command.{Command}
use Rattle.hc_meaning.specs.Runs.Cut.{Script, Transaction, is_over, items_of, stray_answer}
use Rattle.hc_meaning.specs.Runs.Walk.{Item, Move, LeavesOut, Outside, Belongs, Closes, Misses, move}

-- What a reply says of its command, where `conn` is the connection, `ordinal` the next transaction's, and `now` has the items
-- of the open one. `Rest` is what the others have to be cut into from there on.
abbrev pub Said : Move → ℕ → ℕ → Option (List Item) → Command → (ℕ → Option (List Item) → List Transaction → Type 0) → List Transaction → Type 0
Said LeavesOut conn ordinal now c Rest ts = Rest ordinal now ts
Said (Outside answer) conn ordinal now c Rest ts = (answer ≡ stray_answer c) × Rest ordinal now ts
Said (Belongs item) conn ordinal now c Rest ts = Rest ordinal (Some (items_of now ++ item ∷ [])) ts
Said (Closes item close ending) conn ordinal now c Rest ts =
    (rest : List Transaction) × (ts ≡ record { conn = conn; ordinal = ordinal; items = items_of now ++ item ∷ []; close = close; ending = ending } ∷ rest)
    × Rest (ordinal + 1) None rest
Said Misses conn ordinal now c Rest ts = ⊥

-- From here on the commands with their replies are cut into these transactions.
abbrev pub WalksTo : ℕ → ℕ → Option (List Item) → List Command → List Reply → List Transaction → Type 0
WalksTo conn ordinal now [] [] ts = (now ≡ None) × (ts ≡ [])
WalksTo conn ordinal now [] (reply ∷ replies) ts = ⊥
WalksTo conn ordinal now (c ∷ commands) [] ts = ⊥
WalksTo conn ordinal now (c ∷ commands) (reply ∷ replies) ts = Said (move (is_some now) (is_over commands) c reply) conn ordinal now c
    (λ next opened rest. WalksTo conn next opened commands replies rest) ts

-- where a walk is: the connection, the transactions that are closed, and the items of the open one
pub record Place : Type 0 where
  pub conn : ℕ
  pub closed : List Transaction
  pub opened : Option (List Item)

-- from this place on
abbrev pub WalksFrom : Place → List Command → List Reply → List Transaction → Type 0
WalksFrom place commands replies ts = WalksTo place.conn (length place.closed + 1) place.opened commands replies ts

-- from this place on, where this is what the next reply says of its command
abbrev pub WalksOver : Place → Command → Move → List Command → List Reply → List Transaction → Type 0
WalksOver place c m commands replies ts = Said m place.conn (length place.closed + 1) place.opened c
    (λ next opened rest. WalksTo place.conn next opened commands replies rest) ts

-- A step of the walk leads to a later place: what is cut from there on says what is cut from here on.
pub record LeadsTo (place : Place) (c : Command) (m : Move) (later : Place) : Type 0 where
  pub same : later.conn ≡ place.conn
  pub added : List Transaction
  pub grown : later.closed ≡ place.closed ++ added
  pub cuts : (commands : List Command) (replies : List Reply) (rest : List Transaction) → WalksFrom later commands replies rest → WalksOver place c m commands replies (added ++ rest)
  pub only : (commands : List Command) (replies : List Reply) (ts : List Transaction) → WalksOver place c m commands replies ts → (rest : List Transaction) × WalksFrom later commands replies rest

-- or there is no cut
abbrev pub LeadsNowhere : Place → Command → Move → Type 0
LeadsNowhere place c m = (commands : List Command) (replies : List Reply) (ts : List Transaction) → WalksOver place c m commands replies ts → ⊥

abbrev pub Leads : Bool → Place → Command → Move → Place → Type 0
Leads true place c m later = LeadsTo place c m later
Leads false place c m later = LeadsNowhere place c m

-- the transactions of a connection's transcript
abbrev pub IsCutInto : Script → Transcript → List Transaction → Type 0
IsCutInto script transcript ts = WalksTo script.conn 1 None script.commands transcript.replies ts
