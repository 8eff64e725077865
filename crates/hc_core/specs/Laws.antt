-- What holds of the machine's table, and so after any run: from a new machine for any number of connections,
-- over any events in any order.
use Rattle.std.specs.Prelude.{◌≡◌, ◌≢◌, ℕ, List, ◌∷◌, map, ◌⊎◌, ◌↔◌}
use Rattle.hc_base.specs.Lookup.{Among}
use Rattle.hc_core.specs.Account.{Txn, PartRead, Refusal, HasWritten, HasRead}
use Rattle.hc_core.specs.Versions.{AreCellsAfter, AreVersions, IsLatestVersion}
use Rattle.hc_core.specs.Machine.{Machine, start, Answers, after, Runs, txns_of}
use Rattle.hc_core.specs.Sound.{IsSound, NonePutBetween, NamesWriter}
use Rattle.hc_core.specs.declared.account.Entry.{Entry}
use Rattle.hc_core.specs.declared.account.Entry.TheVariants.{Answered}
use Rattle.hc_core.specs.declared.outcome.Outcome.TheVariants.{NotNow}
use Rattle.hc_core.specs.declared.event.Event.{Event}
use Rattle.hc_core.specs.declared.outcome.Outcome.{Outcome}

-- a new machine, for any number of connections, is sound
abbrev pub NewIsSound : Type 0
NewIsSound = (conns : ℕ) → IsSound (start conns)

-- each event with its answer keeps a sound machine sound
abbrev pub EachEventKeepsSoundness : Type 0
EachEventKeepsSoundness = (m : Machine) (event : Event) (outcome : Outcome) → IsSound m → Answers m event outcome
    → IsSound (after m event outcome)

-- a sound machine has one answer at most to an event
abbrev pub AnswersAreOne : Type 0
AnswersAreOne = (m : Machine) (event : Event) (one other : Outcome) → IsSound m → Answers m event one → Answers m event other
    → one ≡ other

-- and it has one
abbrev pub AnEventHasAnAnswer : Type 0
AnEventHasAnAnswer = (m : Machine) (event : Event) → IsSound m → (outcome : Outcome) × Answers m event outcome

-- a step without its answer
abbrev pub unanswered : Entry → Entry
unanswered (Answered event outcome) = Answered event NotNow
unanswered note = note

-- what the steps of a run ask for
abbrev pub asked_of : List Entry → List Entry
asked_of steps = map unanswered steps

-- these events, not yet answered
abbrev pub events_asked : List Event → List Entry
events_asked events = map (λ event. Answered event NotNow) events

-- in a new machine what the steps ask for is answered as the steps say, and cannot be answered otherwise
pub record IsTheRun (conns : ℕ) (steps : List Entry) : Type 0 where
  pub runs : (m : Machine) × Runs (start conns) steps m
  pub only : (others : List Entry) (m : Machine) → Runs (start conns) others m → asked_of others ≡ asked_of steps → others ≡ steps

-- each list of events, of any connections in any order, has a run from a new machine, and one alone
abbrev pub EachListOfEventsHasOneRun : Type 0
EachListOfEventsHasOneRun = (conns : ℕ) (events : List Event) → (steps : List Entry) × (asked_of steps ≡ events_asked events) × IsTheRun conns steps

-- a fact holds after every run
abbrev pub AfterEveryRun : (Machine → Type 0) → Type 0
AfterEveryRun P = (conns : ℕ) (steps : List Entry) (m : Machine) → Runs (start conns) steps m → P m

-- each part that was read has exactly the cells of its transaction's snapshot
abbrev pub ReadsAreSnapshots : Machine → Type 0
ReadsAreSnapshots m = (i : ℕ) (t : Txn) (read : PartRead) → Among t (txns_of m i) → Among read t.reads
    → AreCellsAfter (txns_of m) t.snapshot read.part read.cells

-- the first committer wins: what a committed transaction read or put, no other put between its snapshot and its place
abbrev pub FirstCommitterWins : Machine → Type 0
FirstCommitterWins m = (i : ℕ) (t : Txn) (key : List ℕ) → Among t (txns_of m i) → t.place ≢ 0
    → HasRead t key ⊎ HasWritten t key → NonePutBetween (txns_of m) t.snapshot t.place key

-- a refusal names a transaction of another connection that put the key
abbrev pub RefusalsNameWriters : Machine → Type 0
RefusalsNameWriters m = (i : ℕ) (t : Txn) (r : Refusal) → Among t (txns_of m i) → Among r t.refusals
    → NamesWriter (txns_of m) i t.snapshot r

-- what is called the first version of a key is the one with which its versions begin
abbrev pub VersionsBeginWithTheLatest : Type 0
VersionsBeginWithTheLatest = (of : ℕ → List Txn) (key : List ℕ) (versions : List Txn) (i : ℕ) (t : Txn) → AreVersions of key versions
    → Among t (of i) → IsLatestVersion of key i t ↔ ((older : List Txn) × (versions ≡ t ∷ older))
