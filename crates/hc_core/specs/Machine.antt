-- The transaction machine as a table, in the usual terms of optimistic concurrency control (read set, write set,
-- backward validation) with ranges: which event is enabled when, what it is answered, and what is after it.
use Rattle.std.specs.Prelude.{◌≡◌, ◌≢◌, ℕ, ◌+◌, ◌-◌, ◌<◌, ◌≤◌, ◌^◌, false, None, List, [], ◌∷◌, ◌++◌, ◌⊎◌, length, replicate, get_or, slice_index, slice_set}
use Rattle.hc_range.specs.declared.range.Range.{Range}
use Rattle.hc_range.specs.Ranges.{InRange, Includes}
use Rattle.hc_base.specs.Lookup.{Among}
use Rattle.hc_core.specs.Account.{Txn, PartRead, part_of, txns, HasWritten, HasWrittenAs, IsIdle, WhenOpen}
use Rattle.hc_core.specs.Versions.{AreCellsAfter, IsLatestVersion, IsInTheWay, IsBetween, IsFound}
use Rattle.hc_core.specs.Diary.{entry_of}
use Rattle.hc_core.specs.declared.account.Entry.{Entry}
use Rattle.hc_core.specs.declared.account.Entry.TheVariants.{Answered, Reserved, FoundFull}
use Rattle.hc_core.specs.declared.cells.Cell.{Cell}
use Rattle.hc_core.specs.declared.event.Event.{Event}
use Rattle.hc_core.specs.declared.event.Event.TheVariants.{Begin, Draw, Read, Put, Propose, Check, Decide, Unput, End, Purge}
use Rattle.hc_core.specs.declared.outcome.Outcome.{Outcome}
use Rattle.hc_core.specs.declared.outcome.Outcome.TheVariants.{Done, Began, Drew, Cells, Met, Proposed, Lost, Decided, NotNow}
use Rattle.hc_core.specs.declared.outcome.Met.{Met as MetRecord}

-- The machine: how many ids were drawn, the log, which is the ids of the committed transactions in the order
-- of their commit numbers, and the account of each connection.
pub record Machine : Type 0 where
  pub drawn : ℕ
  pub log : List ℕ
  pub accounts : List (List Entry)

-- a new machine for some number of connections
abbrev pub start : ℕ → Machine
start conns = record { drawn = 0; log = []; accounts = replicate conns [] }

-- a connection's account; it is empty where there is no such connection
abbrev pub account_of : Machine → ℕ → List Entry
account_of m i = get_or m.accounts i []

-- a connection's transactions, the newest first
abbrev pub txns_of : Machine → ℕ → List Txn
txns_of m i = txns (account_of m i)

-- the commit number that is next
abbrev pub next_number : Machine → ℕ
next_number m = length m.log + 1

-- the key's newest version is a tombstone of a committed transaction, which every open transaction sees
abbrev pub IsForgettable : (ℕ → List Txn) → List ℕ → Type 0
IsForgettable of key = (j : ℕ) × (u : Txn) × IsLatestVersion of key j u × (u.place ≢ 0) × HasWrittenAs u key None
    × ((i : ℕ) (t : Txn) → Among t (of i) → t.ended ≡ false → u.place ≤ t.snapshot)

-- which event is enabled
abbrev pub IsEnabled : Machine → Event → Type 0
-- the connection is there, and has no open transaction
IsEnabled m (Begin i) = (i < length m.accounts) × IsIdle (txns_of m i)
-- it has not drawn, the ordinal is above all that the connection drew with, and an id is left
IsEnabled m (Draw i ord) = WhenOpen (txns_of m i) (λ t. (t.id ≡ 0) × (0 < ord)
    × ((u : Txn) → Among u (txns_of m i) → u.ord < ord) × (m.drawn < 2 ^ 32 - 1))
-- it has not drawn
IsEnabled m (Read i from upto) = WhenOpen (txns_of m i) (λ t. t.id ≡ 0)
-- it has drawn, is not decided and proposes nothing, and the key is not in the write set
IsEnabled m (Put i key rec) = WhenOpen (txns_of m i) (λ t. (t.id ≢ 0) × (t.place ≡ 0) × (t.proposed ≡ 0) × (HasWritten t key → ⊥))
-- it has drawn, and is not decided
IsEnabled m (Propose i) = WhenOpen (txns_of m i) (λ t. (t.id ≢ 0) × (t.place ≡ 0))
-- it proposes a number
IsEnabled m (Check i from upto) = WhenOpen (txns_of m i) (λ t. t.proposed ≢ 0)
-- it proposes a number and is not decided, and each part read lies in the parts checked for that number
IsEnabled m (Decide i) = WhenOpen (txns_of m i) (λ t. (t.proposed ≢ 0) × (t.place ≡ 0)
    × ((read : PartRead) → Among read t.reads → Includes t.checked read.part))
-- the key is in the write set, and it is not decided
IsEnabled m (Unput i key) = WhenOpen (txns_of m i) (λ t. HasWritten t key × (t.place ≡ 0))
-- it is decided, or no key is in the write set
IsEnabled m (End i) = WhenOpen (txns_of m i) (λ t. (t.place ≢ 0) ⊎ (t.write_set ≡ []))
IsEnabled m (Purge key) = IsForgettable (txns_of m) key

-- how a refusal names a transaction of connection j, and a key
abbrev pub Names : MetRecord → ℕ → Txn → List ℕ → Type 0
Names met j u key = (met.tid.0 ≡ u.id) × (met.conn ≡ j) × (met.ord ≡ u.ord) × (met.key ≡ key)

-- a put of a key meets nothing: no undecided transaction of another connection has it, and no commit above
-- the snapshot put it
abbrev pub IsFree : (ℕ → List Txn) → ℕ → ℕ → List ℕ → Type 0
IsFree of i snapshot key = (j : ℕ) (u : Txn) → Among u (of j) → HasWritten u key → ((u.place ≢ 0) ⊎ (j ≡ i)) × (u.place ≤ snapshot)

-- a put is refused exactly where something is in its way, which the refusal names
abbrev pub IsPutAnswer : Machine → ℕ → List ℕ → Txn → Outcome → Type 0
IsPutAnswer m i key t outcome =
    ((met : MetRecord) × (j : ℕ) × (u : Txn) × IsInTheWay (txns_of m) i t.snapshot key j u
    × Names met j u key × (outcome ≡ Met met))
    ⊎ (IsFree (txns_of m) i t.snapshot key × (outcome ≡ Done))

-- no commit above a snapshot and below a commit number put a key of the part
abbrev pub IsUnchanged : (ℕ → List Txn) → ℕ → ℕ → Range → Type 0
IsUnchanged of snapshot number part = (key : List ℕ) (j : ℕ) (u : Txn) → InRange part key → IsBetween of snapshot number key j u → ⊥

-- a check is refused exactly where a commit between put a key of the part
abbrev pub IsCheckAnswer : Machine → Range → Txn → Outcome → Type 0
IsCheckAnswer m part t outcome =
    ((met : MetRecord) × (key : List ℕ) × (j : ℕ) × (u : Txn) × IsFound (txns_of m) t.snapshot t.proposed part key j u
    × Names met j u key × (outcome ≡ Met met))
    ⊎ (IsUnchanged (txns_of m) t.snapshot t.proposed part × (outcome ≡ Done))

-- the proposed number is taken where it is still the next; else it is lost to the transaction that has it
abbrev pub IsDecideAnswer : Machine → Txn → Outcome → Type 0
IsDecideAnswer m t outcome =
    ((t.proposed ≡ next_number m) × (outcome ≡ Decided (record { 0 = t.proposed })))
    ⊎ ((t.proposed ≢ next_number m)
    × (outcome ≡ Lost (record { cid = record { 0 = t.proposed }; other = record { 0 = slice_index m.log (t.proposed - 1) } })))

-- what an enabled event is answered
abbrev pub IsAnswer : Machine → Event → Outcome → Type 0
IsAnswer m (Begin i) outcome = outcome ≡ Began (record { 0 = length m.log })
IsAnswer m (Draw i ord) outcome = outcome ≡ Drew (record { 0 = m.drawn + 1 })
IsAnswer m (Read i from upto) outcome = WhenOpen (txns_of m i) (λ t. (cells : List Cell)
    × AreCellsAfter (txns_of m) t.snapshot (part_of from upto) cells × (outcome ≡ Cells (record { cells = cells })))
IsAnswer m (Put i key rec) outcome = WhenOpen (txns_of m i) (λ t. IsPutAnswer m i key t outcome)
IsAnswer m (Propose i) outcome = outcome ≡ Proposed (record { 0 = next_number m })
IsAnswer m (Check i from upto) outcome = WhenOpen (txns_of m i) (λ t. IsCheckAnswer m (part_of from upto) t outcome)
IsAnswer m (Decide i) outcome = WhenOpen (txns_of m i) (λ t. IsDecideAnswer m t outcome)
IsAnswer m (Unput i key) outcome = outcome ≡ Done
IsAnswer m (End i) outcome = outcome ≡ Done
IsAnswer m (Purge key) outcome = outcome ≡ Done

-- what any event is answered: `NotNow` exactly where it is not enabled
abbrev pub Answers : Machine → Event → Outcome → Type 0
Answers m event outcome = (IsEnabled m event × IsAnswer m event outcome)
    ⊎ ((IsEnabled m event → ⊥) × (outcome ≡ NotNow))

-- the machine with an entry in a connection's account
abbrev pub with_entry : Machine → ℕ → Entry → Machine
with_entry m i entry = record m { accounts = slice_set m.accounts i (entry ∷ account_of m i) }

abbrev pub entered : Machine → ℕ → Event → Outcome → Machine
entered m i event outcome = with_entry m i (entry_of event outcome)

-- the second machine, but the first one where the event was not enabled
abbrev pub unless_not_now : Outcome → Machine → Machine → Machine
unless_not_now NotNow m after = m
unless_not_now _ m after = after

-- a draw counts the id that it drew
abbrev pub drawn_after : Outcome → ℕ → ℕ
drawn_after (Drew id) drawn = id.0
drawn_after _ drawn = drawn

-- a decision logs the id of the newest transaction
abbrev pub log_after : Outcome → List Txn → List ℕ → List ℕ
log_after (Decided number) (t ∷ ts) log = log ++ t.id ∷ []
log_after _ ts log = log

-- the machine after an event with its answer: the account has it, a draw counts, and a commit is logged
abbrev pub after : Machine → Event → Outcome → Machine
after m (Begin i) outcome = unless_not_now outcome m (entered m i (Begin i) outcome)
after m (Draw i ord) outcome = unless_not_now outcome m
    (record (entered m i (Draw i ord) outcome) { drawn = drawn_after outcome m.drawn })
after m (Read i from upto) outcome = unless_not_now outcome m (entered m i (Read i from upto) outcome)
after m (Put i key rec) outcome = unless_not_now outcome m (entered m i (Put i key rec) outcome)
after m (Propose i) outcome = unless_not_now outcome m (entered m i (Propose i) outcome)
after m (Check i from upto) outcome = unless_not_now outcome m (entered m i (Check i from upto) outcome)
after m (Decide i) outcome = unless_not_now outcome m
    (record (entered m i (Decide i) outcome) { log = log_after outcome (txns_of m i) m.log })
after m (Unput i key) outcome = unless_not_now outcome m (entered m i (Unput i key) outcome)
after m (End i) outcome = unless_not_now outcome m (entered m i (End i) outcome)
after m (Purge key) outcome = m

-- a step of a run: an event with its answer, or a note. The writes of a transaction are noted once, after its draw,
-- and what was full is noted once
abbrev pub IsStep : Machine → Entry → Type 0
IsStep m (Answered event outcome) = Answers m event outcome
IsStep m (Reserved i writes) = WhenOpen (txns_of m i) (λ t. (t.id ≢ 0) × (t.weight ≡ None))
IsStep m (FoundFull i full) = WhenOpen (txns_of m i) (λ t. t.full ≡ None)

-- the machine after a step: a note is entered, and changes nothing else
abbrev pub after_step : Machine → Entry → Machine
after_step m (Answered event outcome) = after m event outcome
after_step m (Reserved i writes) = with_entry m i (Reserved i writes)
after_step m (FoundFull i full) = with_entry m i (FoundFull i full)

-- a run: steps from one machine to another. The first step comes first, unlike in an account
abbrev pub Runs : Machine → List Entry → Machine → Type 0
Runs m [] last = m ≡ last
Runs m (step ∷ steps) last = IsStep m step × Runs (after_step m step) steps last
