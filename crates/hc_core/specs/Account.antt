-- An account is what happened to one connection: its events with their answers, and its notes, the newest first. Here
-- it is folded into the connection's transactions, the newest first.
use Rattle.std.specs.Prelude.{◌≡◌, ℕ, Bool, true, false, Option, List, [], ◌∷◌, Some, None, length, ◌+◌, ◌/◌, filter, not}
use Rattle.std.specs.Str.{bytes_eq}
use Rattle.hc_range.specs.declared.range.Range.{Range}
use Rattle.hc_range.specs.Ranges.{InRange}
use Rattle.hc_base.specs.Lookup.{Among}
use Rattle.hc_base.specs.declared.full.Full.{Full}
use Rattle.hc_core.specs.declared.account.Entry.{Entry}
use Rattle.hc_core.specs.declared.account.Entry.TheVariants.{Answered, Reserved, FoundFull}
use Rattle.hc_core.specs.declared.cells.Cell.{Cell}
use Rattle.hc_core.specs.declared.cells.Write.{Write}
use Rattle.hc_core.specs.declared.event.Event.{Event}
use Rattle.hc_core.specs.declared.event.Event.TheVariants.{Begin, Draw, Read, Put, Propose, Check, Decide, Unput, End, Purge}
use Rattle.hc_core.specs.declared.outcome.Outcome.{Outcome}
use Rattle.hc_core.specs.declared.outcome.Outcome.TheVariants.{Done, Began, Drew, Cells, Met, Proposed, Lost, Decided}
use Rattle.hc_core.specs.declared.outcome.Met.{Met as MetRecord}

-- the part of the keys from `from` up to `upto`
abbrev pub part_of : List ℕ → Option (List ℕ) → Range
part_of from upto = record { lo = from; hi = upto }

-- a part that was read, with the cells that were found in it
pub record PartRead : Type 0 where
  pub part : Range
  pub cells : List Cell

-- a part that a check found unchanged, with the commit number that was proposed then
pub record PartChecked : Type 0 where
  pub part : Range
  pub number : ℕ

-- what a put or a check asked for: a key, or the keys of a part
pub data Asked : Type 0 where
  KeyAsked : List ℕ → Asked
  PartAsked : Range → Asked

-- a check asks for a part
abbrev pub IsPart : Asked → Type 0
IsPart (KeyAsked key) = ⊥
IsPart (PartAsked part) = Unit {0}

-- a key is one of those that were asked for
abbrev pub IsAskedFor : Asked → List ℕ → Type 0
IsAskedFor (KeyAsked asked) key = key ≡ asked
IsAskedFor (PartAsked part) key = InRange part key

-- a refusal of a put or of a check: what was asked for, and whom it names
pub record Refusal : Type 0 where
  pub asked : Asked
  pub met : MetRecord

-- A transaction as its account shows it. A key is in the write set where it was put and not taken out; `puts` has all that
-- was ever put, the last one first. What counts as checked was checked for the number that is proposed now; what a
-- check found unchanged stays so, for its own number. Numbers count from 1, and 0 says: id, not drawn; ord, not drawn;
-- proposed, nothing is proposed; place, not decided. The writes for which it has room, their weight, and what was full
-- are notes.
pub record Txn : Type 0 where
  pub id : ℕ
  pub ord : ℕ
  pub snapshot : ℕ
  pub reads : List PartRead
  pub write_set : List Write
  pub puts : List Write
  pub proposed : ℕ
  pub checked : List Range
  pub unchanged : List PartChecked
  pub refusals : List Refusal
  pub reserved : List Write
  pub weight : Option ℕ
  pub full : Option Full
  pub place : ℕ
  pub ended : Bool

-- the bytes of a record; a tombstone has none
abbrev pub record_of : Option (List ℕ) → List ℕ
record_of None = []
record_of (Some rec) = rec

-- what a write weighs: 256, and 1 more for each 2,040 bytes of its record that are begun
abbrev pub weight_of_write : Write → ℕ
weight_of_write w = 256 + (length (record_of w.rec) + 2039) / 2040

-- what writes weigh together
abbrev pub weight_of : List Write → ℕ
weight_of [] = 0
weight_of (w ∷ ws) = weight_of_write w + weight_of ws

-- a transaction that has just begun
abbrev pub begun_at : ℕ → Txn
begun_at snapshot = record {
  id = 0;
  ord = 0;
  snapshot = snapshot;
  reads = [];
  write_set = [];
  puts = [];
  proposed = 0;
  checked = [];
  unchanged = [];
  refusals = [];
  reserved = [];
  weight = None;
  full = None;
  place = 0;
  ended = false;
}

-- the writes but those of a key
abbrev pub without : List ℕ → List Write → List Write
without key writes = filter (λ w. not (bytes_eq w.key key)) writes

-- a list of transactions with the newest one changed
abbrev pub newest_changed : (Txn → Txn) → List Txn → List Txn
newest_changed f [] = []
newest_changed f (t ∷ ts) = f t ∷ ts

-- what each event's answer does to the newest transaction; an answer that cannot come does nothing

abbrev pub after_begin : Outcome → List Txn → List Txn
after_begin (Began snapshot) ts = begun_at snapshot.0 ∷ ts
after_begin _ ts = ts

abbrev pub after_draw : ℕ → Outcome → Txn → Txn
after_draw ord (Drew id) t = record t { id = id.0; ord = ord }
after_draw ord _ t = t

abbrev pub after_read : Range → Outcome → Txn → Txn
after_read part (Cells found) t = record t { reads = record { part = part; cells = found.cells } ∷ t.reads }
after_read part _ t = t

abbrev pub after_put : List ℕ → Option (List ℕ) → Outcome → Txn → Txn
after_put key rec Done t = record t { write_set = record { key = key; rec = rec } ∷ t.write_set; puts = record { key = key; rec = rec } ∷ t.puts }
after_put key rec (Met met) t = record t { refusals = record { asked = KeyAsked key; met = met } ∷ t.refusals }
after_put key rec _ t = t

abbrev pub after_propose : Outcome → Txn → Txn
after_propose (Proposed number) t = record t { proposed = number.0; checked = [] }
after_propose _ t = t

abbrev pub after_check : Range → Outcome → Txn → Txn
after_check part Done t = record t { checked = part ∷ t.checked; unchanged = record { part = part; number = t.proposed } ∷ t.unchanged }
after_check part (Met met) t = record t { refusals = record { asked = PartAsked part; met = met } ∷ t.refusals }
after_check part _ t = t

abbrev pub after_decide : Outcome → Txn → Txn
after_decide (Decided number) t = record t { place = number.0 }
after_decide (Lost lost) t = record t { proposed = 0; checked = [] }
after_decide _ t = t

abbrev pub after_unput : List ℕ → Outcome → Txn → Txn
after_unput key Done t = record t { write_set = without key t.write_set }
after_unput key _ t = t

abbrev pub after_end : Outcome → Txn → Txn
after_end Done t = record t { ended = true }
after_end _ t = t

-- the transactions after an event with its answer
abbrev pub after_event : Event → Outcome → List Txn → List Txn
after_event (Begin conn) outcome ts = after_begin outcome ts
after_event (Draw conn ord) outcome ts = newest_changed (after_draw ord outcome) ts
after_event (Read conn from upto) outcome ts = newest_changed (after_read (part_of from upto) outcome) ts
after_event (Put conn key rec) outcome ts = newest_changed (after_put key rec outcome) ts
after_event (Propose conn) outcome ts = newest_changed (after_propose outcome) ts
after_event (Check conn from upto) outcome ts = newest_changed (after_check (part_of from upto) outcome) ts
after_event (Decide conn) outcome ts = newest_changed (after_decide outcome) ts
after_event (Unput conn key) outcome ts = newest_changed (after_unput key outcome) ts
after_event (End conn) outcome ts = newest_changed (after_end outcome) ts
after_event (Purge key) outcome ts = ts

-- a transaction after room was made for its writes
abbrev pub after_reserve : List Write → Txn → Txn
after_reserve writes t = record t { reserved = writes; weight = Some (weight_of writes) }

-- the transactions after an entry
abbrev pub after_entry : Entry → List Txn → List Txn
after_entry (Answered event outcome) ts = after_event event outcome ts
after_entry (Reserved conn writes) ts = newest_changed (after_reserve writes) ts
after_entry (FoundFull conn full) ts = newest_changed (λ t. record t { full = Some full }) ts

-- the transactions of an account, the newest first
abbrev pub txns : List Entry → List Txn
txns [] = []
txns (entry ∷ account) = after_entry entry (txns account)

-- an event is one of connection i
abbrev pub IsEventOf : ℕ → Event → Type 0
IsEventOf i (Begin conn) = conn ≡ i
IsEventOf i (Draw conn ord) = conn ≡ i
IsEventOf i (Read conn from upto) = conn ≡ i
IsEventOf i (Put conn key rec) = conn ≡ i
IsEventOf i (Propose conn) = conn ≡ i
IsEventOf i (Check conn from upto) = conn ≡ i
IsEventOf i (Decide conn) = conn ≡ i
IsEventOf i (Unput conn key) = conn ≡ i
IsEventOf i (End conn) = conn ≡ i
IsEventOf i (Purge key) = ⊥

-- an entry is one of connection i
abbrev pub IsOf : ℕ → Entry → Type 0
IsOf i (Answered event outcome) = IsEventOf i event
IsOf i (Reserved conn writes) = conn ≡ i
IsOf i (FoundFull conn full) = conn ≡ i

-- and so is each of an account
abbrev pub AreOf : ℕ → List Entry → Type 0
AreOf i [] = Unit {0}
AreOf i (entry ∷ account) = IsOf i entry × AreOf i account

-- a key is in the write set of a transaction, with this record or tombstone
abbrev pub HasWrittenAs : Txn → List ℕ → Option (List ℕ) → Type 0
HasWrittenAs t key rec = Among (record { key = key; rec = rec }) t.write_set

-- a key is among writes
abbrev pub HoldsKey : List Write → List ℕ → Type 0
HoldsKey writes key = (rec : Option (List ℕ)) × Among (record { key = key; rec = rec }) writes

-- a key is in the write set of a transaction
abbrev pub HasWritten : Txn → List ℕ → Type 0
HasWritten t key = HoldsKey t.write_set key

-- a key lies in one of the parts that were read
abbrev pub LiesInRead : List PartRead → List ℕ → Type 0
LiesInRead reads key = (read : PartRead) × Among read reads × InRange read.part key

-- a transaction read a key
abbrev pub HasRead : Txn → List ℕ → Type 0
HasRead t key = LiesInRead t.reads key

-- no transaction is open
abbrev pub IsIdle : List Txn → Type 0
IsIdle [] = Unit {0}
IsIdle (t ∷ ts) = t.ended ≡ true

-- a transaction is open, and a fact holds of it
abbrev pub WhenOpen : List Txn → (Txn → Type 0) → Type 0
WhenOpen [] P = ⊥
WhenOpen (t ∷ ts) P = (t.ended ≡ false) × P t
