-- How far a transaction is on its way to a commit, and what each step of it does.
use Rattle.std.specs.Prelude.{◌≡◌, ◌≢◌, ℕ, ◌≤◌, Option, Some, None, List, [], ◌∷◌, ◌↔◌, reverse}
use Rattle.hc_range.specs.declared.range.Range.{Range}
use Rattle.hc_range.specs.Ranges.{InAny, InRange}
use Rattle.hc_base.specs.Lookup.{Among}
use Rattle.hc_core.specs.Account.{HasWritten, Txn, part_of}
use Rattle.hc_core.specs.Desk.{Proposes, end_of}
use Rattle.hc_core.specs.Diary.{entry_of}
use Rattle.hc_core.specs.declared.account.Entry.{Entry}
use Rattle.hc_core.specs.declared.cells.Write.{Write}
use Rattle.hc_core.specs.declared.event.Event.TheVariants.{Check, Decide}
use Rattle.hc_core.specs.declared.outcome.Met.{Met as MetRecord}
use Rattle.hc_core.specs.declared.outcome.Outcome.TheVariants.{Decided, Lost, Met}
use Rattle.hc_core.specs.declared.stop.Next.{Next}
use Rattle.hc_txn.specs.Transactions.{IsLogOf}
use Rattle.hc_commit.specs.Entries.{with_checks}
use Rattle.hc_commit.specs.declared.proposal.Proposal.{Proposal}
use Rattle.hc_commit.specs.declared.proposal.Proposal.TheVariants.{Won, Beaten, Refused}

-- it has done nothing but read, and a log covers exactly what it has read
abbrev pub HasOnlyReadIn : List Range → Txn → Type 0
HasOnlyReadIn log t = (t.full ≡ None) × (t.id ≡ 0) × (t.place ≡ 0) × (t.proposed ≡ 0) × (t.write_set ≡ []) × IsLogOf t.reads log

-- it has an id and room for these writes, and nothing is put, proposed or decided
abbrev pub MayPutAll : List Write → Txn → Type 0
MayPutAll writes t = (t.id ≢ 0) × (t.full ≡ None) × (t.place ≡ 0) × (t.proposed ≡ 0) × (t.reserved ≡ writes) × (t.write_set ≡ [])

-- and a log covers exactly what it has read
abbrev pub IsRoomy : List Write → List Range → Txn → Type 0
IsRoomy writes log t = MayPutAll writes t × IsLogOf t.reads log

-- then they are all put, in this order
pub record IsReady (writes : List Write) (log : List Range) (t : Txn) : Type 0 where
  pub id : t.id ≢ 0
  pub room : t.full ≡ None
  pub undecided : t.place ≡ 0
  pub reserved : t.reserved ≡ writes
  pub put : t.write_set ≡ reverse writes
  pub read : IsLogOf t.reads log

-- these writes are put, in this order, and it is not decided
abbrev pub HasPut : List Write → Txn → Type 0
HasPut put t = (t.place ≡ 0) × (t.write_set ≡ reverse put)

-- nothing is put
abbrev pub HasNonePut : Txn → Type 0
HasNonePut t = t.write_set ≡ []

-- it may propose a number, and a log covers exactly what it has read
pub record HasAllPut (log : List Range) (t : Txn) : Type 0 where
  pub id : t.id ≢ 0
  pub room : t.full ≡ None
  pub undecided : t.place ≡ 0
  pub put : (w : Write) → Among w t.reserved → HasWritten t w.key
  pub read : IsLogOf t.reads log

-- a range was checked whole
abbrev pub HasCheckedRange : ℕ → Range → List Entry → List Entry → Type 0
HasCheckedRange conn range before after = (parts : List Range) × (after ≡ with_checks conn parts before)
    × ((key : List ℕ) → InAny parts key ↔ InRange range key)

-- a range was checked up to a key, and from it on a check was refused
pub record HasMetIn (conn : ℕ) (range : Range) (met : MetRecord) (before after : List Entry) : Type 0 where
  pub parts : List Range
  pub from : List ℕ
  pub upto : Option (List ℕ)
  pub grown : after ≡ entry_of (Check conn from upto) (Met met) ∷ with_checks conn parts before
  pub here : InRange range from
  pub below : (key : List ℕ) → InAny parts key ↔ InRange (part_of range.lo (Some from)) key
  pub inside : (key : List ℕ) → InRange (part_of from upto) key → InRange range key
  pub names : InRange (part_of from upto) met.key × (met.conn ≢ conn)

-- the part of a range that was checked before the next call
abbrev pub HasCheckedUpto : ℕ → Range → Next → List Entry → List Entry → Type 0
HasCheckedUpto conn range next before after = (parts : List Range) × (after ≡ with_checks conn parts before)
    × ((key : List ℕ) → InAny parts key ↔ InRange (part_of range.lo (end_of range next)) key)

-- a decision was made at the number that was proposed
abbrev pub HasDecided : ℕ → Proposal → List Entry → List Entry → Type 0
HasDecided conn (Won number) before after = Proposes before number.0 × (after ≡ entry_of (Decide conn) (Decided number) ∷ before)
HasDecided conn (Beaten lost) before after = Proposes before lost.cid.0 × (after ≡ entry_of (Decide conn) (Lost lost) ∷ before)
HasDecided conn (Refused met) before after = ⊥

-- the number that was decided, or lost, is seen
abbrev pub IsSeen : Proposal → ℕ → Type 0
IsSeen (Won number) seen = number.0 ≤ seen
IsSeen (Beaten lost) seen = lost.cid.0 ≤ seen
IsSeen (Refused met) seen = Unit {0}
