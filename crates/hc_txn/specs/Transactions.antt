-- A transaction over a desk: what it keeps, and when it is the one that the desk's account has open.
use Rattle.std.specs.Prelude.{◌≡◌, ℕ, ◌-◌, Option, List, [], ◌∷◌, ◌++◌, ◌⊎◌, ◌↔◌, length, drop}
use Rattle.hc_range.specs.declared.range.Range.{Range}
use Rattle.hc_range.specs.Ranges.{InAny, InRange}
use Rattle.hc_core.specs.Account.{PartRead, Txn, begun_at, txns, LiesInRead}
use Rattle.hc_core.specs.Diary.{entry_of}
use Rattle.hc_base.specs.Lookup.{Among}
use Rattle.hc_core.specs.declared.account.Entry.{Entry}
use Rattle.hc_core.specs.declared.cells.Write.{Write}
use Rattle.hc_core.specs.declared.event.Event.TheVariants.{Read}
use Rattle.hc_core.specs.declared.outcome.Outcome.TheVariants.{Cells}
use Rattle.hc_txn.specs.Stores.{Store, Agrees}

-- a savepoint: its name, and the own writes that stood as it was set
pub record Mark : Type 0 where
  pub name : List ℕ
  pub own : List Write

-- What a transaction keeps: its snapshot's number, the keys that it has read, its own writes with the newest first, the
-- snapshot's records of the keys that it has written, its savepoints with the innermost first, and the own writes that
-- stood as the open statement began.
pub record Transaction : Type 0 where
  pub snapshot : ℕ
  pub log : List Range
  pub own : List Write
  pub kept : List Write
  pub marks : List Mark
  pub statement : Option (List Write)

-- the first n of some writes, of which the newest is first
abbrev pub earlier : ℕ → List Write → List Write
earlier n own = drop (length own - n) own

-- a transaction of an account that has begun, and done nothing but read
abbrev pub having_read : ℕ → List PartRead → Txn
having_read snapshot reads = record (begun_at snapshot) { reads = reads }

-- the parts that an account's newest transaction read
abbrev pub reads_in : List Txn → List PartRead
reads_in [] = []
reads_in (t ∷ ts) = t.reads

abbrev pub reads_of : List Entry → List PartRead
reads_of account = reads_in (txns account)

-- the log is exactly what was read
abbrev pub IsLogOf : List PartRead → List Range → Type 0
IsLogOf reads log = (key : List ℕ) → InAny log key ↔ LiesInRead reads key

-- each of these keys was read, and has this record in each store that agrees with what was read
abbrev pub AreRecordsOf : List PartRead → List Write → Type 0
AreRecordsOf reads kept = (write : Write) → Among write kept
    → LiesInRead reads write.key × ((store : Store) → Agrees reads store → store write.key ≡ write.rec)

-- the account's newest transaction has begun with this snapshot, has done nothing but read, and has read exactly what is
-- logged; the kept records are those of what was read
pub record IsReadAs (account : List Entry) (snapshot : ℕ) (logged : List Range) (kept : List Write) : Type 0 where
  pub older : List Txn
  pub newest : txns account ≡ having_read snapshot (reads_of account) ∷ older
  pub log : IsLogOf (reads_of account) logged
  pub records : AreRecordsOf (reads_of account) kept

-- a transaction is of a desk with this account
abbrev pub IsOf : List Entry → Transaction → Type 0
IsOf account txn = IsReadAs account txn.snapshot txn.log txn.kept

-- the entries of an account for parts that were read, the newest first
abbrev pub entries_of : ℕ → List PartRead → List Entry
entries_of conn [] = []
entries_of conn (read ∷ reads) = entry_of (Read conn read.part.lo read.part.hi) (Cells (record { cells = read.cells })) ∷ entries_of conn reads

-- an account has grown by reads alone
abbrev pub HasOnlyRead : ℕ → List Entry → List Entry → Type 0
HasOnlyRead conn before after = (reads : List PartRead) × (after ≡ entries_of conn reads ++ before)

-- the log covers a key more, or the keys of a range more
abbrev pub LogsKeyToo : List ℕ → List Range → List Range → Type 0
LogsKeyToo key before after = (k : List ℕ) → InAny after k ↔ (InAny before k ⊎ (k ≡ key))

abbrev pub LogsRangeToo : Range → List Range → List Range → Type 0
LogsRangeToo range before after = (k : List ℕ) → InAny after k ↔ (InAny before k ⊎ InRange range k)

-- the log covers more, and of that nothing but keys of a range
abbrev pub LogsWithin : Range → List Range → List Range → Type 0
LogsWithin range before after = ((k : List ℕ) → InAny before k → InAny after k) × ((k : List ℕ) → InAny after k → InAny before k ⊎ InRange range k)

-- a transaction sees what it saw: nothing but its log has changed
abbrev pub SeesTheSame : Transaction → Transaction → Type 0
SeesTheSame before after = after ≡ record before { log = after.log }
