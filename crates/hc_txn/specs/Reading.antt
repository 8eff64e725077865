-- A part of the keys that was read in any number of calls.
use Rattle.std.specs.Prelude.{◌≡◌, ℕ, ◌<◌, ◌≤◌, Option, Some, List, ◌++◌, length, get_or, ◌⊎◌, ◌↔◌}
use Rattle.hc_range.specs.declared.range.Range.{Range}
use Rattle.hc_range.specs.Ranges.{InAny, InRange}
use Rattle.hc_range.specs.Order.{successor}
use Rattle.hc_core.specs.Account.{PartRead, LiesInRead, part_of}
use Rattle.hc_core.specs.Desk.{AreCellsIn, HasReadNothing, end_of}
use Rattle.hc_core.specs.declared.account.Entry.{Entry}
use Rattle.hc_core.specs.declared.cells.Cell.{Cell}
use Rattle.hc_core.specs.declared.stop.Next.{Next}
use Rattle.hc_core.specs.declared.stop.Next.TheVariants.{More, End}
use Rattle.hc_txn.specs.Stores.{Store, Agrees, HasExactly}
use Rattle.hc_txn.specs.Transactions.{entries_of, reads_of}
use Rattle.hc_txn.specs.declared.reading.HowFar.{HowFar}
use Rattle.hc_txn.specs.declared.reading.HowFar.TheVariants.{Whole, Upto, Nothing}

-- A part was read: the account has grown by reads of exactly its keys, and the cells that were added are those of each store
-- that agrees with these reads.
pub record HasReadAll (conn : ℕ) (part : Range) (before after : List Entry) (cells_before cells_after : List Cell) : Type 0 where
  pub reads : List PartRead
  pub cells : List Cell
  pub grown : after ≡ entries_of conn reads ++ before
  pub added : cells_after ≡ cells_before ++ cells
  pub parts : (key : List ℕ) → LiesInRead reads key ↔ InRange part key
  pub in_order : AreCellsIn part cells
  pub exact : (store : Store) → Agrees reads store → HasExactly store part cells

-- a place where a call stops is a short key, and its bytes are bytes
abbrev pub IsPlace : Next → Type 0
IsPlace (More key) = (length key ≤ 463) × ((i : ℕ) → get_or key i 0 < 256)
IsPlace End = Unit {0}

-- the part of a range below where the next call begins
abbrev pub upto_next : Range → Next → Range
upto_next range next = part_of range.lo (end_of range next)

-- the next call begins in the range, at its lower end or above
abbrev pub StopsAt : Range → Next → Type 0
StopsAt range (More key) = InRange range key
StopsAt range End = Unit {0}

-- a range was read as far as is told; without memory cells may have been added that count for nothing
abbrev pub HasReadAsFar : ℕ → Range → HowFar → List Entry → List Entry → List Cell → List Cell → Type 0
HasReadAsFar conn range Whole before after cells_before cells_after = HasReadAll conn range before after cells_before cells_after
HasReadAsFar conn range (Upto key) before after cells_before cells_after = InRange range key × (length key ≤ 463)
    × ((some : List Cell) × HasReadAll conn (part_of range.lo (Some key)) before after cells_before some × ((more : List Cell) × (cells_after ≡ some ++ more)))
HasReadAsFar conn range Nothing before after cells_before cells_after = HasReadNothing before after cells_before cells_after

-- a key was read, as far as is told
abbrev pub IsReadSoFar : Range → HowFar → List ℕ → Type 0
IsReadSoFar range Whole key = InRange range key
IsReadSoFar range (Upto stop) key = InRange (part_of range.lo (Some stop)) key
IsReadSoFar range Nothing key = ⊥

-- the account has grown by reads in a range, and the log covers what they read too
pub record HasLogged (conn : ℕ) (range : Range) (before after : List Entry) (log_before log_after : List Range) : Type 0 where
  pub reads : List PartRead
  pub grown : after ≡ entries_of conn reads ++ before
  pub logged : (key : List ℕ) → InAny log_after key ↔ (InAny log_before key ⊎ LiesInRead reads key)
  pub within : (key : List ℕ) → LiesInRead reads key → InRange range key

-- the keys of a range that has one key
abbrev pub only : List ℕ → Range
only key = record { lo = key; hi = Some (successor key) }

-- what each store that agrees with an account's reads has at a key
abbrev pub IsFoundAt : List Entry → List ℕ → Option (List ℕ) → Type 0
IsFoundAt account key found = (store : Store) → Agrees (reads_of account) store → found ≡ store key
