-- The last cell of a range: the one that a store has, the one that was read, and the one that a transaction sees.
use Rattle.std.specs.Prelude.{◌≡◌, ◌≢◌, ℕ, ◌<◌, ◌≤◌, Bool, true, false, cond, Option, Some, None, List, [], ◌∷◌, ◌++◌, ◌⊎◌, length, get_or}
use Rattle.hc_range.specs.declared.range.Range.{Range}
use Rattle.hc_range.specs.Order.{IsBelow, is_below}
use Rattle.hc_range.specs.Ranges.{InRange}
use Rattle.hc_core.specs.Account.{PartRead}
use Rattle.hc_core.specs.declared.account.Entry.{Entry}
use Rattle.hc_core.specs.declared.cells.Cell.{Cell}
use Rattle.hc_core.specs.declared.cells.Write.{Write}
use Rattle.hc_txn.specs.Reading.{HasReadAll}
use Rattle.hc_txn.specs.Stores.{Store, Agrees, latest, over}
use Rattle.hc_txn.specs.Transactions.{LogsRangeToo, entries_of, reads_of}

-- a store's last cell in a range, or that it has none there
abbrev pub IsLastOf : Store → Range → Option Cell → Type 0
IsLastOf store range None = (key : List ℕ) → InRange range key → store key ≡ None
IsLastOf store range (Some cell) = InRange range cell.key × (store cell.key ≡ Some cell.rec)
    × ((key : List ℕ) → InRange range key → IsBelow cell.key key → store key ≡ None)

-- the part of a range from a cell's key on, or the whole range
abbrev pub part_from : Range → Option Cell → Range
part_from range None = range
part_from range (Some cell) = record { lo = cell.key; hi = range.hi }

-- in each store that agrees with an account's reads, with own writes over it, it is the last cell of a range, or there is none
abbrev pub IsLastSeen : List Write → Range → List Entry → Option Cell → Type 0
IsLastSeen own range account found = (store : Store) → Agrees (reads_of account) store → IsLastOf (over own store) range found

-- the last cell of a range as a transaction sees it was added, and the log covers the range from its key on too; or there is
-- none, nothing was added, and the log covers the whole range too
abbrev pub HasSeenLast : Bool → List Write → Range → List Entry → List Cell → List Cell → List Range → List Range → Type 0
HasSeenLast true own range account before after log more = (cell : Cell) × (after ≡ before ++ cell ∷ [])
    × IsLastSeen own range account (Some cell) × LogsRangeToo (part_from range (Some cell)) log more
HasSeenLast false own range account before after log more = (after ≡ before) × IsLastSeen own range account None × LogsRangeToo range log more

-- a store has no record at a key, or own writes clear it
abbrev pub IsNoneOrCleared : List Write → Store → List ℕ → Type 0
IsNoneOrCleared own store key = (store key ≡ None) ⊎ (latest own key ≡ Some None)

-- a store has this cell, and above it in a range no cell that own writes leave; or it has no such cell in the range
abbrev pub IsLastLeft : List Write → Range → Option Cell → Store → Type 0
IsLastLeft own range None store = (key : List ℕ) → InRange range key → IsNoneOrCleared own store key
IsLastLeft own range (Some cell) store = (store cell.key ≡ Some cell.rec)
    × ((key : List ℕ) → InRange range key → IsBelow cell.key key → IsNoneOrCleared own store key)

-- the cell's key is in a range, and is a key that can be stored
abbrev pub IsCellIn : Range → Option Cell → Type 0
IsCellIn range None = Unit {0}
IsCellIn range (Some cell) = InRange range cell.key × (length cell.key ≤ 463) × ((i : ℕ) → get_or cell.key i 0 < 256)

-- own writes leave the cell
abbrev pub IsLeft : List Write → Option Cell → Type 0
IsLeft own None = Unit {0}
IsLeft own (Some cell) = latest own cell.key ≢ Some None

-- the cell alone, or none
abbrev pub cells_in : Option Cell → List Cell
cells_in None = []
cells_in (Some cell) = cell ∷ []

-- the last cell of a range was read, and with it the part from its key on; or the whole range, which has none
abbrev pub HasReadToLast : ℕ → Range → Option Cell → List Entry → List Entry → Type 0
HasReadToLast conn range found before after = IsCellIn range found × HasReadAll conn (part_from range found) before after [] (cells_in found)

-- a range was read from its end down, past cells that own writes clear, to a cell or to the range's lower end
pub record HasReadDown (conn : ℕ) (own : List Write) (range : Range) (found : Option Cell) (before after : List Entry) : Type 0 where
  pub reads : List PartRead
  pub grown : after ≡ entries_of conn reads ++ before
  pub inside : IsCellIn range found
  pub last : (store : Store) → Agrees reads store → IsLastLeft own range found store

-- of an own cell and of one that is not below it the last one
abbrev pub later_cell : Option Cell → Option Cell → Option Cell
later_cell None found = found
later_cell (Some own) None = Some own
later_cell (Some own) (Some found) = cond (is_below own.key found.key) (Some found) (Some own)
