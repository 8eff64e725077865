-- What own writes make of a range.
use Rattle.std.specs.Prelude.{◌≡◌, ℕ, Option, Some, None, List, ◌∷◌, ◌++◌, ◌↔◌}
use Rattle.hc_range.specs.declared.range.Range.{Range}
use Rattle.hc_range.specs.Order.{IsBelow}
use Rattle.hc_range.specs.Ranges.{InRange}
use Rattle.hc_core.specs.Desk.{AreAscendingWrites}
use Rattle.hc_base.specs.Lookup.{Among}
use Rattle.hc_core.specs.Versions.{AreAscending}
use Rattle.hc_core.specs.declared.account.Entry.{Entry}
use Rattle.hc_core.specs.declared.cells.Cell.{Cell}
use Rattle.hc_core.specs.declared.cells.Write.{Write}
use Rattle.hc_txn.specs.Stores.{Store, Agrees, HasExactly, latest, over}
use Rattle.hc_txn.specs.Transactions.{reads_of}

-- writes are the newest ones of the keys in a range, in ascending order
abbrev pub AreStandingIn : Range → List Write → List Write → Type 0
AreStandingIn range own writes = AreAscendingWrites writes
    × ((key : List ℕ) (rec : Option (List ℕ)) → Among (record { key = key; rec = rec }) writes ↔ (InRange range key × (latest own key ≡ Some rec)))

-- cells were added: for each store that has exactly the snapshot's cells in a range, they are those that it has with the own
-- writes over it
abbrev pub HasLaid : List Write → Range → List Cell → List Cell → List Cell → Type 0
HasLaid own range snapshot before after = (cells : List Cell) × (after ≡ before ++ cells) × AreAscending cells
    × ((store : Store) → HasExactly store range snapshot → HasExactly (over own store) range cells)

-- cells were added: they are those that each store which agrees with an account's reads has in a range, with own writes over
-- it
abbrev pub HasSeen : List Write → Range → List Entry → List Cell → List Cell → Type 0
HasSeen own range account before after = (cells : List Cell) × (after ≡ before ++ cells) × AreAscending cells
    × ((store : Store) → Agrees (reads_of account) store → HasExactly (over own store) range cells)

-- what the last of some writes that puts a record puts: there is none, or those after it are tombstones
abbrev pub ArePutNothing : List Write → Type 0
ArePutNothing writes = (write : Write) → Among write writes → write.rec ≡ None

abbrev pub IsLastPut : List Write → Option Cell → Type 0
IsLastPut writes None = ArePutNothing writes
IsLastPut writes (Some cell) = (before : List Write) × (after : List Write)
    × (writes ≡ before ++ record { key = cell.key; rec = Some cell.rec } ∷ after) × ArePutNothing after

-- the last cell that own writes put in a range
abbrev pub IsLastOwn : Range → List Write → Option Cell → Type 0
IsLastOwn range own None = (key : List ℕ) (rec : Option (List ℕ)) → InRange range key → latest own key ≡ Some rec → rec ≡ None
IsLastOwn range own (Some cell) = InRange range cell.key × (latest own cell.key ≡ Some (Some cell.rec))
    × ((key : List ℕ) (rec : Option (List ℕ)) → InRange range key → IsBelow cell.key key → latest own key ≡ Some rec → rec ≡ None)

-- a tombstone stands, or nothing
abbrev pub PutsNothing : Option (Option (List ℕ)) → Type 0
PutsNothing None = Unit {0}
PutsNothing (Some None) = Unit {0}
PutsNothing (Some (Some rec)) = ⊥
