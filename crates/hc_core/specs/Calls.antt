-- What the calls that a desk makes of the machine ask and tell.
use Rattle.std.specs.Prelude.{◌≡◌, ◌≢◌, ℕ, ◌+◌, ◌≤◌, Bool, true, false, Option, None, List, [], ◌∷◌, ◌++◌, length}
use Rattle.hc_core.specs.Keys.{IsShortKey}
use Rattle.hc_range.specs.declared.range.Range.{Range}
use Rattle.hc_range.specs.Ranges.{InRange}
use Rattle.hc_base.specs.Lookup.{Among}
use Rattle.hc_core.specs.Account.{HasWritten, Txn, WhenOpen}
use Rattle.hc_core.specs.Machine.{Answers, IsStep, Machine, after, txns_of, with_entry}
use Rattle.hc_core.specs.Versions.{AreCellsAfter}
use Rattle.hc_core.specs.declared.account.Entry.TheVariants.{Reserved}
use Rattle.hc_core.specs.declared.cells.Cell.{Cell}
use Rattle.hc_core.specs.declared.cells.Write.{Write}
use Rattle.hc_core.specs.declared.event.Event.TheVariants.{Draw, Read}
use Rattle.hc_core.specs.declared.outcome.Outcome.TheVariants.{Cells, Drew}

-- cells are those of a range in the snapshot of a connection's open transaction
abbrev pub AreSnapshotCells : Machine → ℕ → Range → List Cell → Type 0
AreSnapshotCells m i range cells = WhenOpen (txns_of m i) (λ t. AreCellsAfter (txns_of m) t.snapshot range cells)

-- each of the cells has a key that can be stored
abbrev pub HaveShortKeys : List Cell → Type 0
HaveShortKeys cells = (cell : Cell) → Among cell cells → IsShortKey cell.key

-- cells are there in front, and perhaps more
abbrev pub IsExtended : List Cell → List Cell → Type 0
IsExtended before after = (more : List Cell) × (after ≡ before ++ more)

-- a part was read, and its cells were added to those before
abbrev pub HasReadCells : ℕ → List ℕ → Option (List ℕ) → Machine → Machine → List Cell → List Cell → Type 0
HasReadCells i from upto m now cells_before cells_after = (cells : List Cell)
    × Answers m (Read i from upto) (Cells (record { cells = cells }))
    × (now ≡ after m (Read i from upto) (Cells (record { cells = cells })))
    × (cells_after ≡ cells_before ++ cells)

-- the last cell of a range was read and added, or there is none
abbrev pub HasLast : ℕ → Range → Bool → Machine → Machine → List Cell → List Cell → Type 0
HasLast i range true m now cells_before cells_after = (cell : Cell)
    × Answers m (Read i cell.key range.hi) (Cells (record { cells = cell ∷ [] }))
    × (now ≡ after m (Read i cell.key range.hi) (Cells (record { cells = cell ∷ [] })))
    × (cells_after ≡ cells_before ++ cell ∷ []) × InRange range cell.key × (IsShortKey cell.key)
HasLast i range false m now cells_before cells_after =
    Answers m (Read i range.lo range.hi) (Cells (record { cells = [] }))
    × (now ≡ after m (Read i range.lo range.hi) (Cells (record { cells = [] }))) × (cells_after ≡ cells_before)

-- each key can be named in a refusal
abbrev pub AreShortKeys : List Write → Type 0
AreShortKeys writes = (w : Write) → Among w writes → IsShortKey w.key

-- the next id was drawn, by a transaction that has written nothing and has no room yet
pub record HasDrawn (i ord : ℕ) (m now : Machine) : Type 0 where
  pub answers : Answers m (Draw i ord) (Drew (record { 0 = m.drawn + 1 }))
  pub after : now ≡ after m (Draw i ord) (Drew (record { 0 = m.drawn + 1 }))
  pub open_now : WhenOpen (txns_of now i) (λ t. (t.id ≢ 0) × (t.weight ≡ None) × (t.write_set ≡ []))

-- the next id was drawn, and then room was made for writes
abbrev pub HasMadeRoom : ℕ → ℕ → List Write → Machine → Machine → Type 0
HasMadeRoom i ord writes m now = Answers m (Draw i ord) (Drew (record { 0 = m.drawn + 1 }))
    × IsStep (after m (Draw i ord) (Drew (record { 0 = m.drawn + 1 }))) (Reserved i writes)
    × (now ≡ with_entry (after m (Draw i ord) (Drew (record { 0 = m.drawn + 1 }))) i (Reserved i writes))

-- there is room for a write, and its put is enabled
abbrev pub MayPutReserved : List ℕ → Option (List ℕ) → Txn → Type 0
MayPutReserved key rec t = (t.id ≢ 0) × (t.place ≡ 0) × (t.proposed ≡ 0)
    × Among (record { key = key; rec = rec }) t.reserved × (HasWritten t key → ⊥)
