-- Own writes laid over the cells of a snapshot.
use Rattle.std.specs.Prelude.{◌≡◌, ℕ, Bool, false, cond, not, ◌&&◌, filter, Option, Some, None, List, [], ◌∷◌, ◌++◌}
use Rattle.std.specs.Str.{bytes_eq}
use Rattle.hc_range.specs.declared.range.Range.{Range}
use Rattle.hc_range.specs.Order.{is_below}
use Rattle.hc_range.specs.Ranges.{is_under}
use Rattle.hc_core.specs.declared.cells.Cell.{Cell}
use Rattle.hc_core.specs.declared.cells.Write.{Write}
use Rattle.hc_txn.specs.Kept.{Known}

-- whether a key is in a range
abbrev pub holds : Range → List ℕ → Bool
holds range key = not (is_below key range.lo) && is_under key range.hi

-- the own writes that stand, in the order of the keys
abbrev pub with_standing : List ℕ → Option (Option (List ℕ)) → List Write → List Write
with_standing key None rest = rest
with_standing key (Some rec) rest = record { key = key; rec = rec } ∷ rest

abbrev pub standing : List Known → List Write
standing [] = []
standing (k ∷ ks) = with_standing k.key k.now (standing ks)

-- and those of them that are in a range
abbrev pub standing_in : Range → List Known → List Write
standing_in range ks = standing (filter (λ k. holds range k.key) ks)

-- the cells below a key, and those from it on
abbrev pub cells_below : List ℕ → List Cell → List Cell
cells_below key [] = []
cells_below key (cell ∷ cells) = cond (is_below cell.key key) (cell ∷ cells_below key cells) []

abbrev pub cells_from : List ℕ → List Cell → List Cell
cells_from key [] = []
cells_from key (cell ∷ cells) = cond (is_below cell.key key) (cells_from key cells) (cell ∷ cells)

-- without the first cell, if it has the key
abbrev pub cells_past : List ℕ → List Cell → List Cell
cells_past key [] = []
cells_past key (cell ∷ cells) = cond (bytes_eq cell.key key) cells (cell ∷ cells)

-- the cell that a write puts, if it puts a record
abbrev pub cells_put : List ℕ → Option (List ℕ) → List Cell
cells_put key None = []
cells_put key (Some rec) = record { key = key; rec = rec } ∷ []

abbrev pub cell_of : Write → List Cell
cell_of write = cells_put write.key write.rec

-- cells in order with writes in order over them
abbrev pub laid : List Write → List Cell → List Cell
laid [] cells = cells
laid (write ∷ writes) cells = cells_below write.key cells ++ (cell_of write ++ laid writes (cells_past write.key (cells_from write.key cells)))

-- whether the first cell is below a key, or has it
abbrev pub front_below : List ℕ → List Cell → Bool
front_below key [] = false
front_below key (cell ∷ cells) = is_below cell.key key

abbrev pub front_at : List ℕ → List Cell → Bool
front_at key [] = false
front_at key (cell ∷ cells) = bytes_eq cell.key key

-- the first cell is moved to the end of others
abbrev pub HasMovedFront : List Cell → List Cell → List Cell → List Cell → Type 0
HasMovedFront [] after out_before out_after = (after ≡ []) × (out_after ≡ out_before)
HasMovedFront (cell ∷ cells) after out_before out_after = (after ≡ cells) × (out_after ≡ out_before ++ cell ∷ [])
