-- The cells of all keys after the first entries of the log, which are kept in the order of their keys.
use Rattle.std.specs.Prelude.{◌≡◌, ℕ, ◌≤◌, Bool, List, [], ◌∷◌, None, drop, filter, length, take}
use Rattle.hc_range.specs.declared.range.Range.{Range}
use Rattle.hc_core.specs.Commits.{cells_of, is_in, set_cell}
use Rattle.hc_core.specs.declared.base.Base.{Base}
use Rattle.hc_core.specs.declared.cells.Cell.{Cell}
use Rattle.hc_core.specs.declared.cells.Write.{Write}
use Rattle.hc_core.specs.declared.commit.Commit.{Commit}

-- the range of all keys
abbrev pub all_keys : Range
all_keys = record { lo = []; hi = None }

-- cells with each of the writes set, the first one first
abbrev pub with_all : List Cell → List Write → List Cell
with_all cells [] = cells
with_all cells (w ∷ ws) = with_all (set_cell w.key w.rec cells) ws

-- and with those of entries
abbrev pub after_all : List Cell → List Commit → List Cell
after_all cells [] = cells
after_all cells (commit ∷ commits) = after_all (with_all cells commit.writes.items) commits

-- those of the cells that have a key of the range
abbrev pub cells_within : Range → List Cell → List Cell
cells_within range cells = filter (λ cell. is_in range cell.key) cells

-- what is kept are the cells after as many entries of the log as are counted
pub record IsBased (base : Base) (log : List Commit) : Type 0 where
  pub within : base.count ≤ length log
  pub cells : base.cells ≡ after_all [] (take base.count log)

-- cells of a range after the first entries of the log, found from those after fewer of them
abbrev pub AreCellsFrom : Range → List Commit → ℕ → List Cell → Type 0
AreCellsFrom range log snapshot cells = (count : ℕ) × (count ≤ snapshot)
    × (cells ≡ cells_of range (cells_within range (after_all [] (take count log))) (drop count (take snapshot log)))
