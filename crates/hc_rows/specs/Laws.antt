-- What follows from the definitions alone: a step on a word changes that word, and no other one of any kind. So no two
-- words have one place, and each place is below the total.
use Rattle.std.specs.Prelude.{◌≡◌, ◌<◌, ℕ, List, length, slice_set}
use Rattle.hc_rows.specs.declared.layout.Layout.{Layout}
use Rattle.hc_rows.specs.Places.{HasPage, HasNumber, HasTid, HasPlace, seat_at, row_at, page_at, map_at, tid_at, log_at, total}
use Rattle.hc_rows.specs.Changes.{AtSeat, AtRow, AtPage, AtMap, AtTid, AtLog}

-- the word of a connection
abbrev pub SeatStepsAreAlone : Type 0
SeatStepsAreAlone = (y : Layout) (words : List ℕ) (conn n : ℕ) → length words ≡ total y → conn < y.seats → (seat_at y conn < total y) × AtSeat y words (slice_set words (seat_at y conn) n) conn n

-- the word of a page
abbrev pub PageStepsAreAlone : Type 0
PageStepsAreAlone = (y : Layout) (words : List ℕ) (p n : ℕ) → length words ≡ total y → HasPage y p → (page_at y p < total y) × AtPage y words (slice_set words (page_at y p) n) p n

-- the word of a logical number
abbrev pub MapStepsAreAlone : Type 0
MapStepsAreAlone = (y : Layout) (words : List ℕ) (l n : ℕ) → length words ≡ total y → HasNumber y l → (map_at y l < total y) × AtMap y words (slice_set words (map_at y l) n) l n

-- the word of a transaction
abbrev pub TransactionStepsAreAlone : Type 0
TransactionStepsAreAlone = (y : Layout) (words : List ℕ) (t n : ℕ) → length words ≡ total y → HasTid y t → (tid_at y t < total y) × AtTid y words (slice_set words (tid_at y t) n) t n

-- the word of a commit number
abbrev pub LogStepsAreAlone : Type 0
LogStepsAreAlone = (y : Layout) (words : List ℕ) (c n : ℕ) → length words ≡ total y → HasPlace y c → (log_at y c < total y) × AtLog y words (slice_set words (log_at y c) n) c n

-- a word of a page's row
abbrev pub RowStepsAreAlone : Type 0
RowStepsAreAlone = (y : Layout) (words : List ℕ) (p word n : ℕ) → length words ≡ total y → HasPage y p → word < 256 → (row_at y p word < total y) × AtRow y words (slice_set words (row_at y p word) n) p word n
