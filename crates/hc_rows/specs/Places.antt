-- Places: where each word of the table is. Connections are counted from 0; pages, logical numbers, transactions and commit
-- numbers from 1.
use Rattle.std.specs.Prelude.{ℕ, ◌+◌, ◌-◌, ◌*◌, ◌<◌, ◌≤◌}
use Rattle.hc_rows.specs.declared.layout.Layout.{Layout}

-- how many of each kind there may be
pub record IsLayout (y : Layout) : Type 0 where
  pub pages : (2 ≤ y.pages) × (y.pages ≤ 262144)
  pub numbers : (2 ≤ y.numbers) × (y.numbers ≤ 1048576)
  pub transactions : (1 ≤ y.transactions) × (y.transactions ≤ 65535)
  pub seats : (1 ≤ y.seats) × (y.seats ≤ 65)

-- the numbers that there are
abbrev pub HasPage : Layout → ℕ → Type 0
HasPage y p = (0 < p) × (p ≤ y.pages)

abbrev pub HasNumber : Layout → ℕ → Type 0
HasNumber y l = (0 < l) × (l ≤ y.numbers)

abbrev pub HasTid : Layout → ℕ → Type 0
HasTid y t = (0 < t) × (t ≤ y.transactions)

-- places of the log are one more than there are transactions, so that there is an empty one always
abbrev pub HasPlace : Layout → ℕ → Type 0
HasPlace y c = (0 < c) × (c ≤ y.transactions + 1)

-- where each kind begins
abbrev pub rows_from : Layout → ℕ
rows_from y = 16 + 16 * y.seats

abbrev pub page_from : Layout → ℕ
page_from y = rows_from y + 256 * y.pages

abbrev pub map_from : Layout → ℕ
map_from y = page_from y + y.pages

abbrev pub tid_from : Layout → ℕ
tid_from y = map_from y + y.numbers

abbrev pub log_from : Layout → ℕ
log_from y = tid_from y + 8 * y.transactions

-- the word of a connection
unfoldable pub seat_at : Layout → ℕ → ℕ
seat_at y conn = 16 + 16 * conn

-- a word of a page's row
unfoldable pub row_at : Layout → ℕ → ℕ → ℕ
row_at y p word = rows_from y + 256 * (p - 1) + word

-- the word of a page
unfoldable pub page_at : Layout → ℕ → ℕ
page_at y p = page_from y + (p - 1)

-- the word of a logical number
unfoldable pub map_at : Layout → ℕ → ℕ
map_at y l = map_from y + (l - 1)

-- the word of a transaction
unfoldable pub tid_at : Layout → ℕ → ℕ
tid_at y t = tid_from y + 8 * (t - 1)

-- the word of a commit number
unfoldable pub log_at : Layout → ℕ → ℕ
log_at y c = log_from y + (c - 1)

-- all words, those of nothing among them
unfoldable pub total : Layout → ℕ
total y = log_from y + y.transactions + 1
