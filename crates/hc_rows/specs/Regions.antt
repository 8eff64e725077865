-- Regions: the words of each kind as a function of the number that they belong to. Past the kind's numbers it is 0, and
-- the row is empty. So functions of two tables are equal where the words are, and a step on a word changes one answer.
use Rattle.std.specs.Prelude.{ℕ, ◌+◌, List, [], cond, ltb, leb, ◌&&◌, take, drop, slice_index}
use Rattle.hc_rows.specs.declared.layout.Layout.{Layout}
use Rattle.hc_rows.specs.Places.{seat_at, row_at, page_at, map_at, tid_at, log_at}

-- the words at the places of the numbers from one up to, and without, another
unfoldable pub words_at : (ℕ → ℕ) → ℕ → ℕ → List ℕ → ℕ → ℕ
words_at place from upto words n = cond (leb from n && ltb n upto) (slice_index words (place n)) 0

abbrev pub seat_words : Layout → List ℕ → ℕ → ℕ
seat_words y words = words_at (seat_at y) 0 y.seats words

abbrev pub page_words : Layout → List ℕ → ℕ → ℕ
page_words y words = words_at (page_at y) 1 (y.pages + 1) words

abbrev pub map_words : Layout → List ℕ → ℕ → ℕ
map_words y words = words_at (map_at y) 1 (y.numbers + 1) words

abbrev pub tid_words : Layout → List ℕ → ℕ → ℕ
tid_words y words = words_at (tid_at y) 1 (y.transactions + 1) words

abbrev pub log_words : Layout → List ℕ → ℕ → ℕ
log_words y words = words_at (log_at y) 1 (y.transactions + 2) words

-- the 256 words of a page's row
unfoldable pub rows : Layout → List ℕ → ℕ → List ℕ
rows y words p = cond (leb 1 p && ltb p (y.pages + 1)) (take 256 (drop (row_at y p 0) words)) []
