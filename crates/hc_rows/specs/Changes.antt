-- Changes: what a step on one word does. One record for each kind of word says which answer is another one, and that all
-- others are as they were.
use Rattle.std.specs.Prelude.{◌≡◌, ℕ, List, slice_set}
use Rattle.hc_base.specs.Lookup.{but}
use Rattle.hc_rows.specs.declared.layout.Layout.{Layout}
use Rattle.hc_rows.specs.Regions.{seat_words, page_words, map_words, tid_words, log_words, rows}

-- the word of a connection is n now
pub record AtSeat (y : Layout) (words after : List ℕ) (conn n : ℕ) : Type 0 where
  pub seat : seat_words y after ≡ but (seat_words y words) conn n
  pub page : page_words y after ≡ page_words y words
  pub map : map_words y after ≡ map_words y words
  pub tid : tid_words y after ≡ tid_words y words
  pub log : log_words y after ≡ log_words y words
  pub row : rows y after ≡ rows y words

-- the word of a page
pub record AtPage (y : Layout) (words after : List ℕ) (p n : ℕ) : Type 0 where
  pub seat : seat_words y after ≡ seat_words y words
  pub page : page_words y after ≡ but (page_words y words) p n
  pub map : map_words y after ≡ map_words y words
  pub tid : tid_words y after ≡ tid_words y words
  pub log : log_words y after ≡ log_words y words
  pub row : rows y after ≡ rows y words

-- the word of a logical number
pub record AtMap (y : Layout) (words after : List ℕ) (l n : ℕ) : Type 0 where
  pub seat : seat_words y after ≡ seat_words y words
  pub page : page_words y after ≡ page_words y words
  pub map : map_words y after ≡ but (map_words y words) l n
  pub tid : tid_words y after ≡ tid_words y words
  pub log : log_words y after ≡ log_words y words
  pub row : rows y after ≡ rows y words

-- the word of a transaction
pub record AtTid (y : Layout) (words after : List ℕ) (t n : ℕ) : Type 0 where
  pub seat : seat_words y after ≡ seat_words y words
  pub page : page_words y after ≡ page_words y words
  pub map : map_words y after ≡ map_words y words
  pub tid : tid_words y after ≡ but (tid_words y words) t n
  pub log : log_words y after ≡ log_words y words
  pub row : rows y after ≡ rows y words

-- the word of a commit number
pub record AtLog (y : Layout) (words after : List ℕ) (c n : ℕ) : Type 0 where
  pub seat : seat_words y after ≡ seat_words y words
  pub page : page_words y after ≡ page_words y words
  pub map : map_words y after ≡ map_words y words
  pub tid : tid_words y after ≡ tid_words y words
  pub log : log_words y after ≡ but (log_words y words) c n
  pub row : rows y after ≡ rows y words

-- a word of a page's row
pub record AtRow (y : Layout) (words after : List ℕ) (p word n : ℕ) : Type 0 where
  pub seat : seat_words y after ≡ seat_words y words
  pub page : page_words y after ≡ page_words y words
  pub map : map_words y after ≡ map_words y words
  pub tid : tid_words y after ≡ tid_words y words
  pub log : log_words y after ≡ log_words y words
  pub row : rows y after ≡ but (rows y words) p (slice_set (rows y words p) word n)
