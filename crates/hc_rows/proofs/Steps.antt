-- A step on one word changes the answer of one number, and leaves the other kinds of words.
use Rattle.std.proofs.Common.{get_or, ◌^◌, ◌≡◌, ◌≢◌, ℕ, ◌+◌, ◌-◌, ◌<◌, ◌≤◌, List, [], length, take, drop, set, cond, ltb, leb, ◌&&◌, true, false, refl, ap, ◌∙◌, inl, inr, ◌⊎◌, arith}
use Rattle.std.proofs.lemmas.Bool.{cases_Bool, cases_lt}
use Rattle.std.proofs.lemmas.Bool.Decides.{nat_tests}
use Rattle.std.proofs.lemmas.List.{get_or-set_same, get_or-set_other, drop-set-lt, drop-set-add, take-set-le}
use Rattle.std.proofs.Math.Seq.{take-set-lt}
use Rattle.hc_base.specs.Lookup.{but}
use Rattle.hc_base.proofs.Lookups.{but-is}
use Rattle.hc_rows.specs.declared.layout.Layout.{Layout}
use Rattle.hc_rows.specs.Places.{IsLayout, HasPage, HasNumber, HasTid, HasPlace, seat_at, row_at, page_at, map_at, tid_at, log_at, total}
use Rattle.hc_rows.specs.Regions.{words_at, rows}
use Rattle.hc_rows.specs.Changes.{AtSeat, AtPage, AtMap, AtTid, AtLog, AtRow}

-- a number is one of those, or it is not
pub in_range : (from upto n : ℕ) → (((leb from n && ltb n upto) ≡ true) × (from ≤ n) × (n < upto)) ⊎ ((leb from n && ltb n upto) ≡ false)
in_range from upto n =
    elim (cases_Bool (leb from n && ltb n upto)) [
      | inl is ↦ inl (is, grind (arith, nat_tests), grind (arith, nat_tests))
      | inr is ↦ inr is
    ]

-- the word of a number that there is
pub words_are : (place : ℕ → ℕ) (from upto : ℕ) (words : List ℕ) (n : ℕ) → from ≤ n → n < upto → words_at place from upto words n ≡ get_or words (place n) 0
unfolding words_at
words_are place from upto words n after before =
    elim (in_range from upto n) [
      | inl is ↦ rw is.0 refl
      | inr is ↦ absurd (grind (arith, nat_tests))
    ]

-- past the last number it is 0
pub words_past : (place : ℕ → ℕ) (from upto : ℕ) (words : List ℕ) (n : ℕ) → (leb from n && ltb n upto) ≡ false → words_at place from upto words n ≡ 0
unfolding words_at
words_past place from upto words n is = rw is refl

-- the words of a kind none of which is changed
words_else : (place : ℕ → ℕ) (from upto : ℕ) (words : List ℕ) (i n : ℕ) → ((k : ℕ) → from ≤ k → k < upto → place k ≢ i) → words_at place from upto (set words i n) ≡ words_at place from upto words
unfolding words_at
words_else place from upto words i n other = λ t k. each k t
  where
    each : (k : ℕ) → words_at place from upto (set words i n) k ≡ words_at place from upto words k
    each k =
        elim (in_range from upto k) [
          | inl is ↦ ap (λ w. cond (leb from k && ltb k upto) w 0) (get_or-set_other words i (place k) n 0 (other k is.1 is.2))
          | inr is ↦ rw is refl
        ]

-- the words of a kind one of which is changed
words_here : (place : ℕ → ℕ) (from upto : ℕ) (words : List ℕ) (i n : ℕ) → from ≤ i → i < upto → place i < length words → ((k : ℕ) → from ≤ k → k < upto → i ≢ k → place k ≢ place i)
    → words_at place from upto (set words (place i) n) ≡ but (words_at place from upto words) i n
unfolding words_at
words_here place from upto words i n after before within other =
    λ t k. but-is (words_at place from upto words) (words_at place from upto (set words (place i) n)) i n here elsewhere k t
  where
    here : words_at place from upto (set words (place i) n) i ≡ n
    here =
        elim (in_range from upto i) [
          | inl is ↦ rw is.0 (get_or-set_same words (place i) n 0 within)
          | inr is ↦ absurd (grind (arith, nat_tests))
        ]

    elsewhere : (k : ℕ) → i ≢ k → words_at place from upto (set words (place i) n) k ≡ words_at place from upto words k
    elsewhere k differ =
        elim (in_range from upto k) [
          | inl is ↦ ap (λ w. cond (leb from k && ltb k upto) w 0) (get_or-set_other words (place i) (place k) n 0 (other k is.1 is.2 differ))
          | inr is ↦ rw is refl
        ]

-- a row that a changed word is not of
row_else : (words : List ℕ) (a i n : ℕ) → (i < a) ⊎ (a + 256 ≤ i) → take 256 (drop a (set words i n)) ≡ take 256 (drop a words)
row_else words a i n (inl before) = ap (λ ws. take 256 ws) (drop-set-lt a words i n before)
row_else words a i n (inr after) =
    ap (λ k. take 256 (drop a (set words k n))) (let z : i ≡ a + (i - a) = omega arith in z)
    ∙ (ap (λ ws. take 256 ws) (drop-set-add a words (i - a) n) ∙ take-set-le 256 (drop a words) (i - a) n (omega arith))

rows_else : (y : Layout) (words : List ℕ) (i n : ℕ) → ((p : ℕ) → 1 ≤ p → p < y.pages + 1 → (i < row_at y p 0) ⊎ (row_at y p 0 + 256 ≤ i)) → rows y (set words i n) ≡ rows y words
unfolding rows
rows_else y words i n other = λ t p. each p t
  where
    each : (p : ℕ) → rows y (set words i n) p ≡ rows y words p
    each p =
        elim (in_range 1 (y.pages + 1) p) [
          | inl is ↦ ap (λ ws. cond (leb 1 p && ltb p (y.pages + 1)) ws []) (row_else words (row_at y p 0) i n (other p is.1 is.2))
          | inr is ↦ rw is refl
        ]

rows_here : (y : Layout) (words : List ℕ) (p word n : ℕ) → 1 ≤ p → p < y.pages + 1 → word < 256
    → ((k : ℕ) → 1 ≤ k → k < y.pages + 1 → p ≢ k → (row_at y p 0 + word < row_at y k 0) ⊎ (row_at y k 0 + 256 ≤ row_at y p 0 + word))
    → rows y (set words (row_at y p 0 + word) n) ≡ but (rows y words) p (set (rows y words p) word n)
unfolding rows
rows_here y words p word n after before within other = λ t k. but-is (rows y words) (rows y (set words (row_at y p 0 + word) n)) p (set (rows y words p) word n) here elsewhere k t
  where
    a : ℕ
    a = row_at y p 0

    here : rows y (set words (row_at y p 0 + word) n) p ≡ set (rows y words p) word n
    here =
        elim (in_range 1 (y.pages + 1) p) [
          | inl is ↦ rw is.0 (ap (λ ws. take 256 ws) (drop-set-add (row_at y p 0) words word n) ∙ take-set-lt 256 (drop (row_at y p 0) words) word n within)
          | inr is ↦ absurd (grind (arith, nat_tests))
        ]

    elsewhere : (k : ℕ) → p ≢ k → rows y (set words (row_at y p 0 + word) n) k ≡ rows y words k
    elsewhere k differ =
        elim (in_range 1 (y.pages + 1) k) [
          | inl is ↦ ap (λ ws. cond (leb 1 k && ltb k (y.pages + 1)) ws []) (row_else words (row_at y k 0) (row_at y p 0 + word) n (other k is.1 is.2 differ))
          | inr is ↦ rw is refl
        ]

-- a step on the word of a connection
pub at_seat : (y : Layout) (words : List ℕ) (conn n : ℕ) → length words ≡ total y → conn < y.seats → AtSeat y words (set words (seat_at y conn) n) conn n
unfolding seat_at row_at page_at map_at tid_at log_at total
at_seat y words conn n sized there = record {
  seat = words_here (seat_at y) 0 y.seats words conn n (omega arith) (omega (arith, there)) (omega (arith, sized, there)) (λ k after before differ same. differ (omega (arith, there, after)));
  page = words_else (page_at y) 1 (y.pages + 1) words (seat_at y conn) n (λ k after before same. omega (arith, there));
  map = words_else (map_at y) 1 (y.numbers + 1) words (seat_at y conn) n (λ k after before same. omega (arith, there));
  tid = words_else (tid_at y) 1 (y.transactions + 1) words (seat_at y conn) n (λ k after before same. omega (arith, there));
  log = words_else (log_at y) 1 (y.transactions + 2) words (seat_at y conn) n (λ k after before same. omega (arith, there));
  row = rows_else y words (seat_at y conn) n (λ k after before. inl (omega (arith, there)));
}

-- a step on the word of a page
pub at_page : (y : Layout) (words : List ℕ) (p n : ℕ) → length words ≡ total y → HasPage y p → AtPage y words (set words (page_at y p) n) p n
unfolding seat_at row_at page_at map_at tid_at log_at total
at_page y words p n sized there = record {
  seat = words_else (seat_at y) 0 y.seats words (page_at y p) n (λ k after before same. omega (arith, there));
  page = words_here (page_at y) 1 (y.pages + 1) words p n (omega arith) (omega (arith, there)) (omega (arith, sized, there)) (λ k after before differ same. differ (omega (arith, there, after)));
  map = words_else (map_at y) 1 (y.numbers + 1) words (page_at y p) n (λ k after before same. omega (arith, there));
  tid = words_else (tid_at y) 1 (y.transactions + 1) words (page_at y p) n (λ k after before same. omega (arith, there));
  log = words_else (log_at y) 1 (y.transactions + 2) words (page_at y p) n (λ k after before same. omega (arith, there));
  row = rows_else y words (page_at y p) n (λ k after before. inr (omega (arith, there)));
}

-- a step on the word of a logical number
pub at_map : (y : Layout) (words : List ℕ) (l n : ℕ) → length words ≡ total y → HasNumber y l → AtMap y words (set words (map_at y l) n) l n
unfolding seat_at row_at page_at map_at tid_at log_at total
at_map y words l n sized there = record {
  seat = words_else (seat_at y) 0 y.seats words (map_at y l) n (λ k after before same. omega (arith, there));
  page = words_else (page_at y) 1 (y.pages + 1) words (map_at y l) n (λ k after before same. omega (arith, there));
  map = words_here (map_at y) 1 (y.numbers + 1) words l n (omega arith) (omega (arith, there)) (omega (arith, sized, there)) (λ k after before differ same. differ (omega (arith, there, after)));
  tid = words_else (tid_at y) 1 (y.transactions + 1) words (map_at y l) n (λ k after before same. omega (arith, there));
  log = words_else (log_at y) 1 (y.transactions + 2) words (map_at y l) n (λ k after before same. omega (arith, there));
  row = rows_else y words (map_at y l) n (λ k after before. inr (omega (arith, there)));
}

-- a step on the word of a transaction
pub at_tid : (y : Layout) (words : List ℕ) (t n : ℕ) → length words ≡ total y → HasTid y t → AtTid y words (set words (tid_at y t) n) t n
unfolding seat_at row_at page_at map_at tid_at log_at total
at_tid y words t n sized there = record {
  seat = words_else (seat_at y) 0 y.seats words (tid_at y t) n (λ k after before same. omega (arith, there));
  page = words_else (page_at y) 1 (y.pages + 1) words (tid_at y t) n (λ k after before same. omega (arith, there));
  map = words_else (map_at y) 1 (y.numbers + 1) words (tid_at y t) n (λ k after before same. omega (arith, there));
  tid = words_here (tid_at y) 1 (y.transactions + 1) words t n (omega arith) (omega (arith, there)) (omega (arith, sized, there)) (λ k after before differ same. differ (omega (arith, there, after)));
  log = words_else (log_at y) 1 (y.transactions + 2) words (tid_at y t) n (λ k after before same. omega (arith, there));
  row = rows_else y words (tid_at y t) n (λ k after before. inr (omega (arith, there)));
}

-- a step on the word of a commit number
pub at_log : (y : Layout) (words : List ℕ) (c n : ℕ) → length words ≡ total y → HasPlace y c → AtLog y words (set words (log_at y c) n) c n
unfolding seat_at row_at page_at map_at tid_at log_at total
at_log y words c n sized there = record {
  seat = words_else (seat_at y) 0 y.seats words (log_at y c) n (λ k after before same. omega (arith, there));
  page = words_else (page_at y) 1 (y.pages + 1) words (log_at y c) n (λ k after before same. omega (arith, there));
  map = words_else (map_at y) 1 (y.numbers + 1) words (log_at y c) n (λ k after before same. omega (arith, there));
  tid = words_else (tid_at y) 1 (y.transactions + 1) words (log_at y c) n (λ k after before same. omega (arith, there));
  log = words_here (log_at y) 1 (y.transactions + 2) words c n (omega arith) (omega (arith, there)) (omega (arith, sized, there)) (λ k after before differ same. differ (omega (arith, there, after)));
  row = rows_else y words (log_at y c) n (λ k after before. inr (omega (arith, there)));
}

-- a row before another page's, or after it
apart : (y : Layout) (p k word : ℕ) → 1 ≤ p → 1 ≤ k → p ≢ k → word < 256 → (row_at y p 0 + word < row_at y k 0) ⊎ (row_at y k 0 + 256 ≤ row_at y p 0 + word)
unfolding row_at
apart y p k word some also differ within =
    elim (cases_lt p k) [
      | inl less ↦ inl (omega arith)
      | inr more ↦ inr (omega arith)
    ]

-- a step on a word of a page's row
pub at_row : (y : Layout) (words : List ℕ) (p word n : ℕ) → length words ≡ total y → HasPage y p → word < 256 → AtRow y words (set words (row_at y p word) n) p word n
unfolding seat_at row_at page_at map_at tid_at log_at total
at_row y words p word n sized there within = record {
  seat = words_else (seat_at y) 0 y.seats words (row_at y p word) n (λ k after before same. omega (arith, there, within));
  page = words_else (page_at y) 1 (y.pages + 1) words (row_at y p word) n (λ k after before same. omega (arith, there, within));
  map = words_else (map_at y) 1 (y.numbers + 1) words (row_at y p word) n (λ k after before same. omega (arith, there, within));
  tid = words_else (tid_at y) 1 (y.transactions + 1) words (row_at y p word) n (λ k after before same. omega (arith, there, within));
  log = words_else (log_at y) 1 (y.transactions + 2) words (row_at y p word) n (λ k after before same. omega (arith, there, within));
  row =
      ap (λ i. rows y (set words i n)) (let z : row_at y p word ≡ row_at y p 0 + word = omega arith in z)
      ∙ rows_here y words p word n there.0 (omega (arith, there)) within (λ k after before differ. apart y p k word there.0 after differ within);
}

-- each place is below the total
pub seat_below : (y : Layout) (conn : ℕ) → conn < y.seats → seat_at y conn < total y
unfolding seat_at total
seat_below y conn there = omega arith

pub page_below : (y : Layout) (p : ℕ) → HasPage y p → page_at y p < total y
unfolding page_at total
page_below y p there = omega (arith, there)

pub map_below : (y : Layout) (l : ℕ) → HasNumber y l → map_at y l < total y
unfolding map_at total
map_below y l there = omega (arith, there)

pub tid_below : (y : Layout) (t : ℕ) → HasTid y t → tid_at y t < total y
unfolding tid_at total
tid_below y t there = omega (arith, there)

pub log_below : (y : Layout) (c : ℕ) → HasPlace y c → log_at y c < total y
unfolding log_at total
log_below y c there = omega (arith, there)

pub row_below : (y : Layout) (p word : ℕ) → HasPage y p → word < 256 → row_at y p word < total y
unfolding row_at total
row_below y p word there within = omega (arith, there)

-- there are fewer than 2^32 words
pub total_small : (y : Layout) → IsLayout y → total y < 2 ^ 32
unfolding total
total_small y layout = omega (arith, layout.pages, layout.numbers, layout.transactions, layout.seats)

-- and some
pub total_some : (y : Layout) → 0 < total y
unfolding total
total_some y = omega arith
