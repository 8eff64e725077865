-- Start: the words of a new table. Pages 1 and 2 have the logical numbers 1 and 2, an empty leaf and an inner page over
-- it; all else is free.
use Rattle.std.specs.Prelude.{◌≡◌, ℕ, List, [], ◌∷◌, length, None}
use Rattle.hc_base.specs.Content.{Content, Child}
use Rattle.hc_base.specs.Layout.{IsPage}
use Rattle.hc_base.specs.Lookup.{but}
use Rattle.hc_base.specs.Words.{page_word, map_word}
use Rattle.hc_base.specs.declared.page_word.PageWord.TheVariants as page
use Rattle.hc_base.specs.declared.map_word.MapWord.TheVariants as map
use Rattle.hc_rows.specs.declared.layout.Layout.{Layout}
use Rattle.hc_rows.specs.Places.{IsLayout, total}
use Rattle.hc_rows.specs.Regions.{seat_words, page_words, map_words, tid_words, log_words, rows}

-- the word of a page that has this logical number, and of a number that names this page
abbrev pub mapped : ℕ → ℕ
mapped number = page_word (page.Mapped (record { 0 = number }))

abbrev pub names : ℕ → ℕ
names p = map_word (map.Page (record { 0 = p }))

-- a leaf without fences or entries
abbrev pub first_leaf : Content
first_leaf = record { level = 0; own = record { 0 = 1 }; right = None; low = []; high = None; mark = 0; entries = [] }

-- an inner page of level 1, whose one entry names the leaf for all keys
abbrev pub first_inner : Content
first_inner = record { level = 1; own = record { 0 = 2 }; right = None; low = []; high = None; mark = 0; entries = (record { key = []; held = Child (record { 0 = 1 }) }) ∷ [] }

-- no connection, transaction or commit number has a word other than 0
pub record HasNoOther (y : Layout) (words : List ℕ) : Type 0 where
  pub seat : seat_words y words ≡ (λ conn. 0)
  pub tid : tid_words y words ≡ (λ t. 0)
  pub log : log_words y words ≡ (λ c. 0)

pub record IsFirst (y : Layout) (words : List ℕ) : Type 0 where
  pub layout : IsLayout y
  pub sized : length words ≡ total y
  pub pages : page_words y words ≡ but (but (λ p. 0) 1 (mapped 1)) 2 (mapped 2)
  pub maps : map_words y words ≡ but (but (λ l. 0) 1 (names 1)) 2 (names 2)
  pub others : HasNoOther y words
  pub leaf : IsPage (rows y words 1) first_leaf
  pub inner : IsPage (rows y words 2) first_inner

-- the words of connections, transactions and commit numbers are as they were
pub record LeavesOthers (y : Layout) (words after : List ℕ) : Type 0 where
  pub seat : seat_words y after ≡ seat_words y words
  pub tid : tid_words y after ≡ tid_words y words
  pub log : log_words y after ≡ log_words y words

-- A row was written: no other word is changed.
pub record IsLaid (y : Layout) (words after : List ℕ) (p : ℕ) (laid : List ℕ) : Type 0 where
  pub sized : length after ≡ length words
  pub page : page_words y after ≡ page_words y words
  pub map : map_words y after ≡ map_words y words
  pub others : LeavesOthers y words after
  pub row : rows y after ≡ but (rows y words) p laid

-- The first two pages have their numbers now, and nothing else is changed.
pub record IsNamed (y : Layout) (words after : List ℕ) : Type 0 where
  pub sized : length after ≡ length words
  pub page : page_words y after ≡ but (but (page_words y words) 1 (mapped 1)) 2 (mapped 2)
  pub map : map_words y after ≡ but (but (map_words y words) 1 (names 1)) 2 (names 2)
  pub others : LeavesOthers y words after
  pub row : rows y after ≡ rows y words

-- the words of a table in which nothing was written
pub record IsBlank (y : Layout) (words : List ℕ) : Type 0 where
  pub sized : length words ≡ total y
  pub page : page_words y words ≡ (λ p. 0)
  pub map : map_words y words ≡ (λ l. 0)
  pub others : HasNoOther y words

-- the same with the contents of the first two pages
pub record IsWritten (y : Layout) (words : List ℕ) : Type 0 where
  pub blank : IsBlank y words
  pub leaf : IsPage (rows y words 1) first_leaf
  pub inner : IsPage (rows y words 2) first_inner
