-- Reading: the numbers that words have where a layout puts them.
use Rattle.std.specs.Prelude.{◌≡◌, ◌<◌, Some, nat_lt, ◌==◌, if◌then◌else◌, Option, None, ◌++◌, length, drop, ℕ, zero, suc, ◌+◌, ◌-◌, ◌*◌, ◌/◌, ◌%◌, ◌^◌, List, slice_index}
use Rattle.std.specs.List.{slice_get}
use Rattle.hc_base.specs.declared.page.Older.{Older}
use Rattle.hc_base.specs.Content.{Content, Entry}
use Rattle.hc_base.specs.Layout.{quarter, word, IsPage}

-- of the first word
abbrev pub level_in : List ℕ → ℕ
level_in words = slice_index words 0 / 2 ^ 48 % 2 ^ 8

abbrev pub count_in : List ℕ → ℕ
count_in words = slice_index words 0 / 2 ^ 32 % 2 ^ 16

-- the first word of an entry, from the directory
abbrev pub place_in : List ℕ → ℕ → ℕ
place_in words slot = quarter (slot % 4) (slice_index words (4 + slot / 4))

-- how many words an entry has before its key
abbrev pub entry_head : ℕ → ℕ
entry_head zero = 2
entry_head (suc level) = 1

-- the length of an entry's key, from its first word
abbrev pub key_length : ℕ → ℕ → ℕ
key_length zero word = word / 2 ^ 20 % 2 ^ 12
key_length (suc level) word = word / 2 ^ 16 % 2 ^ 16

-- the length of an entry's record, from its first word
abbrev pub record_length : ℕ → ℕ → ℕ
record_length zero word = word / 2 ^ 8 % 2 ^ 12
record_length (suc level) word = 0

-- how many words an entry has, from its first one
abbrev pub entry_size : ℕ → ℕ → ℕ
entry_size level word = entry_head level + (key_length level word + record_length level word + 7) / 8

-- the top bytes of a word, the others as 0
abbrev pub top_bytes : ℕ → ℕ → ℕ
top_bytes count word = word / 256 ^ (8 - count) * 256 ^ (8 - count)

-- word j of a key whose bytes begin at a word, and 0 after its end
abbrev pub key_word : List ℕ → ℕ → ℕ → ℕ → ℕ
key_word words at len j = if nat_lt (8 * j) len then top_bytes (len - 8 * j) (slice_index words (at + j)) else 0

-- the key's bytes, and maybe others after them, begin at this word
pub record IsKeyAt (words : List ℕ) (at len : ℕ) (bytes : List ℕ) : Type 0 where
  pub len_is : length bytes ≡ len
  pub after : List ℕ
  pub are_bytes : (i : ℕ) → slice_index (bytes ++ after) i < 256
  pub words_are : (j : ℕ) → 8 * j < len → slice_index words (at + j) ≡ word 8 (drop (8 * j) (bytes ++ after))

-- byte k of a word, the first the highest
abbrev pub digit : ℕ → ℕ → ℕ
digit word k = word / 256 ^ (7 - k) % 256

-- the byte at a place of a page
abbrev pub byte_in : List ℕ → ℕ → ℕ
byte_in words at = digit (slice_index words (at / 8)) (at % 8)

-- some content of this level has an entry of this number
abbrev pub HasEntry : List ℕ → ℕ → ℕ → Type 0
HasEntry words level slot = (c : Content) × (entry : Entry) × IsPage words c × (c.level ≡ level) × (slice_get c.entries slot ≡ Some entry)

-- the older version that a word names; page 0 is none
abbrev pub older_in : ℕ → Option Older
older_in word = if word / 2 ^ 32 == 0 then None else Some (record { page = record { 0 = word / 2 ^ 32 }; slot = word / 2 ^ 16 % 2 ^ 16 })
