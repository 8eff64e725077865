-- Layout: the 256 words that stand for a content. Bytes are in words from the high end, filled up with 0.
--
--   word 0   kind (8 bits: 1 leaf, 2 inner), level (8), number of entries (16), used words (16), flags (16: bit 0, no high fence)
--   word 1   own number (32), right number or 0 (32)
--   word 2   low fence: first word (16), length (16); high fence: the same, or 0 where there is none
--   word 3   the mark
--   from 4   the directory: the first word of each entry, in order of keys, four to a word
--   then     the low fence (of a leaf: that of an inner page is its first entry's key), and the high fence
--   then     the entries in order of keys, with no gap, and 0 up to the end
use Rattle.std.specs.Prelude.{◌≡◌, ◌≤◌, ℕ, zero, suc, ◌+◌, ◌-◌, ◌*◌, ◌/◌, ◌%◌, ◌^◌, List, [], ◌∷◌, ◌++◌, length, drop, replicate, slice_index, Option, Some, None}
use Rattle.hc_base.specs.declared.numbers.Logical.{Logical}
use Rattle.hc_base.specs.declared.page.Older.{Older}
use Rattle.hc_base.specs.Content.{Content, Entry, Held, Version, Child, IsContent}

-- the first k bytes as a number, the first the highest, and 0 for those that are not there
abbrev pub word : ℕ → List ℕ → ℕ
word zero bytes = 0
word (suc k) bytes = slice_index bytes 0 * 256 ^ k + word k (drop 1 bytes)

-- bytes in words of eight; the first number bounds their count
abbrev pub words_within : ℕ → List ℕ → List ℕ
words_within zero bytes = []
words_within (suc n) [] = []
words_within (suc n) (b ∷ bytes) = word 8 (b ∷ bytes) ∷ words_within n (drop 7 bytes)

abbrev pub words_of : List ℕ → List ℕ
words_of bytes = words_within (length bytes) bytes

-- the bytes of a record, none for a tombstone
abbrev pub record_bytes : Option (List ℕ) → List ℕ
record_bytes None = []
record_bytes (Some bytes) = bytes

-- bit 0 says that it is a tombstone
abbrev pub record_flags : Option (List ℕ) → ℕ
record_flags None = 1
record_flags (Some bytes) = 0

-- page (32), slot (16), 0 (16); 0 where there is no older version
abbrev pub older_word : Option Older → ℕ
older_word None = 0
older_word (Some older) = older.page.0 * 2 ^ 32 + older.slot * 2 ^ 16

-- An entry of a leaf: transaction id (32), length of the key (12), length of the record (12), flags (8); the older
-- version; then key and record, filled up together. Of an inner page: number of the child (32), length of the key (16),
-- 0 (16); then the key.
abbrev pub held_words : List ℕ → Held → List ℕ
held_words key (Version tid rec older) =
    (tid.0 * 2 ^ 32 + length key * 2 ^ 20 + length (record_bytes rec) * 2 ^ 8 + record_flags rec) ∷ older_word older
    ∷ words_of (key ++ record_bytes rec)
held_words key (Child number) = (number.0 * 2 ^ 32 + length key * 2 ^ 16) ∷ words_of key

abbrev pub entry_words : Entry → List ℕ
entry_words entry = held_words entry.key entry.held

-- the words of all entries
abbrev pub all_words : List Entry → List ℕ
all_words [] = []
all_words (entry ∷ entries) = entry_words entry ++ all_words entries

-- the first word of each entry, where the first one is at this place
abbrev pub places : ℕ → List Entry → List ℕ
places at [] = []
places at (entry ∷ entries) = at ∷ places (at + length (entry_words entry)) entries

-- four numbers of 16 bits to a word, the first the highest, filled up with 0
abbrev pub quarters : List ℕ → List ℕ
quarters [] = []
quarters (a ∷ []) = (a * 2 ^ 48) ∷ []
quarters (a ∷ b ∷ []) = (a * 2 ^ 48 + b * 2 ^ 32) ∷ []
quarters (a ∷ b ∷ c ∷ []) = (a * 2 ^ 48 + b * 2 ^ 32 + c * 2 ^ 16) ∷ []
quarters (a ∷ b ∷ c ∷ d ∷ rest) = (a * 2 ^ 48 + b * 2 ^ 32 + c * 2 ^ 16 + d) ∷ quarters rest

-- number k of the four in a word
abbrev pub quarter : ℕ → ℕ → ℕ
quarter zero w = w / 2 ^ 48
quarter (suc zero) w = w / 2 ^ 32 % 2 ^ 16
quarter (suc (suc zero)) w = w / 2 ^ 16 % 2 ^ 16
quarter (suc (suc (suc k))) w = w % 2 ^ 16

-- how many words the directory of so many entries has
abbrev pub directory_size : ℕ → ℕ
directory_size n = (n + 3) / 4

abbrev pub fence_words : Option (List ℕ) → List ℕ
fence_words None = []
fence_words (Some fence) = words_of fence

-- the fences that are written out: an inner page has its low one as its first key
abbrev pub low_words : ℕ → List ℕ → List ℕ
low_words zero low = words_of low
low_words (suc level) low = []

-- where the directory ends
abbrev pub fences_at : Content → ℕ
fences_at c = 4 + directory_size (length c.entries)

abbrev pub high_at : Content → ℕ
high_at c = fences_at c + length (low_words c.level c.low)

abbrev pub entries_at : Content → ℕ
entries_at c = high_at c + length (fence_words c.high)

-- the first word of the low fence: of an inner page, that of the first entry's key
abbrev pub low_at : ℕ → Content → ℕ
low_at zero c = fences_at c
low_at (suc level) c = entries_at c + 1

abbrev pub kind_of : ℕ → ℕ
kind_of zero = 1
kind_of (suc level) = 2

-- first word and length of the high fence
abbrev pub high_word : Content → Option (List ℕ) → ℕ
high_word c None = 0
high_word c (Some high) = high_at c * 2 ^ 16 + length high

abbrev pub no_high_flag : Option (List ℕ) → ℕ
no_high_flag None = 1
no_high_flag (Some high) = 0

-- the right number, or 0
abbrev pub right_number : Option Logical → ℕ
right_number None = 0
right_number (Some number) = number.0

abbrev pub used_words : Content → ℕ
used_words c = entries_at c + length (all_words c.entries)

abbrev pub head_words : Content → List ℕ
head_words c =
    (kind_of c.level * 2 ^ 56 + c.level * 2 ^ 48 + length c.entries * 2 ^ 32 + used_words c * 2 ^ 16 + no_high_flag c.high)
    ∷ (c.own.0 * 2 ^ 32 + right_number c.right)
    ∷ (low_at c.level c * 2 ^ 48 + length c.low * 2 ^ 32 + high_word c c.high)
    ∷ c.mark ∷ []

-- the first word of each entry
abbrev pub directory : Content → List ℕ
directory c = quarters (places (entries_at c) c.entries)

-- all 256 words
abbrev pub layout : Content → List ℕ
layout c =
    head_words c ++ (directory c ++ (low_words c.level c.low ++ (fence_words c.high ++ (all_words c.entries ++ replicate (256 - used_words c) 0))))

-- the words stand for this content, which fits them
pub record IsPage (words : List ℕ) (c : Content) : Type 0 where
  pub content : IsContent c
  pub fits : used_words c ≤ 256
  pub is : words ≡ layout c

-- the words stand for some content
abbrev pub HasContent : List ℕ → Type 0
HasContent words = (c : Content) × IsPage words c
