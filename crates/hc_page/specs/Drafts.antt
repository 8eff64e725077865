-- Drafts: a page that is being written, entry after entry.
use Rattle.std.specs.Prelude.{◌≡◌, ◌<◌, ◌≤◌, ℕ, zero, suc, ◌+◌, ◌*◌, ◌^◌, List, [], ◌++◌, length, slice_index, Option, Some, None}
use Rattle.std.specs.List.{slice_get}
use Rattle.std.specs.Option.{option_copied}
use Rattle.hc_base.specs.declared.numbers.Logical.{Logical}
use Rattle.hc_base.specs.Content.{Content, Entry, Version, Child, IsContent}
use Rattle.hc_base.specs.Layout.{all_words, entry_words, places, directory_size, low_words, fence_words, kind_of, no_high_flag, right_number, IsPage}
use Rattle.hc_page.specs.declared.writer.Draft.{Draft}
use Rattle.hc_page.specs.declared.writer.Head.{Head}
use Rattle.hc_page.specs.declared.writer.NewEntry.{NewEntry}

-- the words of the fences that are written out
abbrev pub fences : Content → List ℕ
fences c = low_words c.level c.low ++ fence_words c.high

-- where the fences begin, on a page of so many entries, and where the entries do
abbrev pub fences_from : ℕ → ℕ
fences_from total = 4 + directory_size total

abbrev pub entries_from : ℕ → Content → ℕ
entries_from total c = fences_from total + length (fences c)

-- the first word of the low fence: where the fences begin, or the first key of an inner page
abbrev pub low_from : ℕ → ℕ → ℕ → ℕ
low_from zero fences entries = fences
low_from (suc level) fences entries = entries + 1

-- the first three words, without the number of used ones
abbrev pub first_of : ℕ → Content → ℕ
first_of total c = kind_of c.level * 2 ^ 56 + c.level * 2 ^ 48 + total * 2 ^ 32 + no_high_flag c.high

abbrev pub second_of : Content → ℕ
second_of c = c.own.0 * 2 ^ 32 + right_number c.right

abbrev pub high_part : ℕ → Option (List ℕ) → ℕ
high_part at None = 0
high_part at (Some high) = at * 2 ^ 16 + length high

abbrev pub third_of : ℕ → Content → ℕ
third_of total c =
    low_from c.level (fences_from total) (entries_from total c) * 2 ^ 48 + length c.low * 2 ^ 32 + high_part (fences_from total + length (low_words c.level c.low)) c.high

-- word j of a directory with these places so far, and 0 for those to come
abbrev pub four : List ℕ → ℕ → ℕ
four ps j = slice_index ps (4 * j) * 2 ^ 48 + slice_index ps (4 * j + 1) * 2 ^ 32 + slice_index ps (4 * j + 2) * 2 ^ 16 + slice_index ps (4 * j + 3)

-- The words are a draft of the content, which has the entries so far: of a page that will have `total` entries, with the
-- first `used` words taken. What is not written yet is 0.
pub record IsDraft (draft : Draft) (words : List ℕ) (c : Content) : Type 0 where
  pub count : length c.entries ≡ draft.count
  pub room : draft.count ≤ draft.total
  pub first : draft.first ≡ entries_from draft.total c
  pub used : draft.used ≡ draft.first + length (all_words c.entries)
  pub fits : draft.used ≤ 256
  pub mark : c.mark ≡ 0
  pub word_0 : slice_index words 0 ≡ first_of draft.total c
  pub word_1 : slice_index words 1 ≡ second_of c
  pub word_2 : slice_index words 2 ≡ third_of draft.total c
  pub word_3 : slice_index words 3 ≡ 0
  pub directory : (j : ℕ) → j < directory_size draft.total → slice_index words (4 + j) ≡ four (places draft.first c.entries) j
  pub fences : (k : ℕ) → k < length (fences c) → slice_index words (fences_from draft.total + k) ≡ slice_index (fences c) k
  pub entries : (k : ℕ) → slice_index words (draft.first + k) ≡ slice_index (all_words c.entries) k

-- the content with more entries at its end
abbrev pub with_last : Content → List Entry → Content
with_last c es = record c { entries = c.entries ++ es }

-- what a head says, with no entries
abbrev pub started : Head → Content
started head = record {
  level = head.level;
  own = head.own;
  right = head.right;
  low = head.low.now;
  high = option_copied head.high;
  mark = 0;
  entries = [];
}

-- These words were written at a place, and all others stayed.
pub record IsWritten (old new : List ℕ) (at : ℕ) (ws : List ℕ) : Type 0 where
  pub before : (i : ℕ) → i < at → slice_index new i ≡ slice_index old i
  pub here : (k : ℕ) → k < length ws → slice_index new (at + k) ≡ slice_index ws k
  pub after : (i : ℕ) → at + length ws ≤ i → slice_index new i ≡ slice_index old i

-- the draft with an entry of so many words more
abbrev pub longer : Draft → ℕ → Draft
longer draft len = record draft { count = draft.count + 1; used = draft.used + len }

-- an entry can be added to the draft
abbrev pub HasRoom : Draft → List ℕ → Entry → Type 0
HasRoom draft words e = (c : Content) × IsDraft draft words c × (draft.count < draft.total) × (draft.used + length (entry_words e) ≤ 256)

-- the page has this entry, and it can be added
abbrev pub CanCopy : List ℕ → ℕ → Draft → List ℕ → Type 0
CanCopy page slot draft words = (d : Content) × (e : Entry) × IsPage page d × (slice_get d.entries slot ≡ Some e) × HasRoom draft words e

-- all entries are there
abbrev pub IsWhole : Draft → List ℕ → Content → Type 0
IsWhole draft words c = IsDraft draft words c × (draft.count ≡ draft.total) × IsContent c

-- the entry that is put
abbrev pub entry_of : NewEntry → Entry
entry_of new = record { key = new.key.now; held = Version new.tid (option_copied new.rec) new.older }

-- the entry of an inner page
abbrev pub child_of : List ℕ → Logical → Entry
child_of key child = record { key = key; held = Child child }
