-- Puts: the content after an entry is put, or taken out.
use Rattle.std.specs.Prelude.{◌≡◌, ◌<◌, ◌≤◌, ℕ, ◌+◌, ◌-◌, List, [], ◌∷◌, ◌++◌, length, take, drop, slice_index_or, Some}
use Rattle.std.specs.List.{filter, slice_get}
use Rattle.hc_range.specs.Order.{is_below, IsBelow}
use Rattle.hc_base.specs.Content.{Content, Entry, IsContent, IsEntryOf, IsWithin, keys}
use Rattle.hc_base.specs.Layout.{IsPage, used_words, all_words}
use Rattle.hc_page.specs.declared.writer.Draft.{Draft}
use Rattle.hc_page.specs.Drafts.{IsDraft, entries_from}

-- the entries with lesser keys, the new one, and the entries with greater keys
abbrev pub put_entry : Entry → List Entry → List Entry
put_entry e es = filter (λ x. is_below x.key e.key) es ++ (e ∷ filter (λ x. is_below e.key x.key) es)

abbrev pub with_entries : Content → List Entry → Content
with_entries c es = record c { entries = es }

-- the content with an entry put in its key's place
abbrev pub with_entry : Content → Entry → Content
with_entry c e = with_entries c (put_entry e c.entries)

-- the content without an entry
abbrev pub without_entry : Content → ℕ → Content
without_entry c slot = with_entries c (take slot c.entries ++ drop (slot + 1) c.entries)

-- The entry can be put on the leaf: its numbers fit, its key is within the fences, and all fits 256 words.
pub record CanPut (words : List ℕ) (e : Entry) (c : Content) : Type 0 where
  pub page : IsPage words c
  pub leaf : c.level ≡ 0
  pub entry : IsEntryOf 0 e
  pub within : IsWithin c.low c.high e.key
  pub fits : used_words (with_entry c e) ≤ 256

-- the leaf has an entry of this number
pub record CanTake (words : List ℕ) (slot : ℕ) (c : Content) : Type 0 where
  pub page : IsPage words c
  pub leaf : c.level ≡ 0
  pub there : slot < length c.entries

-- the entries before a number have lesser keys and those from another one on greater ones; the one in between has the key
pub record IsAround (es : List Entry) (key : List ℕ) (before after : ℕ) : Type 0 where
  pub order : before ≤ after
  pub near : after ≤ before + 1
  pub in_list : after ≤ length es
  pub below : (i : ℕ) → i < before → IsBelow (slice_index_or (keys es) i []) key
  pub above : (i : ℕ) → after ≤ i → i < length es → IsBelow key (slice_index_or (keys es) i [])
  pub same : before < after → slice_index_or (keys es) before [] ≡ key

-- These entries of the page can be added to the draft.
pub record CanCopyRange (words : List ℕ) (from to : ℕ) (draft : Draft) (out : List ℕ) (c d : Content) : Type 0 where
  pub drafted : IsDraft draft out c
  pub page : IsPage words d
  pub order : from ≤ to
  pub in_list : to ≤ length d.entries
  pub count : draft.count + (to - from) ≤ draft.total
  pub room : draft.used + length (all_words (take (to - from) (drop from d.entries))) ≤ 256

-- A page of so many entries can begin as this one does, with this many of its entries.
pub record CanBegin (words : List ℕ) (before total : ℕ) (c : Content) : Type 0 where
  pub page : IsPage words c
  pub in_list : before ≤ length c.entries
  pub count : before ≤ total
  pub room : entries_from total c + length (all_words (take before c.entries)) ≤ 256

-- The draft can end with the page's entries from a number on, and is a page then.
pub record CanEnd (words : List ℕ) (after : ℕ) (draft : Draft) (out : List ℕ) (c : Content) (es : List Entry) : Type 0 where
  pub drafted : IsDraft draft out (with_entries c es)
  pub page : IsPage words c
  pub in_list : after ≤ length c.entries
  pub count : draft.count + (length c.entries - after) ≡ draft.total
  pub room : draft.used + length (all_words (drop after c.entries)) ≤ 256
  pub content : IsContent (with_entries c (es ++ drop after c.entries))

-- The page has one entry in the gap, or none.
pub record CanFree (words : List ℕ) (before after : ℕ) (c : Content) : Type 0 where
  pub page : IsPage words c
  pub order : before ≤ after
  pub near : after ≤ before + 1
  pub in_list : after ≤ length c.entries

-- The page has this entry, whose key has at most 463 bytes.
pub record HasShort (words : List ℕ) (slot : ℕ) (d : Content) (e : Entry) : Type 0 where
  pub page : IsPage words d
  pub there : slice_get d.entries slot ≡ Some e
  pub short : length e.key ≤ 463
