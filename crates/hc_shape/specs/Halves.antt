-- Halves: a content with one entry more than fits, cut into two.
use Rattle.std.specs.Prelude.{◌<◌, ◌≤◌, ℕ, zero, suc, ◌+◌, List, [], length, take, drop, slice_index_or, Some, cond, leb}
use Rattle.std.specs.List.{All}
use Rattle.hc_base.specs.declared.numbers.Logical.{Logical}
use Rattle.hc_base.specs.Content.{Ascends, BeginsAt, Content, Entry, IsEntryOf, IsFence, IsWithin, OfSome, keys}
use Rattle.hc_base.specs.Layout.{entry_words, used_words}
use Rattle.hc_page.specs.Puts.{with_entry}

-- the key that the right half begins with, where the left one has so many entries
abbrev pub cut_at : List Entry → ℕ → List ℕ
cut_at es k = slice_index_or (keys es) k []

-- the first k entries, up to the cut, with a link to the right half
abbrev pub left_half : Content → Logical → List Entry → ℕ → Content
left_half c fresh es k = record c { right = Some fresh; high = Some (cut_at es k); entries = take k es }

-- the other entries, from the cut on, with a number of their own
abbrev pub right_half : Content → Logical → List Entry → ℕ → Content
right_half c fresh es k = record c { own = fresh; low = cut_at es k; entries = drop k es }

-- how many entries a half has at least: a leaf's one, and an inner page's two
abbrev pub least_in_half : ℕ → ℕ
least_in_half zero = 1
least_in_half (suc level) = 2

-- a place where the entries can be cut
abbrev pub IsPlace : Content → List Entry → ℕ → Type 0
IsPlace c es k = (least_in_half c.level ≤ k) × (k + least_in_half c.level ≤ length es)

-- both halves fit a page
abbrev pub HalvesFit : Content → Logical → List Entry → ℕ → Type 0
HalvesFit c fresh es k = (used_words (left_half c fresh es k) ≤ 256) × (used_words (right_half c fresh es k) ≤ 256)

-- the used words of the larger half
abbrev pub larger : Content → Logical → List Entry → ℕ → ℕ
larger c fresh es k =
    cond (leb (used_words (left_half c fresh es k)) (used_words (right_half c fresh es k)))
    (used_words (right_half c fresh es k)) (used_words (left_half c fresh es k))

-- The cut: the larger half is the least that there is, and it is the first such place.
pub record IsCut (c : Content) (fresh : Logical) (es : List Entry) (k : ℕ) : Type 0 where
  pub place : IsPlace c es k
  pub least : (j : ℕ) → IsPlace c es j → larger c fresh es k ≤ larger c fresh es j
  pub first : (j : ℕ) → IsPlace c es j → j < k → larger c fresh es k < larger c fresh es j

-- an entry has at most 60 words, and a key of at most 463 bytes
abbrev pub IsSmall : Entry → Type 0
IsSmall e = (length (entry_words e) ≤ 60) × (length e.key ≤ 463)

-- entries that a page of this level and these fences can have
pub record AreEntriesOf (c : Content) (es : List Entry) : Type 0 where
  pub each : All (IsEntryOf c.level) es
  pub small : All IsSmall es
  pub ascending : Ascends (keys es)
  pub within : All (IsWithin c.low c.high) (keys es)
  pub begins : BeginsAt c.level c.low (keys es)

-- A page of small entries that fits has no room for one small entry more.
pub record CanHalve (c : Content) (e : Entry) : Type 0 where
  pub low : IsFence c.low
  pub high : OfSome IsFence c.high
  pub fits : used_words c ≤ 256
  pub small : All IsSmall c.entries
  pub new_small : IsSmall e
  pub over : 256 < used_words (with_entry c e)
