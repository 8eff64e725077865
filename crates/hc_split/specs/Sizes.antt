-- Sizes: how many words entries of a page have.
use Rattle.std.specs.Prelude.{◌≡◌, ◌≤◌, ℕ, ◌+◌, List, length, take, Some}
use Rattle.std.specs.List.{slice_get}
use Rattle.hc_base.specs.Content.{Content, Entry}
use Rattle.hc_base.specs.Layout.{IsPage, all_words, entries_at}

-- the page has so many entries at least
pub record HasUpTo (words : List ℕ) (slot : ℕ) (c : Content) : Type 0 where
  pub page : IsPage words c
  pub in_list : slot ≤ length c.entries

-- the page has an entry of this number
abbrev pub HasEntryAt : List ℕ → ℕ → Type 0
HasEntryAt words slot = (c : Content) × (e : Entry) × IsPage words c × (slice_get c.entries slot ≡ Some e)

-- the word after the first entries, so many of them
abbrev pub place_at : Content → ℕ → ℕ
place_at c slot = entries_at c + length (all_words (take slot c.entries))
