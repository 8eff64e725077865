-- Pages that a plan can halve: leaves of small entries, and inner pages.
use Rattle.std.specs.Prelude.{◌≡◌, ◌<◌, ℕ, List}
use Rattle.std.specs.List.{All}
use Rattle.hc_base.specs.Content.{Content, Entry, IsEntryOf}
use Rattle.hc_base.specs.Layout.{IsPage}
use Rattle.hc_shape.specs.Halves.{IsSmall}

-- a leaf, with whatever fences
pub record IsLeaf (words : List ℕ) (c : Content) : Type 0 where
  pub page : IsPage words c
  pub leaf : c.level ≡ 0

abbrev pub HasLeaf : List ℕ → Type 0
HasLeaf words = (c : Content) × IsLeaf words c

-- a leaf each of whose entries has at most 60 words
abbrev pub HasSmallLeaf : List ℕ → Type 0
HasSmallLeaf words = (c : Content) × IsLeaf words c × All IsSmall c.entries

-- an entry that such a leaf can take
abbrev pub IsSmallVersion : Entry → Type 0
IsSmallVersion e = IsEntryOf 0 e × IsSmall e

-- an inner page, with whatever fences
pub record IsInner (words : List ℕ) (c : Content) : Type 0 where
  pub page : IsPage words c
  pub inner : 0 < c.level

abbrev pub HasInner : List ℕ → Type 0
HasInner words = (c : Content) × IsInner words c
