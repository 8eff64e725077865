-- Shape: what holds of the pages of all numbers together, level by level.
use Rattle.std.specs.Prelude.{◌≡◌, ◌≢◌, ◌<◌, ◌≤◌, ℕ, zero, suc, cond, eqb, List, [], ◌∷◌, length, Option, Some, None, ⊤}
use Rattle.std.specs.List.{All}
use Rattle.hc_base.specs.declared.numbers.Logical.{Logical}
use Rattle.hc_base.specs.Content.{Child, Content, Entry, Held, IsContent, Version}
use Rattle.hc_base.specs.Lookup.{Among}
use Rattle.hc_shape.specs.Halves.{IsSmall}
use Rattle.hc_shape.specs.Leaves.{LowsAscend, number_of}
use Rattle.hc_shape.specs.Versions.{version_of}

-- The numbers of each level from left to right, and the low fence and the level of each number.
pub record Shape : Type 0 where
  -- by level
  pub numbers : ℕ → List ℕ
  -- by number
  pub low : ℕ → List ℕ
  -- by number
  pub level : ℕ → ℕ

-- the first of some numbers
abbrev pub first_of : List ℕ → Option ℕ
first_of [] = None
first_of (n ∷ more) = Some n

-- the number next to a number, to the right of it
abbrev pub next_of : List ℕ → ℕ → Option ℕ
next_of [] n = None
next_of (m ∷ more) n = cond (eqb m n) (first_of more) (next_of more n)

-- the low fence of a number, where there is one
abbrev pub low_of : (ℕ → List ℕ) → Option ℕ → Option (List ℕ)
low_of low None = None
low_of low (Some n) = Some (low n)

-- the number that a link leads to
abbrev pub linked : Option Logical → Option ℕ
linked None = None
linked (Some number) = Some number.0

-- what an entry of an inner page has for its key is a number one level down with the key as its low fence
abbrev pub Names : Shape → ℕ → List ℕ → Held → Type 0
Names s below key (Version tid rec older) = ⊥
Names s below key (Child number) = Among number.0 (s.numbers below) × (s.low number.0 ≡ key)

-- the entries of a page of a level: those of a leaf are small, and those of an inner page name numbers one level down
abbrev pub AreEntriesAt : Shape → ℕ → List Entry → Type 0
AreEntriesAt s zero es = All IsSmall es
AreEntriesAt s (suc below) es = All (λ e. Names s below e.key e.held) es

-- The page of a number of level k.
pub record IsNode (s : Shape) (k n : ℕ) (c : Content) : Type 0 where
  -- it is a content, but for its size
  pub content : IsContent c
  -- it has this number
  pub own : c.own.0 ≡ n
  -- it is of this level
  pub level : c.level ≡ k
  -- its low fence is the number's
  pub low : c.low ≡ s.low n
  -- its link leads to the next number of the level; the last number's leads nowhere
  pub right : linked c.right ≡ next_of (s.numbers k) n
  -- its high fence is the low fence of the next number; the last number has none
  pub high : c.high ≡ low_of s.low (next_of (s.numbers k) n)
  -- a leaf has small entries, an inner page names numbers one level down by their low fences
  pub entries : AreEntriesAt s k c.entries
  -- an inner page below the top has two entries at least
  pub two : 0 < k → k < s.level 2 → 2 ≤ length c.entries

-- the low fences of a level's numbers part all keys: the first is the empty string, and each comes before the next
abbrev pub PartsKeys : (ℕ → List ℕ) → List ℕ → Type 0
PartsKeys low [] = ⊥
PartsKeys low (n ∷ more) = (low n ≡ []) × LowsAscend low (n ∷ more)

-- The shape of a tree with these pages.
pub record IsShape (node : ℕ → Content) (s : Shape) : Type 0 where
  -- number 1 is the first leaf
  pub first : first_of (s.numbers 0) ≡ Some 1
  -- the top, number 2, is an inner page
  pub inner : 0 < s.level 2
  -- it is alone on its level
  pub top : s.numbers (s.level 2) ≡ 2 ∷ []
  -- no number is above it
  pub above : (k : ℕ) → s.level 2 < k → s.numbers k ≡ []
  -- the numbers of each level part all keys
  pub parts : (k : ℕ) → k ≤ s.level 2 → PartsKeys s.low (s.numbers k)
  -- a number is on the one level that it has
  pub levels : (k n : ℕ) → Among n (s.numbers k) → s.level n ≡ k
  -- each number's page is as its level asks
  pub nodes : (k n : ℕ) → Among n (s.numbers k) → IsNode s k n (node n)

-- a number that links reach
abbrev pub IsReached : Shape → ℕ → Type 0
IsReached s n = Among n (s.numbers (s.level n))

-- a number that no link reaches
abbrev pub IsUnreached : Shape → ℕ → Type 0
IsUnreached s n = (k : ℕ) → Among n (s.numbers k) → ⊥

-- From a shape to a later one: a number that is reached is so for good, with its low fence and its level; but the top's level
-- may rise.
pub record Stays (s t : Shape) : Type 0 where
  -- who is reached stays so
  pub reached : (n : ℕ) → IsReached s n → IsReached t n
  -- with the same low fence
  pub low : (n : ℕ) → IsReached s n → t.low n ≡ s.low n
  -- and on the same level, but for the top
  pub level : (n : ℕ) → IsReached s n → n ≢ 2 → t.level n ≡ s.level n
  -- whose level does not fall
  pub top : s.level 2 ≤ t.level 2

-- the number of a level that has a key, and the leaf of a key
abbrev pub number_at : Shape → ℕ → List ℕ → ℕ
number_at s k key = number_of s.low key (s.numbers k)

abbrev pub leaf_of : Shape → List ℕ → ℕ
leaf_of s key = number_at s 0 key

-- the entry of a key: what its leaf has for it
abbrev pub entry_of : (ℕ → Content) → Shape → List ℕ → Option Entry
entry_of node s key = version_of (node (leaf_of s key)).entries key

-- pages in a row: each one's link leads to the next, and the last one's nowhere
abbrev pub AreLinked : (ℕ → Content) → List ℕ → Type 0
AreLinked node [] = ⊤
AreLinked node (n ∷ more) = (linked (node n).right ≡ first_of more) × AreLinked node more

-- A number is named by an entry one level up.
pub record IsNamed (node : ℕ → Content) (s : Shape) (k n : ℕ) : Type 0 where
  pub parent : ℕ
  pub entry : Entry
  pub child : Logical
  pub above : Among parent (s.numbers (suc k))
  pub there : Among entry (node parent).entries
  pub held : entry.held ≡ Child child
  pub is : child.0 ≡ n
