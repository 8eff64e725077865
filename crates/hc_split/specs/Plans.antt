-- Plans: what each plan asks of its page, and what it writes.
use Rattle.std.specs.Prelude.{◌≡◌, ◌<◌, ◌+◌, ◌^◌, ℕ, List}
use Rattle.std.specs.List.{All}
use Rattle.hc_base.specs.declared.numbers.Logical.{Logical}
use Rattle.hc_base.specs.Content.{Content, Entry, IsEntryOf, IsWithin}
use Rattle.hc_base.specs.Layout.{IsPage, used_words}
use Rattle.hc_page.specs.Drafts.{child_of}
use Rattle.hc_page.specs.Puts.{with_entry}
use Rattle.hc_shape.specs.Halves.{IsSmall}
use Rattle.hc_shape.specs.Plans.{IsGrown, IsHalvedInner, IsPosted, IsPutHalved}

-- The page is a leaf of small entries that has no room for this small entry, whose key is within its fences.
pub record IsFullLeaf (words : List ℕ) (e : Entry) (c : Content) : Type 0 where
  pub page : IsPage words c
  pub leaf : c.level ≡ 0
  pub entry : IsEntryOf 0 e
  pub within : IsWithin c.low c.high e.key
  pub small : All IsSmall c.entries
  pub new_small : IsSmall e
  pub over : 256 < used_words (with_entry c e)

-- The page is an inner one, and a child can come to it: the child's low fence is within the page's fences.
pub record IsParent (words : List ℕ) (key : List ℕ) (child : Logical) (c : Content) : Type 0 where
  pub page : IsPage words c
  pub inner : 0 < c.level
  pub entry : IsEntryOf 1 (child_of key child)
  pub within : IsWithin c.low c.high key

-- and it has no room for the child
pub record IsFullParent (words : List ℕ) (key : List ℕ) (child : Logical) (c : Content) : Type 0 where
  pub parent : IsParent words key child c
  pub over : 256 < used_words (with_entry c (child_of key child))

-- the pages are of two contents that a leaf was cut into
abbrev pub ArePutHalved : Content → Entry → Logical → List ℕ → List ℕ → Type 0
ArePutHalved c e fresh left right = (l r : Content) × IsPage left l × IsPage right r × IsPutHalved c e fresh l r

-- the page is of a content with one child more
abbrev pub HasPosted : Content → List ℕ → Logical → List ℕ → Type 0
HasPosted c key child out = (new : Content) × IsPage out new × IsPosted c new key child

-- the pages are of two contents that an inner page was cut into
abbrev pub AreHalvedInner : Content → List ℕ → Logical → Logical → List ℕ → List ℕ → Type 0
AreHalvedInner c key child fresh left right = (l r : Content) × IsPage left l × IsPage right r × IsHalvedInner c key child fresh l r

-- and it can be one level higher
pub record IsFullTop (words : List ℕ) (key : List ℕ) (child : Logical) (c : Content) : Type 0 where
  pub full : IsFullParent words key child c
  pub level : c.level + 1 < 2 ^ 8

-- the pages are of the two contents that the top was cut into, and of the higher top
abbrev pub AreGrown : Content → List ℕ → Logical → Logical → Logical → List ℕ → List ℕ → List ℕ → Type 0
AreGrown c key child a b left right out =
    (l r top : Content) × IsPage left l × IsPage right r × IsPage out top × IsGrown c key child a b l r top
