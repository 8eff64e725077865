-- Plans: what each change of a page makes of its content. The rule over the engine's table cites these relations, never the
-- code of a plan. A relation on leaves speaks of keys, and not of positions.
use Rattle.std.specs.Prelude.{◌≡◌, ◌<◌, ◌≤◌, ℕ, suc, List, [], ◌∷◌, ◌++◌, length, Option, Some}
use Rattle.hc_base.specs.declared.numbers.Logical.{Logical}
use Rattle.hc_base.specs.Content.{Content, Entry}
use Rattle.hc_page.specs.Drafts.{child_of}
use Rattle.hc_page.specs.Puts.{put_entry, with_entries, with_entry}
use Rattle.hc_shape.specs.Halves.{IsCut, cut_at}
use Rattle.hc_shape.specs.Versions.{HasPut, HasPutHalved, HasUnput}

-- only the entries differ: level, number, link, fences and mark are the old ones
abbrev pub KeepsHead : Content → Content → Type 0
KeepsHead old new = new ≡ with_entries old new.entries

-- Two pages in place of one. The left one keeps number and low fence; its link is the new number, and its high fence the right
-- one's low fence. The right one has the new number, and the old link and high fence.
pub record AreSides (old : Content) (fresh : Logical) (left right : Content) : Type 0 where
  pub left_is : left ≡ record old { right = Some fresh; high = Some right.low; entries = left.entries }
  pub right_is : right ≡ record old { own = fresh; low = right.low; entries = right.entries }

-- A leaf after a put: its own key has the entry, and each other key what it had.
pub record IsPut (old new : Content) (e : Entry) : Type 0 where
  pub leaf : old.level ≡ 0
  pub head : KeepsHead old new
  pub put : HasPut old.entries new.entries e

-- A leaf after an unput: the key has an older entry or none, and each other key what it had.
pub record IsUnput (old new : Content) (key : List ℕ) (older : Option Entry) : Type 0 where
  pub leaf : old.level ≡ 0
  pub head : KeepsHead old new
  pub unput : HasUnput old.entries new.entries key older

-- A leaf after a put that makes two leaves of it, cut where the larger one is the least.
pub record IsPutHalved (old : Content) (e : Entry) (fresh : Logical) (left right : Content) : Type 0 where
  pub leaf : old.level ≡ 0
  pub sides : AreSides old fresh left right
  pub put : HasPutHalved old.entries left.entries right.entries right.low e
  pub cut : IsCut old fresh (put_entry e old.entries) (length left.entries)
  -- the right leaf begins with its first key
  pub fence : right.low ≡ cut_at (put_entry e old.entries) (length left.entries)

-- An inner page with one child more.
pub record IsPosted (old new : Content) (key : List ℕ) (child : Logical) : Type 0 where
  pub inner : 0 < old.level
  pub is : new ≡ with_entry old (child_of key child)

-- An inner page with one child more that becomes two inner pages of its level, with two children each at least, which have all
-- children in their order.
pub record IsHalvedInner (old : Content) (key : List ℕ) (child fresh : Logical) (left right : Content) : Type 0 where
  pub inner : 0 < old.level
  pub sides : AreSides old fresh left right
  pub all : left.entries ++ right.entries ≡ put_entry (child_of key child) old.entries
  pub two : (2 ≤ length left.entries) × (2 ≤ length right.entries)
  pub cut : IsCut old fresh (put_entry (child_of key child) old.entries) (length left.entries)

-- The top with one child more that goes one level up: its children are those of two new pages of its old level, and it names
-- these two. It keeps its number, its link and its fences.
pub record IsGrown (old : Content) (key : List ℕ) (child first second : Logical) (left right top : Content) : Type 0 where
  pub halved : IsHalvedInner (record old { own = first }) key child second left right
  pub is : top ≡ record old { level = suc old.level; entries = child_of old.low first ∷ child_of right.low second ∷ [] }
