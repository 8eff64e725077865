-- Changes: what each step on the tree asks of its shape, and the shape after it.
use Rattle.std.specs.Prelude.{◌≡◌, ◌≢◌, ◌<◌, ℕ, zero, suc, List, [], ◌∷◌, Option, None}
use Rattle.hc_base.specs.declared.numbers.Logical.{Logical}
use Rattle.hc_base.specs.Content.{Child, Content, Entry, IsContent, IsWithin, OfSome}
use Rattle.hc_base.specs.Lookup.{Among, but}
use Rattle.hc_shape.specs.Halves.{IsSmall}
use Rattle.hc_shape.specs.Leaves.{with_next}
use Rattle.hc_shape.specs.Plans.{IsGrown, IsHalvedInner, IsPosted, IsPut, IsPutHalved, IsUnput}
use Rattle.hc_shape.specs.Shape.{IsShape, IsUnreached, Shape}

-- The two pages at the start: number 1 is an empty leaf, and number 2 the top over it, whose one entry names it for all keys.
abbrev pub first_leaf : Content
first_leaf = record { level = 0; own = record { 0 = 1 }; right = None; low = []; high = None; mark = 0; entries = [] }

abbrev pub first_top : Content
first_top = record {
  level = 1;
  own = record { 0 = 2 };
  right = None;
  low = [];
  high = None;
  mark = 0;
  entries = record { key = []; held = Child (record { 0 = 1 }) } ∷ [];
}

-- their shape
abbrev pub first_numbers : ℕ → List ℕ
first_numbers zero = 1 ∷ []
first_numbers (suc zero) = 2 ∷ []
first_numbers (suc (suc k)) = []

abbrev pub first_shape : Shape
first_shape = record { numbers = first_numbers; low = λ n. []; level = but (λ n. 0) 2 1 }

-- the shape after a number of level k gave its keys from the cut on to a new number next to it
abbrev pub cut_shape : Shape → ℕ → ℕ → ℕ → List ℕ → Shape
cut_shape s k at new cut = record {
  numbers = but s.numbers k (with_next at new (s.numbers k));
  low = but s.low new cut;
  level = but s.level new k;
}

-- the shape after the top went one level up, with two numbers on its old level
abbrev pub grown_shape : Shape → ℕ → ℕ → List ℕ → Shape
grown_shape s first second cut = record {
  numbers = but (but s.numbers (s.level 2) (first ∷ second ∷ [])) (suc (s.level 2)) (2 ∷ []);
  low = but (but s.low first []) second cut;
  level = but (but (but s.level first (s.level 2)) second (s.level 2)) 2 (suc (s.level 2));
}

-- A leaf is replaced by one with an entry put.
pub record Puts (node : ℕ → Content) (s : Shape) (n : ℕ) (e : Entry) (new : Content) : Type 0 where
  pub shape : IsShape node s
  pub leaf : Among n (s.numbers 0)
  pub within : IsWithin (node n).low (node n).high e.key
  pub small : IsSmall e
  pub put : IsPut (node n) new e
  pub content : IsContent new

-- A leaf is replaced by one with an older entry of a key, or none.
pub record Unputs (node : ℕ → Content) (s : Shape) (n : ℕ) (key : List ℕ) (older : Option Entry) (new : Content) : Type 0 where
  pub shape : IsShape node s
  pub leaf : Among n (s.numbers 0)
  pub within : IsWithin (node n).low (node n).high key
  pub small : OfSome IsSmall older
  pub unput : IsUnput (node n) new key older
  pub content : IsContent new

-- A leaf is replaced by the left half of a put; the right half is the page of a number that no link reaches yet.
pub record Halves (node : ℕ → Content) (s : Shape) (n : ℕ) (e : Entry) (fresh : Logical) (left right : Content) : Type 0 where
  pub shape : IsShape node s
  pub leaf : Among n (s.numbers 0)
  pub within : IsWithin (node n).low (node n).high e.key
  pub small : IsSmall e
  pub unreached : IsUnreached s fresh.0
  pub mapped : node fresh.0 ≡ right
  pub halved : IsPutHalved (node n) e fresh left right
  pub left_content : IsContent left
  pub right_content : IsContent right

-- A number of level k can come to an inner page one level up: the key is its low fence.
pub record IsChildAt (s : Shape) (k : ℕ) (key : List ℕ) (child : Logical) : Type 0 where
  pub there : Among child.0 (s.numbers k)
  pub low : s.low child.0 ≡ key

-- An inner page is replaced by one with a child more.
pub record Posts (node : ℕ → Content) (s : Shape) (k n : ℕ) (key : List ℕ) (child : Logical) (new : Content) : Type 0 where
  pub shape : IsShape node s
  pub inner : Among n (s.numbers (suc k))
  pub is_child : IsChildAt s k key child
  pub posted : IsPosted (node n) new key child
  pub content : IsContent new

-- An inner page below the top is replaced by the left half of its children and one more; the right half is the page of a
-- number that no link reaches yet.
pub record HalvesInner (node : ℕ → Content) (s : Shape) (k n : ℕ) (key : List ℕ) (child fresh : Logical) (left right : Content) : Type 0 where
  pub shape : IsShape node s
  pub inner : Among n (s.numbers (suc k))
  pub below : suc k < s.level 2
  pub is_child : IsChildAt s k key child
  pub unreached : IsUnreached s fresh.0
  pub mapped : node fresh.0 ≡ right
  pub halved : IsHalvedInner (node n) key child fresh left right
  pub left_content : IsContent left
  pub right_content : IsContent right

-- The top is replaced by a higher one over two halves of its children and one more; these are the pages of two numbers that no
-- link reaches yet.
pub record Grows (node : ℕ → Content) (s : Shape) (k : ℕ) (key : List ℕ) (child first second : Logical) (left right top : Content) : Type 0 where
  pub shape : IsShape node s
  pub level : s.level 2 ≡ suc k
  pub is_child : IsChildAt s k key child
  pub first_unreached : IsUnreached s first.0
  pub second_unreached : IsUnreached s second.0
  pub apart : first.0 ≢ second.0
  pub first_mapped : node first.0 ≡ left
  pub second_mapped : node second.0 ≡ right
  pub grown : IsGrown (node 2) key child first second left right top
  pub left_content : IsContent left
  pub right_content : IsContent right
  pub top_content : IsContent top
