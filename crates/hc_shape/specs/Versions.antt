-- Versions: what the entries of a leaf have for each key, and how a plan changes that. That the entries ascend, so that each key
-- is there once, is a part of being a content (`IsContent`), and is not said again here.
use Rattle.std.specs.Prelude.{◌≡◌, Bool, ◌||◌, not, cond, ℕ, List, [], ◌∷◌, Option, Some, None}
use Rattle.std.specs.List.{All}
use Rattle.hc_range.specs.Order.{is_below, IsAtMost, IsBelow}
use Rattle.hc_base.specs.Content.{Entry}

-- two keys are one: neither is below the other
unfoldable pub is_same_key : List ℕ → List ℕ → Bool
is_same_key a b = not (is_below a b || is_below b a)

-- the entry of a key, the first if there are several
abbrev pub version_of : List Entry → List ℕ → Option Entry
version_of [] key = None
version_of (e ∷ es) key = cond (is_same_key e.key key) (Some e) (version_of es key)

-- a function of keys with its answer for one key changed
unfoldable pub but_key : {A : Type 0} → (List ℕ → A) → List ℕ → A → List ℕ → A
but_key f at x key = cond (is_same_key at key) x (f key)

-- The new entries have this one for its key, and for each other key what the old ones had.
abbrev pub HasPut : List Entry → List Entry → Entry → Type 0
HasPut old new e = (key : List ℕ) → version_of new key ≡ but_key (version_of old) e.key (Some e) key

-- The same of two halves: the left one has the keys below the cut, and no other, and the right one those from it on.
pub record HasPutHalved (old left right : List Entry) (cut : List ℕ) (e : Entry) : Type 0 where
  pub below : All (λ x. IsBelow x.key cut) left
  pub from : All (λ x. IsAtMost cut x.key) right
  pub put : (key : List ℕ) → version_of (cond (is_below key cut) left right) key ≡ but_key (version_of old) e.key (Some e) key

-- The new entries have an older one, or none, for a key, and for each other key what the old ones had.
abbrev pub HasUnput : List Entry → List Entry → List ℕ → Option Entry → Type 0
HasUnput old new at older = (key : List ℕ) → version_of new key ≡ but_key (version_of old) at older key
