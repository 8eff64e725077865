-- The writes of a transaction: those that are put, and all for which there is room.
use Rattle.std.specs.Prelude.{◌≡◌, ℕ, ◌⊎◌, Bool, true, false, Option, Some, None, List, [], ◌∷◌, ◌++◌, length, get_or, ◌<◌, ◌&&◌}
use Rattle.std.specs.Str.{bytes_eq}
use Rattle.hc_base.specs.Lookup.{Among}
use Rattle.hc_core.specs.declared.cells.Write.{Write}

-- the writes that are put, and all for which there is room, which are these and others
pub record Held : Type 0 where
  pub put : List Write
  pub all : List Write

-- whether a record, or a tombstone, is another one
abbrev pub is_same_rec : Option (List ℕ) → Option (List ℕ) → Bool
is_same_rec (Some rec) (Some other) = bytes_eq rec other
is_same_rec None None = true
is_same_rec _ _ = false

-- whether a write is that of a key with a record, or a tombstone
abbrev pub is_write : List ℕ → Option (List ℕ) → Write → Bool
is_write key rec w = bytes_eq w.key key && is_same_rec w.rec rec

-- whether a write is of a key
abbrev pub is_of_key : List ℕ → Write → Bool
is_of_key key w = bytes_eq w.key key

-- the second writes have all of the first
abbrev pub HasAllOf : List Write → List Write → Type 0
HasAllOf before after = (w : Write) → Among w before → Among w after

-- a write is at a place among writes
abbrev pub IsWriteAt : List ℕ → Option (List ℕ) → List Write → ℕ → Type 0
IsWriteAt key rec writes place = (place < length writes) × ((d : Write) → is_write key rec (get_or writes place d) ≡ true)

-- a key is that of the write at a place
abbrev pub IsKeyAt : List ℕ → List Write → ℕ → Type 0
IsKeyAt key writes place = (place < length writes) × ((d : Write) → is_of_key key (get_or writes place d) ≡ true)

-- a write is at a place among writes that are those before, or those before and this one
abbrev pub IsHeldIn : Write → List Write → List Write → ℕ → Type 0
IsHeldIn w before after place = ((after ≡ before) × IsWriteAt w.key w.rec before place) ⊎ ((after ≡ before ++ w ∷ []) × (place ≡ length before))
