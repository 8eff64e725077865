-- What a read takes from a source, and what a write adds to a sink, where they tell their bytes.
use Rattle.std.specs.Prelude.{◌≡◌, ◌↔◌, ℕ, ◌<◌, List, [], ◌++◌, length, take, Option, None, Some, ⊤}

-- The first n bytes that were left are those at the buffer's front, and the others are left now.
-- Into a buffer that is not empty, none is read exactly where none was left.
pub record Reads (left rest buffer : List ℕ) (n : ℕ) : Type 0 where
  pub bytes : left ≡ take n buffer ++ rest
  pub end : 0 < length buffer → ((n ≡ 0) ↔ (left ≡ []))

-- the same, where the source tells its bytes; and it goes on telling them
abbrev pub ReadsIfTold : Option (List ℕ) → Option (List ℕ) → List ℕ → ℕ → Type 0
ReadsIfTold None rest buffer n = ⊤
ReadsIfTold (Some left) None buffer n = ⊥
ReadsIfTold (Some left) (Some rest) buffer n = Reads left rest buffer n

-- the first n bytes of the piece follow what was written before
abbrev pub WritesIfTold : Option (List ℕ) → Option (List ℕ) → List ℕ → ℕ → Type 0
WritesIfTold None after piece n = ⊤
WritesIfTold (Some before) None piece n = ⊥
WritesIfTold (Some before) (Some after) piece n = after ≡ before ++ take n piece
