-- What a whole reading takes from a source, and what a whole writing adds to a sink, where they tell their bytes.
use Rattle.std.specs.Prelude.{◌≡◌, ◌⊎◌, ℕ, List, [], ◌++◌, length, Option, None, Some, ⊤}
use Rattle.hc_top.specs.declared.reading.TheConstants.{MOST_READ}
use Rattle.hc_io.specs.Transfer.{WritesIfTold}
use Rattle.std.specs.Io.KnownBytes.{Consumes}

-- The bytes that were read were at the front. All were read, or as many as are read at most.
pub record ReadsAllOrMost (left rest read : List ℕ) : Type 0 where
  pub bytes : left ≡ read ++ rest
  pub all_or_most : (rest ≡ []) ⊎ (length read ≡ MOST_READ)

abbrev pub ReadsAllOrMostIfTold : Option (List ℕ) → Option (List ℕ) → List ℕ → Type 0
ReadsAllOrMostIfTold None after read = ⊤
ReadsAllOrMostIfTold (Some left) None read = ⊥
ReadsAllOrMostIfTold (Some left) (Some rest) read = ReadsAllOrMost left rest read

-- some first bytes of the piece were written, maybe none or all
abbrev pub WritesFront : Option (List ℕ) → Option (List ℕ) → List ℕ → Type 0
WritesFront before after piece = (n : ℕ) × WritesIfTold before after piece n

-- n bytes were consumed from the front and appended to the input
pub record Appended (left after : Option (List ℕ)) (input new : List ℕ) (n : ℕ) : Type 0 where
  pub bytes : List ℕ
  pub taken : Consumes left after bytes
  pub count : length bytes ≡ n
  pub appended : new ≡ input ++ bytes
