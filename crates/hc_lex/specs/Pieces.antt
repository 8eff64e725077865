-- A text as pieces that follow one another, each of a kind.
use Rattle.std.specs.Prelude.{◌≡◌, ℕ, List, [], ◌∷◌, ◌++◌}

-- the bytes of a piece, and what they are
pub record Piece (K : Type 0) : Type 0 where
  pub kind : K
  pub text : List ℕ

-- The bytes are these pieces, and then `rest`. `Is kind text tail` says that `text` is a piece of this kind
-- where `tail` follows it.
abbrev pub Front : {K : Type 0} → (K → List ℕ → List ℕ → Type 0) → List (Piece K) → List ℕ → List ℕ → Type 0
Front Is [] bytes rest = bytes ≡ rest
Front Is (piece ∷ pieces) bytes rest =
    (tail : List ℕ) × (bytes ≡ piece.text ++ tail) × Is piece.kind piece.text tail × Front Is pieces tail rest

-- some first bytes are such a piece, and `rest` follows it
abbrev pub Skips : (List ℕ → List ℕ → Type 0) → List ℕ → List ℕ → Type 0
Skips Is bytes rest = (text : List ℕ) × (bytes ≡ text ++ rest) × Is text rest
