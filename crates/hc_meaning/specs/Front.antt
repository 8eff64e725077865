-- What bytes begin with: a text with what it means, and the rest after it.
use Rattle.std.specs.Prelude.{◌≡◌, ℕ, ◌≤◌, ℤ, List, [], ◌∷◌, ◌++◌, ⊤}
use Rattle.hc_meaning.specs.Input.{IsBlank, IsBlankByte, IsNumber}

-- the bytes are a text with this meaning, followed by `rest`
abbrev pub BeginsWith : {A : Type 0} → (List ℕ → A → Type 0) → List ℕ → A → List ℕ → Type 0
BeginsWith IsText bytes meaning rest = (text : List ℕ) × IsText text meaning × (bytes ≡ text ++ rest)

-- the first byte, if there is one, does not pass
abbrev pub BeginsOutside : (ℕ → Type 0) → List ℕ → Type 0
BeginsOutside P [] = ⊤
BeginsOutside P (b ∷ bytes) = ¬ P b

abbrev pub IsDigit : ℕ → Type 0
IsDigit b = (48 ≤ b) × (b ≤ 57)

-- a number with all of its digits
abbrev pub BeginsWithNumber : List ℕ → ℤ → List ℕ → Type 0
BeginsWithNumber bytes n rest = BeginsWith IsNumber bytes n rest × BeginsOutside IsDigit rest

-- all the blanks at the front
abbrev pub BeginsWithBlank : List ℕ → List ℕ → Type 0
BeginsWithBlank bytes rest = (blank : List ℕ) × IsBlank blank × (bytes ≡ blank ++ rest) × BeginsOutside IsBlankByte rest
