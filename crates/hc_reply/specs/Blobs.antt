-- Blob literals as parts of an output.
use Rattle.std.specs.Prelude.{◌≡◌, ℕ, ◌<◌, ◌≤◌, List, ◌∷◌, length, Option, Some, None}
use Rattle.hc_text.specs.Bytes.{AreBytes}
use Rattle.hc_text.specs.Digits.{hex_digit}

-- at most so many bytes, where there is a limit
abbrev pub IsWithinLimit : Option ℕ → ℕ → Type 0
IsWithinLimit None n = Unit {0}
IsWithinLimit (Some limit) n = n ≤ limit

abbrev pub IsBlob : Option ℕ → List ℕ → Type 0
IsBlob limit bytes = AreBytes bytes × IsWithinLimit limit (length bytes)

-- no hexadecimal digit comes next
abbrev pub NoHexDigit : List ℕ → Type 0
NoHexDigit bytes = (d : ℕ) (rest : List ℕ) → d < 16 → bytes ≡ hex_digit d ∷ rest → ⊥
