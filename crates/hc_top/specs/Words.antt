-- The command-line arguments, without the program's name.
use Rattle.std.specs.Prelude.{◌≡◌, ◌⊎◌, ℕ, List, [], ◌∷◌, codes}

-- none, or `--mode step`
abbrev pub AreStepWords : List (List ℕ) → Type 0
AreStepWords words = (words ≡ []) ⊎ (words ≡ codes "--mode" ∷ codes "step" ∷ [])
