-- Fixed words.
use Rattle.std.specs.Prelude.{ℕ, ◌+◌, List, [], ◌∷◌, ◌==◌, if◌then◌else◌}

-- fixed words are one part, which has one text
abbrev pub IsWord : Unit {0} → Type 0
IsWord nothing = Unit {0}

abbrev pub the_word : List ℕ → Unit {0} → List ℕ
the_word word nothing = word

-- how many bytes a word and the bytes begin with in common
abbrev pub common : List ℕ → List ℕ → ℕ
common [] bytes = 0
common (w ∷ word) [] = 0
common (w ∷ word) (b ∷ bytes) = if w == b then common word bytes + 1 else 0
