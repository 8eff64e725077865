-- Texts within quotes. A quote within is written twice.
use Rattle.std.specs.Prelude.{ℕ, List, [], ◌∷◌, ◌++◌, ◌==◌, if◌then◌else◌}
use Rattle.std.specs.List.{flat_map}

-- what is written for one character: a quote twice
abbrev pub doubled_one : ℕ → ℕ → List ℕ
doubled_one quote b = if b == quote then b ∷ b ∷ [] else b ∷ []

-- what is written for these characters
abbrev pub doubled : ℕ → List ℕ → List ℕ
doubled quote inner = flat_map (doubled_one quote) inner

-- the characters within quotes
abbrev pub quoted : ℕ → List ℕ → List ℕ
quoted quote inner = quote ∷ doubled quote inner ++ quote ∷ []
