-- Names.
use Rattle.std.specs.Prelude.{◌≡◌, ℕ, List}
use Rattle.std.specs.Str.{str_to_ascii_lowercase}

-- two names are the same where they are equal after ASCII letters are made lower
abbrev pub SameName : List ℕ → List ℕ → Type 0
SameName a b = str_to_ascii_lowercase a ≡ str_to_ascii_lowercase b
