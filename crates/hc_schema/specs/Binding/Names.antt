-- Names ignore the case of ASCII letters.
use Rattle.std.specs.Prelude.{ℕ, Bool, List}
use Rattle.std.specs.Str.{bytes_eq, str_to_ascii_lowercase}

-- two names are the same
abbrev pub same_name : List ℕ → List ℕ → Bool
same_name a b = bytes_eq (str_to_ascii_lowercase a) (str_to_ascii_lowercase b)
