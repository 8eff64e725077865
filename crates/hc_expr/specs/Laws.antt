-- What LIKE says, in the words of its users.
use Rattle.std.specs.Prelude.{ℕ, List, [], ◌∷◌, ◌++◌, ◌≡◌, ◌⊎◌, ◌↔◌, nat_eq, IsTrue}
use Rattle.std.specs.Bool.{MatchBool}
use Rattle.hc_expr.specs.Like.{lower, is_like}

-- a text is like a pattern: a `%` (37) stands for any characters, a `_` (95) for one, and every other
-- character for itself, a letter of ASCII in either case
abbrev pub IsLike : List ℕ → List ℕ → Type 0
IsLike [] text = text ≡ []
IsLike (p ∷ pattern) text = MatchBool (nat_eq p 37)
    ((any : List ℕ) × (rest : List ℕ) × (text ≡ any ++ rest) × IsLike pattern rest)
    ((c : ℕ) × (rest : List ℕ) × (text ≡ c ∷ rest) × ((p ≡ 95) ⊎ (lower p ≡ lower c)) × IsLike pattern rest)

abbrev pub LikeIsWhatItSays : Type 0
LikeIsWhatItSays = (pattern text : List ℕ) → IsTrue (is_like pattern text) ↔ IsLike pattern text
