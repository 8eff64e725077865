-- What the search for a pattern in a text finds.
use Rattle.std.specs.Prelude.{ℕ, List, [], ◌∷◌, ◌≡◌, ◌<◌, length, true, false, Option, Some, None}
use denote.Ref.{Bor}
use Rattle.std.specs.Str.{chars}
use Rattle.hc_expr.specs.declared.like.Found.{Found}
use Rattle.hc_expr.specs.declared.like.Found.TheVariants.{Yes, No, Star}
use Rattle.hc_expr.specs.Like.{is_like, some_rest, Reaches}

-- a text is cut after its first character
abbrev pub IsCut : List ℕ → Option (ℕ × Bor (List ℕ)) → Type 0
IsCut text None = text ≡ []
IsCut text (Some (c, rest)) = text ≡ c ∷ chars rest.now

-- what is found of a pattern at the front of a text
abbrev pub FoundHere : List ℕ → List ℕ → Found → Type 0
FoundHere pattern text Yes = is_like pattern text ≡ true
FoundHere pattern text No = is_like pattern text ≡ false
FoundHere pattern text (Star after rest) = Reaches pattern text (chars after.now) (chars rest.now)

-- what is found of a pattern at some rest of a text
abbrev pub FoundSomewhere : List ℕ → List ℕ → Found → Type 0
FoundSomewhere pattern text Yes = some_rest (is_like pattern) text ≡ true
FoundSomewhere pattern text No = some_rest (is_like pattern) text ≡ false
FoundSomewhere pattern text (Star after rest) =
    (length (chars after.now) < length pattern)
    × (some_rest (is_like pattern) text ≡ some_rest (is_like (chars after.now)) (chars rest.now))
