-- LIKE, on lists of characters: `%` (37) is for any characters and `_` (95) for one; letters of ASCII are
-- the same in either case. After https://www.sqlite.org/lang_expr.html, "The LIKE, GLOB, REGEXP, MATCH,
-- and extract operators".
use Rattle.std.specs.Prelude.{ℕ, ◌+◌, List, [], ◌∷◌, ◌≡◌, ◌<◌, ◌≤◌, length, drop, Bool, true, false, ◌&&◌, ◌||◌, nat_eq, nat_le, if◌then◌else◌}

-- a letter of ASCII in lower case
abbrev pub lower : ℕ → ℕ
lower c = if nat_le 65 c && nat_le c 90 then c + 32 else c

-- whether a character of the text passes at one of the pattern that is not `%`
abbrev pub passes : ℕ → ℕ → Bool
passes p c = nat_eq p 95 || nat_eq (lower p) (lower c)

-- whether a rest of the text is good, the text itself and the end among them
abbrev pub some_rest : (List ℕ → Bool) → List ℕ → Bool
some_rest is_good [] = is_good []
some_rest is_good (c ∷ text) = is_good (c ∷ text) || some_rest is_good text

-- whether the text has a first character that passes, and its rest is good
abbrev pub first_and_rest : (ℕ → Bool) → (List ℕ → Bool) → List ℕ → Bool
first_and_rest first is_good [] = false
first_and_rest first is_good (c ∷ text) = first c && is_good text

-- whether the text is like the pattern
abbrev pub is_like : List ℕ → List ℕ → Bool
is_like [] [] = true
is_like [] (c ∷ text) = false
is_like (p ∷ pattern) text =
    if nat_eq p 37 then some_rest (is_like pattern) text else first_and_rest (passes p) (is_like pattern) text

-- The search for a pattern goes from the front of a text on, without looking back.

-- the front of a pattern is met by the front of a text: what is left of both
pub record Meets (from : List ℕ) (text : List ℕ) (pattern : List ℕ) (rest : List ℕ) : Type 0 where
  pub passed : ℕ
  pub rest_is : rest ≡ drop passed text
  pub shorter : length pattern ≤ length from
  -- a text that is like the whole is, past as many characters, like what is left
  pub onward : (other : List ℕ) → is_like from other ≡ true → is_like pattern (drop passed other) ≡ true
  -- and this text is like the whole, if its rest is like what is left
  pub back : is_like pattern rest ≡ true → is_like from text ≡ true

-- the front up to a `%` is met: the pattern after it, and the rest of the text
pub record Reaches (from : List ℕ) (text : List ℕ) (pattern : List ℕ) (rest : List ℕ) : Type 0 where
  pub passed : ℕ
  pub rest_is : rest ≡ drop passed text
  pub shorter : length pattern < length from
  pub onward : (other : List ℕ) → is_like from other ≡ true → some_rest (is_like pattern) (drop passed other) ≡ true
  pub back : some_rest (is_like pattern) rest ≡ true → is_like from text ≡ true
