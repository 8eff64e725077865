-- Marks: the lexemes of a statement with what each is to the limits, and where a level ends or an expression begins
-- that is part of no other.
use Rattle.std.specs.Prelude.{◌≡◌, ℕ, zero, suc, ◌-◌, ◌&&◌, not, Bool, true, false, List, [], ◌∷◌}
use Rattle.hc_grammar.specs.Lexemes.{Lexeme}

-- what is counted
pub data Label : Type 0 where
  Plain : Label
  Operator : Label
  Table : Label

-- a lexeme, one that opens a level, and what is between two lexemes
pub data Mark : Type 0 where
  At : Label → Lexeme → Mark
  Opens : Lexeme → Mark
  Closes : Mark
  Begins : Mark

-- the lexemes that are marked
abbrev pub lexemes : List Mark → List Lexeme
lexemes [] = []
lexemes (At label lexeme ∷ marks) = lexeme ∷ lexemes marks
lexemes (Opens lexeme ∷ marks) = lexeme ∷ lexemes marks
lexemes (Closes ∷ marks) = lexemes marks
lexemes (Begins ∷ marks) = lexemes marks

-- how many levels may be open at once, how many operators one expression may have, and how many tables FROM
pub record Limits : Type 0 where
  pub levels : ℕ
  pub operators : ℕ
  pub tables : ℕ

-- those of the parser
abbrev pub limits : Limits
limits = record { levels = 100; operators = 1000; tables = 8 }

-- none may come
abbrev pub is_none : ℕ → Bool
is_none zero = true
is_none (suc n) = false

-- the lexeme is one too many, where so many may still come
abbrev pub is_over : Limits → Mark → Bool
is_over left (At Plain lexeme) = false
is_over left (At Operator lexeme) = is_none left.operators
is_over left (At Table lexeme) = is_none left.tables
is_over left (Opens lexeme) = is_none left.levels
is_over left Closes = false
is_over left Begins = false

-- how many may come after it
abbrev pub after : Limits → Limits → Mark → Limits
after all left (At Plain lexeme) = left
after all left (At Operator lexeme) = record left { operators = left.operators - 1 }
after all left (At Table lexeme) = record left { tables = left.tables - 1 }
after all left (Opens lexeme) = record left { levels = left.levels - 1 }
after all left Closes = record left { levels = suc left.levels }
after all left Begins = record left { operators = all.operators }

-- no lexeme is one too many
abbrev pub fits : Limits → Limits → List Mark → Bool
fits all left [] = true
fits all left (mark ∷ marks) = not (is_over left mark) && fits all (after all left mark) marks

abbrev pub Fits : Limits → List Mark → Type 0
Fits all marks = fits all all marks ≡ true
