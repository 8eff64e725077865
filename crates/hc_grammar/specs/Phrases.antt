-- Phrases that many rules have.
use Rattle.std.specs.Prelude.{ℕ, Bool, true, false, List, [], ◌∷◌, ◌++◌, Option, Some, None}
use Rattle.hc_lex.specs.declared.token.TokenKind.{TokenKind}
use Rattle.hc_lex.specs.declared.token.TokenKind.TheVariants as kind
use Rattle.hc_lex.specs.declared.keyword.Keyword.{Keyword}
use Rattle.hc_grammar.specs.Marks.{Plain}
use Rattle.hc_grammar.specs.Terminals.{Name}
use Rattle.hc_grammar.specs.Grammar.{Grammar, Nothing, One, Word, Both, Made, Choice, Chain}

infixl 4 ◌⊛◌
-- one after the other: the first means what is made of the meaning of the second
abbrev pub ◌⊛◌ : {A B : Type 0} → Grammar (A → B) → Grammar A → Grammar B
g ⊛ h = Both (λ make x. make x) g h

-- a name
abbrev pub name : Grammar (List ℕ)
name = One Plain Name

-- lexemes of these kinds, and then a phrase
abbrev pub after_kinds : {A : Type 0} → List TokenKind → Grammar A → Grammar A
after_kinds [] g = g
after_kinds (kind ∷ kinds) g = Word Plain kind (after_kinds kinds g)

-- keywords, and then a phrase
abbrev pub after_words : {A : Type 0} → List Keyword → Grammar A → Grammar A
after_words [] g = g
after_words (word ∷ words) g = Word Plain (kind.Keyword word) (after_words words g)

-- a phrase, and then a lexeme of this kind
abbrev pub before : {A : Type 0} → Grammar A → TokenKind → Grammar A
before g kind = Both (λ x y. x) g (Word Plain kind (Nothing true))

-- a phrase or nothing
abbrev pub maybe : {A : Type 0} → Grammar A → Grammar (Option A)
maybe g = Choice (Made Some g) (Nothing None)

-- whether these words are there
abbrev pub flag : List Keyword → Grammar Bool
flag words = Choice (after_words words (Nothing true)) (Nothing false)

-- one more at the end
abbrev pub pushed : {A : Type 0} → List A → A → List A
pushed xs x = xs ++ x ∷ []

-- one or more, with commas between them
abbrev pub listed : {A : Type 0} → Grammar A → Grammar (List A)
listed g = Chain (Made (λ x. x ∷ []) g) (Word Plain kind.Comma g) pushed

-- in parentheses
abbrev pub enclosed : {A : Type 0} → Grammar A → Grammar A
enclosed g = Word Plain kind.LeftParen (before g kind.RightParen)

-- names in parentheses
abbrev pub names : Grammar (List (List ℕ))
names = enclosed (listed name)
