-- A grammar as a value, of the type of what its phrases mean.
use Rattle.std.specs.Prelude.{Bool, true, false, ◌&&◌}
use Rattle.hc_lex.specs.declared.token.TokenKind.{TokenKind}
use Rattle.hc_ast.specs.declared.expression.Expr.{Expr}
use Rattle.hc_ast.specs.declared.query.Item.{Item}
use Rattle.hc_grammar.specs.Marks.{Label}
use Rattle.hc_grammar.specs.Terminals.{Terminal}

-- What a grammar refers to by name: an expression, an operand of NOT, an operand of a sign, and one thing
-- that a query asks for.
pub data Place : Type 0 → Type 1 where
  Whole : Place Expr
  Negation : Place Expr
  Signed : Place Expr
  Asked : Place Item

-- - Nothing x: no lexeme, and x is the meaning.
-- - One label t: one lexeme, with the meaning that it has as a terminal.
-- - Word label kind g: a lexeme of this kind, and then g.
-- - Level kind g: a lexeme of this kind that opens a level, and then g, at whose end the level ends.
-- - Both f g h: g and then h. Depending f g test h k: after an x of g with `test x` comes h, after another one k.
-- - Made f g: g, of whose meaning another one is made.
-- - Choice g h: g or h.
-- - Chain g h join: g and then h any number of times, each meaning joined to the one before it.
-- - Phased g test h k join: the same, where h comes after an x with `test x`, and k after another one.
-- - Within place: what the place has.
-- - Begin g: g, in which operators are counted anew.
pub data Grammar : Type 0 → Type 1 where
  Nothing : {A : Type 0} → A → Grammar A
  One : {A : Type 0} → Label → Terminal A → Grammar A
  Word : {A : Type 0} → Label → TokenKind → Grammar A → Grammar A
  Level : {A : Type 0} → TokenKind → Grammar A → Grammar A
  Both : {A B C : Type 0} → (A → B → C) → Grammar A → Grammar B → Grammar C
  Depending : {A B C : Type 0} → (A → B → C) → Grammar A → (A → Bool) → Grammar B → Grammar B → Grammar C
  Made : {A B : Type 0} → (A → B) → Grammar A → Grammar B
  Choice : {A : Type 0} → Grammar A → Grammar A → Grammar A
  Chain : {A B : Type 0} → Grammar B → Grammar A → (B → A → B) → Grammar B
  Phased : {A B : Type 0} → Grammar B → (B → Bool) → Grammar A → Grammar A → (B → A → B) → Grammar B
  Within : {A : Type 0} → Place A → Grammar A
  Begin : {A : Type 0} → Grammar A → Grammar A

-- what is referred to is within a level
abbrev pub is_guarded : {A : Type 0} → Grammar A → Bool
is_guarded (Nothing x) = true
is_guarded (One label terminal) = true
is_guarded (Word label kind g) = is_guarded g
is_guarded (Level kind g) = true
is_guarded (Both f g h) = is_guarded g && is_guarded h
is_guarded (Depending f g test h k) = is_guarded g && (is_guarded h && is_guarded k)
is_guarded (Made f g) = is_guarded g
is_guarded (Choice g h) = is_guarded g && is_guarded h
is_guarded (Chain g h join) = is_guarded g && is_guarded h
is_guarded (Phased g test h k join) = is_guarded g && (is_guarded h && is_guarded k)
is_guarded (Within place) = false
is_guarded (Begin g) = is_guarded g
