-- Precedence climbing, as the code reads expressions: precedences are numbers, from the loosest on. 3 is NOT before an
-- operand, and 9 an operand without operators.
use Rattle.std.specs.Prelude.{ℕ, zero, suc, nat_le, ◌&&◌, Bool, if◌then◌else◌, List, [], ◌∷◌, length, Ok}
use Rattle.hc_lex.specs.declared.token.TokenKind.TheVariants as kind
use Rattle.hc_lex.specs.declared.keyword.Keyword.TheVariants as word
use Rattle.hc_ast.specs.declared.expression.Expr.{Expr}
use Rattle.hc_ast.specs.declared.expression.Expr.TheVariants as expr
use Rattle.hc_grammar.specs.Lexemes.{Lexeme}
use Rattle.hc_grammar.specs.Kinds.{is, among, head_is}
use Rattle.hc_grammar.specs.Grammar.{Grammar, Level, Made, Within, Negation}
use Rattle.hc_grammar.specs.First.{first}
use Rattle.hc_grammar.specs.Runs.{Runner, and_then}
use Rattle.hc_grammar.specs.Expressions.{Tail, applied, Disjunction, Conjunction, Equality, Order, Sum, Product, Concatenation, tail_of, grouped, loose, tight, negated, unary}
use Rattle.hc_grammar.specs.Places.{run_of}

-- operands with operators between them of this precedence or tighter ones
abbrev pub operators_from : ℕ → Grammar Expr
operators_from zero = unary
operators_from (suc zero) = grouped loose negated
operators_from (suc (suc zero)) = grouped (Conjunction ∷ []) negated
operators_from (suc (suc (suc zero))) = negated
operators_from (suc (suc (suc (suc zero)))) = grouped tight unary
operators_from (suc (suc (suc (suc (suc zero))))) = grouped (Order ∷ Sum ∷ Product ∷ Concatenation ∷ []) unary
operators_from (suc (suc (suc (suc (suc (suc zero)))))) = grouped (Sum ∷ Product ∷ Concatenation ∷ []) unary
operators_from (suc (suc (suc (suc (suc (suc (suc zero))))))) = grouped (Product ∷ Concatenation ∷ []) unary
operators_from (suc (suc (suc (suc (suc (suc (suc (suc zero)))))))) = grouped (Concatenation ∷ []) unary
operators_from (suc (suc (suc (suc (suc (suc (suc (suc (suc n))))))))) = unary

-- an operator of this precedence with what follows it
abbrev pub tail_at : ℕ → Grammar Tail
tail_at zero = tail_of Concatenation unary
tail_at (suc zero) = tail_of Disjunction (operators_from 2)
tail_at (suc (suc zero)) = tail_of Conjunction (operators_from 3)
tail_at (suc (suc (suc zero))) = tail_of Concatenation unary
tail_at (suc (suc (suc (suc zero)))) = tail_of Equality (operators_from 5)
tail_at (suc (suc (suc (suc (suc zero))))) = tail_of Order (operators_from 6)
tail_at (suc (suc (suc (suc (suc (suc zero)))))) = tail_of Sum (operators_from 7)
tail_at (suc (suc (suc (suc (suc (suc (suc zero))))))) = tail_of Product (operators_from 8)
tail_at (suc (suc (suc (suc (suc (suc (suc (suc n)))))))) = tail_of Concatenation (operators_from 9)

-- the precedences of operators with two sides
abbrev pub precedences : List ℕ
precedences = 1 ∷ 2 ∷ 4 ∷ 5 ∷ 6 ∷ 7 ∷ 8 ∷ []

-- the first of these precedences whose operators begin so, and 0 where none does
abbrev pub precedence_among : List ℕ → List Lexeme → ℕ
precedence_among [] tokens = 0
precedence_among (p ∷ ps) tokens = if head_is (among (first (tail_at p))) tokens then p else precedence_among ps tokens

abbrev pub next_precedence : List Lexeme → ℕ
next_precedence tokens = precedence_among precedences tokens

abbrev pub is_between : ℕ → ℕ → ℕ → Bool
is_between least precedence most = nat_le least precedence && nat_le precedence most

-- The operators that follow a left operand, not looser than `least`. None is tighter than `most`, which is the one before.
-- The first number is that of levels, the third bounds how many there are.
abbrev pub climb : ℕ → ℕ → ℕ → ℕ → Expr → Runner Expr
climb levels least zero most left budget tokens = Ok (left, budget, tokens)
climb levels least (suc n) most left budget tokens =
    if is_between least (next_precedence tokens) most
    then and_then (run_of levels (tail_at (next_precedence tokens)) budget tokens) (λ tail. climb levels least n (next_precedence tokens) (applied left tail))
    else Ok (left, budget, tokens)

-- NOT and its operand
abbrev pub negation : Grammar Expr
negation = Level (kind.Keyword word.Not) (Made expr.Not (Within Negation))

-- NOT is next where an operand may begin with it
abbrev pub begins_negation : ℕ → List Lexeme → Bool
begins_negation least tokens = nat_le least 3 && head_is (is (kind.Keyword word.Not)) tokens

-- an operand, and the operators that follow it
abbrev pub climbed : ℕ → ℕ → Runner Expr
climbed levels least budget tokens =
    if begins_negation least tokens
    then and_then (run_of levels negation budget tokens) (λ left more rest. climb levels least (length rest) 2 left more rest)
    else and_then (run_of levels unary budget tokens) (λ left more rest. climb levels least (length rest) 8 left more rest)
