-- Expressions. The precedence is after SQLite's lang_expr.html, on operators; that the tests of `=`'s level take
-- operands of the next level, so no NOT, is a rule of our own.
use Rattle.std.specs.Prelude.{ℕ, ◌^◌, ◌-◌, negsuc, Bool, true, false, if◌then◌else◌, List, [], ◌∷◌, Some, None}
use Rattle.hc_lex.specs.declared.token.TokenKind.{TokenKind}
use Rattle.hc_lex.specs.declared.token.TokenKind.TheVariants as kind
use Rattle.hc_lex.specs.declared.keyword.Keyword.TheVariants as word
use Rattle.hc_value.specs.declared.value.Value.TheVariants.{Int}
use Rattle.hc_ast.specs.declared.operator.BinaryOp.{BinaryOp}
use Rattle.hc_ast.specs.declared.operator.BinaryOp.TheVariants as op
use Rattle.hc_ast.specs.declared.expression.Expr.{Expr}
use Rattle.hc_ast.specs.declared.expression.Expr.TheVariants as expr
use Rattle.hc_grammar.specs.Marks.{Label, Plain, Operator}
use Rattle.hc_grammar.specs.Terminals.{Kinds, Literal}
use Rattle.hc_grammar.specs.Grammar.{Grammar, Nothing, One, Word, Level, Both, Made, Choice, Chain, Within, Begin, Whole, Negation, Signed}
use Rattle.hc_grammar.specs.Phrases.{name, before, flag, listed}

-- What follows a left operand: an operator with two sides and its right one, or one of the tests IN, LIKE and BETWEEN,
-- which NOT may turn round.
pub data Tail : Type 0 where
  Binary : BinaryOp → Expr → Tail
  In : Bool → List Expr → Tail
  Like : Bool → Expr → Tail
  Between : Bool → Expr → Expr → Tail

-- what it makes of the left operand
abbrev pub applied : Expr → Tail → Expr
applied left (Binary op right) = expr.Binary op left right
applied left (In is_negated list) = expr.OneOf is_negated left list
applied left (Like is_negated pattern) = expr.Like is_negated left pattern
applied left (Between is_negated low high) = expr.Between is_negated left low high

-- the precedences of operators with two sides
pub data Precedence : Type 0 where
  Disjunction : Precedence
  Conjunction : Precedence
  Equality : Precedence
  Order : Precedence
  Sum : Precedence
  Product : Precedence
  Concatenation : Precedence

-- the operators of a precedence that are one lexeme
abbrev pub signs_of : Precedence → List (TokenKind × BinaryOp)
signs_of Disjunction = (kind.Keyword word.Or, op.Or) ∷ []
signs_of Conjunction = (kind.Keyword word.And, op.And) ∷ []
signs_of Equality = (kind.Equal, op.Eq) ∷ (kind.DoubleEqual, op.Eq) ∷ (kind.LessGreater, op.Ne) ∷ (kind.NotEqual, op.Ne) ∷ []
signs_of Order = (kind.Less, op.Lt) ∷ (kind.LessEqual, op.Le) ∷ (kind.Greater, op.Gt) ∷ (kind.GreaterEqual, op.Ge) ∷ []
signs_of Sum = (kind.Plus, op.Add) ∷ (kind.Minus, op.Sub) ∷ []
signs_of Product = (kind.Star, op.Mul) ∷ (kind.Slash, op.Div) ∷ (kind.Percent, op.Rem) ∷ []
signs_of Concatenation = (kind.DoubleBar, op.Concat) ∷ []

-- an operator of one lexeme and its right operand
abbrev pub sign_tail : Precedence → Grammar Expr → Grammar Tail
sign_tail precedence operand = Both Binary (One Operator (Kinds (signs_of precedence))) operand

-- expressions in parentheses that open a level
abbrev pub arguments : Grammar (List Expr)
arguments = Level kind.LeftParen (before (listed (Within Whole)) kind.RightParen)

-- IN, LIKE or BETWEEN; the AND of BETWEEN is no operator
abbrev pub test_tail : Label → Bool → Grammar Expr → Grammar Tail
test_tail label is_negated operand =
    Choice (Word label (kind.Keyword word.In) (Made (In is_negated) arguments))
    (Choice (Word label (kind.Keyword word.Like) (Made (Like is_negated) operand))
    (Word label (kind.Keyword word.Between) (Both (Between is_negated) (before operand (kind.Keyword word.And)) operand)))

-- IS, IS NOT, or a test, which may have a NOT before it
abbrev pub word_tail : Grammar Expr → Grammar Tail
word_tail operand =
    Choice (Word Operator (kind.Keyword word.Is) (Both (λ is_negated. Binary (if is_negated then op.IsNot else op.Is)) (flag (word.Not ∷ [])) operand))
    (Choice (Word Operator (kind.Keyword word.Not) (test_tail Plain true operand)) (test_tail Operator false operand))

-- what follows a left operand at a precedence
abbrev pub tail_of : Precedence → Grammar Expr → Grammar Tail
tail_of Disjunction operand = sign_tail Disjunction operand
tail_of Conjunction operand = sign_tail Conjunction operand
tail_of Equality operand = Choice (sign_tail Equality operand) (word_tail operand)
tail_of Order operand = sign_tail Order operand
tail_of Sum operand = sign_tail Sum operand
tail_of Product operand = sign_tail Product operand
tail_of Concatenation operand = sign_tail Concatenation operand

-- Operands with operators of these precedences between them, the loosest first. Each groups to the left.
abbrev pub grouped : List Precedence → Grammar Expr → Grammar Expr
grouped [] operand = operand
grouped (precedence ∷ tighter) operand = Chain (grouped tighter operand) (tail_of precedence (grouped tighter operand)) applied

-- what a name begins: a column with its table's name, a call, or a column
abbrev pub after_name : Grammar (List ℕ → Expr)
after_name =
    Choice (Word Plain kind.Dot (Made (λ column table. expr.Name (Some table) column) name))
    (Choice (Level kind.LeftParen (Choice (Word Plain kind.Star (Word Plain kind.RightParen (Nothing expr.CallAll)))
    (Made (λ args called. expr.Call called args) (before (listed (Within Whole)) kind.RightParen))))
    (Nothing (λ column. expr.Name None column)))

-- a literal, NULL, a name, a call, or an expression in parentheses
abbrev pub primary : Grammar Expr
primary =
    Choice (Made expr.Value (One Plain Literal))
    (Choice (Both (λ x make. make x) name after_name)
    (Level kind.LeftParen (before (Within Whole) kind.RightParen)))

-- The least integer is its minus and 9223372036854775808, which comes nowhere else. Any other sign has an operand.
abbrev pub unary : Grammar Expr
unary =
    Choice (Level kind.Minus (Choice (Word Plain (kind.Integer (2 ^ 63)) (Nothing (expr.Value (Int (negsuc (2 ^ 63 - 1)))))) (Made expr.Minus (Within Signed))))
    (Choice (Level kind.Plus (Made expr.Plus (Within Signed))) primary)

-- the precedences that bind tighter than NOT, and those that bind looser
abbrev pub tight : List Precedence
tight = Equality ∷ Order ∷ Sum ∷ Product ∷ Concatenation ∷ []

abbrev pub loose : List Precedence
loose = Disjunction ∷ Conjunction ∷ []

-- NOT before an operand
abbrev pub negated : Grammar Expr
negated = Choice (Level (kind.Keyword word.Not) (Made expr.Not (Within Negation))) (grouped tight unary)

-- an expression that is part of no other
abbrev pub expression : Grammar Expr
expression = Begin (Within Whole)
