-- What follows a left operand, as the code sees it.
use Rattle.std.specs.Prelude.{ℕ, Bool, true, false, if◌then◌else◌, List, [], ◌∷◌, Option, Some, None, Result, Ok, Err}
use Rattle.hc_lex.specs.declared.token.TokenKind.{TokenKind}
use Rattle.hc_lex.specs.declared.token.TokenKind.TheVariants as kind
use Rattle.hc_lex.specs.declared.keyword.Keyword.{Keyword}
use Rattle.hc_lex.specs.declared.keyword.Keyword.TheVariants as word
use Rattle.hc_ast.specs.declared.expression.Expr.{Expr}
use Rattle.hc_ast.specs.declared.operator.BinaryOp.{BinaryOp}
use Rattle.hc_ast.specs.declared.operator.BinaryOp.TheVariants as op
use Rattle.hc_parse.specs.declared.stop.Stop.{Stop as Halt}
use Rattle.hc_parse.specs.declared.tails.Tail.{Tail as Followed}
use Rattle.hc_parse.specs.declared.tails.Tail.TheVariants as followed
use Rattle.hc_grammar.specs.Expressions.{Tail, Binary, In, Like, Between, test_tail}
use Rattle.hc_grammar.specs.Grammar.{Grammar, Word, Both, Choice}
use Rattle.hc_grammar.specs.Lexemes.{Lexeme}
use Rattle.hc_grammar.specs.Marks.{Plain}
use Rattle.hc_grammar.specs.Phrases.{flag}

-- the same in the grammar's words
abbrev pub tail_seen : Followed → Tail
tail_seen (followed.Binary op right) = Binary op right
tail_seen (followed.OneOf is_negated list) = In is_negated list
tail_seen (followed.Like is_negated pattern) = Like is_negated pattern
tail_seen (followed.Between is_negated low high) = Between is_negated low high

abbrev pub answer_seen : Result Followed Halt → Result Tail Halt
answer_seen (Ok tail) = Ok (tail_seen tail)
answer_seen (Err stop) = Err stop

-- IS, or a test, of which the operator is taken already
abbrev pub word_tail_after : Grammar Expr → Grammar Tail
word_tail_after operand =
    Choice (Word Plain (kind.Keyword word.Is) (Both (λ is_negated. Binary (if is_negated then op.IsNot else op.Is)) (flag (word.Not ∷ [])) operand))
    (Choice (Word Plain (kind.Keyword word.Not) (test_tail Plain true operand)) (test_tail Plain false operand))

-- the precedence of an operator that begins with this kind, and 0 where none does
abbrev pub precedence_of : TokenKind → ℕ
precedence_of (kind.Keyword word.Or) = 1
precedence_of (kind.Keyword word.And) = 2
precedence_of (kind.Keyword word.Is) = 4
precedence_of (kind.Keyword word.Not) = 4
precedence_of (kind.Keyword word.In) = 4
precedence_of (kind.Keyword word.Like) = 4
precedence_of (kind.Keyword word.Between) = 4
precedence_of kind.Equal = 4
precedence_of kind.DoubleEqual = 4
precedence_of kind.LessGreater = 4
precedence_of kind.NotEqual = 4
precedence_of kind.Less = 5
precedence_of kind.LessEqual = 5
precedence_of kind.Greater = 5
precedence_of kind.GreaterEqual = 5
precedence_of kind.Plus = 6
precedence_of kind.Minus = 6
precedence_of kind.Star = 7
precedence_of kind.Slash = 7
precedence_of kind.Percent = 7
precedence_of kind.DoubleBar = 8
precedence_of other = 0

-- the operator that is one lexeme of this kind
abbrev pub sign_of : TokenKind → Option BinaryOp
sign_of (kind.Keyword word.Or) = Some op.Or
sign_of (kind.Keyword word.And) = Some op.And
sign_of kind.Equal = Some op.Eq
sign_of kind.DoubleEqual = Some op.Eq
sign_of kind.LessGreater = Some op.Ne
sign_of kind.NotEqual = Some op.Ne
sign_of kind.Less = Some op.Lt
sign_of kind.LessEqual = Some op.Le
sign_of kind.Greater = Some op.Gt
sign_of kind.GreaterEqual = Some op.Ge
sign_of kind.Plus = Some op.Add
sign_of kind.Minus = Some op.Sub
sign_of kind.Star = Some op.Mul
sign_of kind.Slash = Some op.Div
sign_of kind.Percent = Some op.Rem
sign_of kind.DoubleBar = Some op.Concat
sign_of other = None

abbrev pub next_sign : List Lexeme → Option BinaryOp
next_sign [] = None
next_sign (lexeme ∷ rest) = sign_of lexeme.kind
