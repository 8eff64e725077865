-- Operators between operands that are written, all in parentheses.
use Rattle.std.proofs.Common.{◌≡◌, inl, inr, refl, sym, ap, ◌∙◌, ℕ, Bool, true, false, List, [], ◌∷◌, ◌++◌, codes, append_assoc, append-nil}
use Rattle.std.specs.Prelude.{if◌then◌else◌}
use Rattle.hc_lex.specs.declared.token.TokenKind.{TokenKind}
use Rattle.hc_lex.specs.declared.token.TokenKind.TheVariants as kind
use Rattle.hc_lex.specs.declared.keyword.Keyword.TheVariants as word
use Rattle.hc_lex.specs.Keywords.{table}
use Rattle.hc_ast.specs.declared.operator.BinaryOp.{BinaryOp}
use Rattle.hc_ast.specs.declared.operator.BinaryOp.TheVariants as op
use Rattle.hc_ast.specs.declared.expression.Expr.{Expr}
use Rattle.hc_ast.specs.declared.expression.Expr.TheVariants as expr
use Rattle.hc_ast.specs.Words.{Words, enclosed}
use Rattle.hc_ast.specs.Expressions.{operator_words, expression_words}
use Rattle.hc_grammar.specs.Lexemes.{Lexeme}
use Rattle.hc_grammar.specs.Marks.{Plain, Operator, Mark, At}
use Rattle.hc_grammar.specs.Terminals.{Kinds, IsOneOf}
use Rattle.hc_grammar.specs.Grammar.{Grammar, Word, Choice, Chain, Within, Place, Whole}
use Rattle.hc_grammar.specs.Has.{has}
use Rattle.hc_grammar.specs.Phrases as phrase
use Rattle.hc_grammar.specs.Expressions.{Tail, Binary, applied, Precedence, Disjunction, Conjunction, Equality, Order, Sum, Product, Concatenation, signs_of, sign_tail, test_tail, word_tail, grouped, tight, loose, negated, unary}
use Rattle.hc_grammar.specs.Places.{body, Nested}
use Rattle.hc_grammar.proofs.Places.Nested.{alone}
use Rattle.hc_grammar.proofs.Again.Apart.{IsApart}
use Rattle.hc_grammar.proofs.Again.Words as words
use Rattle.hc_grammar.proofs.Again.Words.{of, spelled}
use Rattle.hc_grammar.proofs.Again.Written.{Written, AnOperator, counts, counts-append, same_words, like, seen_as, deeper, empty, one, both, this, other, keyword, level, before}
use Rattle.hc_grammar.proofs.Again.Chains.{chain_start, chain_more}
use Rattle.hc_grammar.proofs.Again.Trees.{binary_tree}

-- the words of the tree are an operand
abbrev pub Fine : Expr → List Mark → Type 0
Fine x m = Written Nested (expression_words x) unary x m

-- an operand is a whole expression
pub to_whole : (x : Expr) (n : ℕ) (l : List Mark) → has (Nested n) unary x l → has (Nested n) (body Whole) x l
unfolding has
to_whole x n l h = alone (Nested n) loose negated x l (inr (alone (Nested n) tight unary x l h))

-- what is at a place is found there one level further in
pub within : {A : Type 0} {x : A} {w : Words} {m : List Mark} (place : Place A) → Written Nested w (body place) x m → Written Nested w (Within place) x m
unfolding has Nested
within {x = x} place a = deeper (Within place) x (λ n l h. h) a

-- an expression in parentheses is an operand
pub in_parentheses : {w : Words} {m : List Mark} (x : Expr) → expression_words x ≡ enclosed w → Written Nested w (body Whole) x m → Fine x m
in_parentheses {m = m} x is a =
    same_words is
    (like m (counts-append m (At Plain words.paren ∷ []) ∙ append-nil (counts m))
    (other _ (other _ (other _ (other _ (level kind.LeftParen (codes "(") words.left_paren (before kind.RightParen (codes ")") words.paren words.right_paren (within Whole a))))))))

-- An operator of one lexeme between two operands. `og` is what the operands are of.
module _ (og : Grammar Expr) (emb : (x : Expr) (n : ℕ) (l : List Mark) → has (Nested n) unary x l → has (Nested n) og x l) where
  pub operand : {x : Expr} {m : List Mark} → Fine x m → Written Nested (expression_words x) og x m
  operand {x = x} a = seen_as og x (emb x) a

  -- an operator with its right operand
  signed_tail : {right : Expr} {mr : List Mark} (p : Precedence) (o : BinaryOp) (k : TokenKind) (text : List ℕ) (u : Lexeme) → IsApart (of k text) → IsOneOf k o (signs_of p) → Fine right mr
      → Written Nested (text ∷ expression_words right) (sign_tail p og) (Binary o right) (At Operator u ∷ mr)
  signed_tail p o k text u apart is right = both Binary (one Operator (Kinds (signs_of p)) o k text u apart is) (operand right)

  -- a tail after a left operand
  pub after_left : {left : Expr} {t : Tail} {w : Words} {ml k : List Mark} {g : Grammar Tail} → Fine left ml → Written Nested w g t k
      → Written Nested (expression_words left ++ w) (Chain og g applied) (applied left t) (ml ++ k)
  after_left {g = g} left tail = chain_more (chain_start g applied (operand left)) tail

  pub sign_written : {left right : Expr} {ml mr : List Mark} (p : Precedence) (o : BinaryOp) (k : TokenKind) (text : List ℕ) (u : Lexeme) → IsApart (of k text) → IsOneOf k o (signs_of p)
      → Fine left ml → Fine right mr → Written Nested (expression_words left ++ text ∷ expression_words right) (Chain og (sign_tail p og) applied) (expr.Binary o left right) (ml ++ At Operator u ∷ mr)
  sign_written p o k text u apart is left right = after_left left (signed_tail p o k text u apart is right)

-- an operand of AND and OR, and of those that bind tighter
pub alone_in : (ps : List Precedence) (x : Expr) (n : ℕ) (l : List Mark) → has (Nested n) unary x l → has (Nested n) (grouped ps unary) x l
alone_in ps x n l h = alone (Nested n) ps unary x l h

negated_in : (ps : List Precedence) (x : Expr) (n : ℕ) (l : List Mark) → has (Nested n) unary x l → has (Nested n) (grouped ps negated) x l
unfolding has
negated_in ps x n l h = alone (Nested n) ps negated x l (inr (alone (Nested n) tight unary x l h))

-- what is of the tight precedences, and of AND, is a whole expression
pub tight_whole : {x : Expr} {w : Words} {m : List Mark} → Written Nested w (grouped tight unary) x m → Written Nested w (body Whole) x m
unfolding has
tight_whole {x = x} a = seen_as (body Whole) x (λ n l h. alone (Nested n) loose negated x l (inr h)) a

abbrev pub after_equality : List Precedence
after_equality = Order ∷ Sum ∷ Product ∷ Concatenation ∷ []

-- an operator of a tight precedence, as a whole expression
module _ (left right : Expr) (ml mr : List Mark) (one : Fine left ml) (two : Fine right mr) (u : Lexeme) where
  abbrev Wholly : BinaryOp → Type 0
  Wholly o = Written Nested (expression_words left ++ (operator_words o ++ expression_words right)) (body Whole) (expr.Binary o left right) (ml ++ At Operator u ∷ mr)

  order : (o : BinaryOp) (k : TokenKind) (text : List ℕ) → IsApart (of k text) → IsOneOf k o (signs_of Order) → Written Nested (expression_words left ++ text ∷ expression_words right) (body Whole) (expr.Binary o left right) (ml ++ At Operator u ∷ mr)
  order o k text apart is =
      let a = sign_written (grouped (Sum ∷ Product ∷ Concatenation ∷ []) unary) (alone_in (Sum ∷ Product ∷ Concatenation ∷ [])) Order o k text u apart is one two in
      tight_whole (seen_as (grouped tight unary) (expr.Binary o left right) (λ n l h. alone (Nested n) (Equality ∷ []) (grouped (Order ∷ Sum ∷ Product ∷ Concatenation ∷ []) unary) (expr.Binary o left right) l h) a)

  sum : (o : BinaryOp) (k : TokenKind) (text : List ℕ) → IsApart (of k text) → IsOneOf k o (signs_of Sum) → Written Nested (expression_words left ++ text ∷ expression_words right) (body Whole) (expr.Binary o left right) (ml ++ At Operator u ∷ mr)
  sum o k text apart is =
      let a = sign_written (grouped (Product ∷ Concatenation ∷ []) unary) (alone_in (Product ∷ Concatenation ∷ [])) Sum o k text u apart is one two in
      tight_whole (seen_as (grouped tight unary) (expr.Binary o left right) (λ n l h. alone (Nested n) (Equality ∷ Order ∷ []) (grouped (Sum ∷ Product ∷ Concatenation ∷ []) unary) (expr.Binary o left right) l h) a)

  product : (o : BinaryOp) (k : TokenKind) (text : List ℕ) → IsApart (of k text) → IsOneOf k o (signs_of Product) → Written Nested (expression_words left ++ text ∷ expression_words right) (body Whole) (expr.Binary o left right) (ml ++ At Operator u ∷ mr)
  product o k text apart is =
      let a = sign_written (grouped (Concatenation ∷ []) unary) (alone_in (Concatenation ∷ [])) Product o k text u apart is one two in
      tight_whole (seen_as (grouped tight unary) (expr.Binary o left right) (λ n l h. alone (Nested n) (Equality ∷ Order ∷ Sum ∷ []) (grouped (Product ∷ Concatenation ∷ []) unary) (expr.Binary o left right) l h) a)

  concatenation : Wholly op.Concat
  concatenation =
      let a = sign_written unary (λ x n l h. h) Concatenation op.Concat kind.DoubleBar (codes "||") u words.double_bar (inl (refl, refl)) one two in
      tight_whole (seen_as (grouped tight unary) (expr.Binary op.Concat left right) (λ n l h. alone (Nested n) (Equality ∷ Order ∷ Sum ∷ Product ∷ []) (grouped (Concatenation ∷ []) unary) (expr.Binary op.Concat left right) l h) a)

  equality : (o : BinaryOp) (k : TokenKind) (text : List ℕ) → IsApart (of k text) → IsOneOf k o (signs_of Equality) → Written Nested (expression_words left ++ text ∷ expression_words right) (body Whole) (expr.Binary o left right) (ml ++ At Operator u ∷ mr)
  equality o k text apart is =
      tight_whole (after_left (grouped after_equality unary) (alone_in after_equality) one
      (this (word_tail (grouped after_equality unary)) (signed_tail (grouped after_equality unary) (alone_in after_equality) Equality o k text u apart is two)))

  is_or_not : (is_negated : Bool) (w : Words) (m : List Mark) → Written Nested w (phrase.flag (word.Not ∷ [])) is_negated m → counts m ≡ []
      → Written Nested (expression_words left ++ spelled word.Is ∷ (w ++ expression_words right)) (body Whole) (expr.Binary (if is_negated then op.IsNot else op.Is) left right) (ml ++ At Operator u ∷ mr)
  is_or_not is_negated w m flag none =
      tight_whole (like (ml ++ At Operator u ∷ mr)
      (counts-append ml (At Operator u ∷ (m ++ mr)) ∙ ap (λ l. counts ml ++ (AnOperator ∷ l)) (counts-append m mr ∙ ap (λ l. l ++ counts mr) none) ∙ sym (counts-append ml (At Operator u ∷ mr)))
      (after_left (grouped after_equality unary) (alone_in after_equality) one
      (other (sign_tail Equality (grouped after_equality unary))
      (this (Choice (Word Operator (kind.Keyword word.Not) (test_tail Plain true (grouped after_equality unary))) (test_tail Operator false (grouped after_equality unary)))
      (keyword Operator word.Is u (both (λ (n : Bool) (r : Expr). Binary (if n then op.IsNot else op.Is) r) flag (operand (grouped after_equality unary) (alone_in after_equality) two)))))))

  conjunction : Wholly op.And
  unfolding spelled table
  conjunction =
      let a = sign_written negated (negated_in []) Conjunction op.And (kind.Keyword word.And) (spelled word.And) u (words.keyword word.And) (inl (refl, refl)) one two in
      seen_as (body Whole) (expr.Binary op.And left right) (λ n l h. alone (Nested n) (Disjunction ∷ []) (grouped (Conjunction ∷ []) negated) (expr.Binary op.And left right) l h) a

  disjunction : Wholly op.Or
  unfolding spelled table
  disjunction = sign_written (grouped (Conjunction ∷ []) negated) (negated_in (Conjunction ∷ [])) Disjunction op.Or (kind.Keyword word.Or) (spelled word.Or) u (words.keyword word.Or) (inl (refl, refl)) one two

  -- each operator
  wholly : (o : BinaryOp) → Wholly o
  unfolding spelled table
  wholly op.Or = disjunction
  wholly op.And = conjunction
  wholly op.Eq = equality op.Eq kind.Equal (codes "=") words.equal (inl (refl, refl))
  wholly op.Ne = equality op.Ne kind.LessGreater (codes "<>") words.less_greater (inr (inr (inl (refl, refl))))
  wholly op.Is = is_or_not false [] [] (other _ (empty false)) refl
  wholly op.IsNot = is_or_not true (spelled word.Not ∷ []) (At Plain u ∷ []) (this _ (keyword Plain word.Not u (empty true))) refl
  wholly op.Lt = order op.Lt kind.Less (codes "<") words.less (inl (refl, refl))
  wholly op.Le = order op.Le kind.LessEqual (codes "<=") words.less_equal (inr (inl (refl, refl)))
  wholly op.Gt = order op.Gt kind.Greater (codes ">") words.greater (inr (inr (inl (refl, refl))))
  wholly op.Ge = order op.Ge kind.GreaterEqual (codes ">=") words.greater_equal (inr (inr (inr (inl (refl, refl)))))
  wholly op.Add = sum op.Add kind.Plus (codes "+") words.plus (inl (refl, refl))
  wholly op.Sub = sum op.Sub kind.Minus (codes "-") words.minus (inr (inl (refl, refl)))
  wholly op.Mul = product op.Mul kind.Star (codes "*") words.star (inl (refl, refl))
  wholly op.Div = product op.Div kind.Slash (codes "/") words.slash (inr (inl (refl, refl)))
  wholly op.Rem = product op.Rem kind.Percent (codes "%") words.percent (inr (inr (inl (refl, refl))))
  wholly op.Concat = concatenation

  -- an operator between operands is an operand in parentheses
  pub binary_again : (o : BinaryOp) → Fine (expr.Binary o left right) (ml ++ At Operator u ∷ mr)
  binary_again o =
      in_parentheses (expr.Binary o left right) (binary_tree o left right ∙ ap enclosed (append_assoc (expression_words left) (operator_words o) (expression_words right))) (wholly o)
