-- NOT, signs, and the tests IN, LIKE and BETWEEN are written again.
use Rattle.std.proofs.Common.{◌≡◌, inr, refl, sym, ap, ◌∙◌, Bool, true, false, List, [], ◌∷◌, ◌++◌, map, codes, append_assoc, append-nil}
use Rattle.hc_lex.specs.declared.token.TokenKind.TheVariants as kind
use Rattle.hc_lex.specs.declared.keyword.Keyword.TheVariants as word
use Rattle.hc_lex.specs.Keywords.{table}
use Rattle.hc_ast.specs.declared.expression.Expr.{Expr}
use Rattle.hc_ast.specs.declared.expression.Expr.TheVariants as expr
use Rattle.hc_ast.specs.Words.{Words, enclosed, listed, words_if}
use Rattle.hc_ast.specs.Expressions.{expression_words}
use Rattle.hc_grammar.specs.Lexemes.{Lexeme}
use Rattle.hc_grammar.specs.Marks.{Label, Plain, Operator, Mark, At}
use Rattle.hc_grammar.specs.Grammar.{Grammar, Word, Negation, Signed, Whole}
use Rattle.hc_grammar.specs.Has.{has}
use Rattle.hc_grammar.specs.Expressions.{Tail, applied, In, Like, Between, Equality, arguments, test_tail, sign_tail, tail_of, grouped, tight, loose, negated, unary}
use Rattle.hc_grammar.specs.Places.{body, Nested}
use Rattle.hc_grammar.proofs.Places.Nested.{alone}
use Rattle.hc_grammar.proofs.Again.Words as words
use Rattle.hc_grammar.proofs.Again.Words.{spelled}
use Rattle.hc_grammar.proofs.Again.Written.{Written, counts, counts-append, same_words, like, meaning, seen_as, both, made, this, other, keyword, level, before}
use Rattle.hc_grammar.proofs.Again.Operators.{Fine, to_whole, within, in_parentheses, operand, after_left, after_equality, alone_in, tight_whole}
use Rattle.hc_grammar.proofs.Again.Trees.{not_tree, minus_tree, plus_tree, one_of_tree, like_tree, between_tree}

-- NOT before an operand
pub not_again : (x : Expr) (m : List Mark) → Fine x m → Fine (expr.Not x) m
unfolding has spelled table
not_again x m a =
    in_parentheses (expr.Not x) (not_tree x)
    (seen_as (body Whole) (expr.Not x) (λ n l h. alone (Nested n) loose negated (expr.Not x) l h)
    (this (grouped tight unary) (level (kind.Keyword word.Not) (spelled word.Not) (words.keyword word.Not)
    (made expr.Not (within Negation (seen_as negated x (λ n l h. inr (alone (Nested n) tight unary x l h)) a))))))

-- a sign before an operand
pub minus_again : (x : Expr) (m : List Mark) → Fine x m → Fine (expr.Minus x) m
minus_again x m a =
    in_parentheses (expr.Minus x) (minus_tree x)
    (seen_as (body Whole) (expr.Minus x) (to_whole (expr.Minus x)) (this _ (level kind.Minus (codes "-") words.minus (other _ (made expr.Minus (within Signed a))))))

pub plus_again : (x : Expr) (m : List Mark) → Fine x m → Fine (expr.Plus x) m
plus_again x m a =
    in_parentheses (expr.Plus x) (plus_tree x)
    (seen_as (body Whole) (expr.Plus x) (to_whole (expr.Plus x)) (other _ (this _ (level kind.Plus (codes "+") words.plus (made expr.Plus (within Signed a))))))

abbrev og : Grammar Expr
og = grouped after_equality unary

-- a test, which NOT may turn round
with_not : (is_negated : Bool) (t : Tail) (w : Words) (m : List Mark) (u : Lexeme) → ((label : Label) → Written Nested w (test_tail label is_negated og) t (At label u ∷ m))
    → Written Nested (words_if is_negated (codes "NOT" ∷ []) ++ w) (tail_of Equality og) t (At Operator u ∷ m)
unfolding spelled table
with_not true t w m u test =
    other (sign_tail Equality og) (other _ (this (test_tail Operator false og) (like (At Operator u ∷ m) refl (keyword Operator word.Not u (test Plain)))))
with_not false t w m u test = other (sign_tail Equality og) (other _ (other (Word Operator (kind.Keyword word.Not) (test_tail Plain true og)) (test Operator)))

-- what follows a left operand, in parentheses
tested : (x left : Expr) (t : Tail) (is_negated : Bool) (w : Words) (ml m : List Mark) (u : Lexeme) → expression_words x ≡ enclosed (expression_words left ++ words_if is_negated (codes "NOT" ∷ []) ++ w)
    → Fine left ml → Written Nested (words_if is_negated (codes "NOT" ∷ []) ++ w) (tail_of Equality og) t (At Operator u ∷ m) → x ≡ applied left t → Fine x (ml ++ At Operator u ∷ m)
tested x left t is_negated w ml m u is a b same =
    in_parentheses x (is ∙ ap enclosed (append_assoc (expression_words left) (words_if is_negated (codes "NOT" ∷ [])) w))
    (meaning same (tight_whole (after_left og (alone_in after_equality) a b)))

-- IN with its list
pub one_of_again : (is_negated : Bool) (left : Expr) (list : List Expr) (ml ma : List Mark) (u : Lexeme) → Fine left ml → Written Nested (enclosed (listed (map expression_words list))) arguments list ma
    → Fine (expr.OneOf is_negated left list) (ml ++ At Operator u ∷ ma)
unfolding spelled table
one_of_again is_negated left list ml ma u a b =
    tested (expr.OneOf is_negated left list) left (In is_negated list) is_negated (codes "IN" ∷ enclosed (listed (map expression_words list))) ml ma u (one_of_tree is_negated left list) a
    (with_not is_negated (In is_negated list) (codes "IN" ∷ enclosed (listed (map expression_words list))) ma u (λ label. this _ (keyword label word.In u (made (In is_negated) b)))) refl

-- LIKE with its pattern
pub like_again : (is_negated : Bool) (left pattern : Expr) (ml mp : List Mark) (u : Lexeme) → Fine left ml → Fine pattern mp → Fine (expr.Like is_negated left pattern) (ml ++ At Operator u ∷ mp)
unfolding spelled table
like_again is_negated left pattern ml mp u a b =
    tested (expr.Like is_negated left pattern) left (Like is_negated pattern) is_negated (codes "LIKE" ∷ expression_words pattern) ml mp u (like_tree is_negated left pattern) a
    (with_not is_negated (Like is_negated pattern) (codes "LIKE" ∷ expression_words pattern) mp u
    (λ label. other _ (this _ (keyword label word.Like u (made (Like is_negated) (operand og (alone_in after_equality) b)))))) refl

-- BETWEEN with its bounds
pub between_again : (is_negated : Bool) (left low high : Expr) (ml mx my : List Mark) (u : Lexeme) → Fine left ml → Fine low mx → Fine high my
    → Fine (expr.Between is_negated left low high) (ml ++ At Operator u ∷ (mx ++ my))
unfolding spelled table
between_again is_negated left low high ml mx my u a b c =
    tested (expr.Between is_negated left low high) left (Between is_negated low high) is_negated (codes "BETWEEN" ∷ expression_words low ++ codes "AND" ∷ expression_words high) ml (mx ++ my) u
    (between_tree is_negated left low high
    ∙ ap enclosed (append_assoc (expression_words left ++ words_if is_negated (codes "NOT" ∷ [])) (codes "BETWEEN" ∷ expression_words low) (codes "AND" ∷ expression_words high))) a
    (with_not is_negated (Between is_negated low high) (codes "BETWEEN" ∷ expression_words low ++ codes "AND" ∷ expression_words high) (mx ++ my) u
    (λ label. other _ (other _ (keyword label word.Between u
    (like (mx ++ my) (counts-append (mx ++ At Plain u ∷ []) my ∙ ap (λ l. l ++ counts my) (counts-append mx (At Plain u ∷ []) ∙ append-nil (counts mx)) ∙ sym (counts-append mx my))
    (same_words (sym (append_assoc (expression_words low) (codes "AND" ∷ []) (expression_words high)))
    (both (Between is_negated) (before (kind.Keyword word.And) (spelled word.And) u (words.keyword word.And) (operand og (alone_in after_equality) b)) (operand og (alone_in after_equality) c)))))))) refl
