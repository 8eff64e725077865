-- What is an expression is written again.
use Rattle.std.proofs.Common.{◌≡◌, inl, inr, ⊎_elim, refl, sym, subst, ap, ◌∙◌, ℕ, zero, suc, pos, negsuc, ◌^◌, ◌-◌, Bool, true, false, List, [], ◌∷◌, ◌++◌, map, codes, decimal, Option, Some, None, append_assoc, append-nil, arith}
use Rattle.std.specs.Prelude.{int_lt, if◌then◌else◌}
use Rattle.std.proofs.lemmas.Bool.Decides.{nat_tests}
use Rattle.hc_lex.specs.declared.token.TokenKind.{TokenKind}
use Rattle.hc_lex.specs.declared.token.TokenKind.TheVariants as kind
use Rattle.hc_lex.specs.declared.keyword.Keyword.TheVariants as word
use Rattle.hc_lex.specs.Keywords.{table}
use Rattle.hc_lex.specs.Tokens.{IsToken, IsBlob}
use Rattle.hc_text.specs.Quotes.{quoted}
use Rattle.hc_value.specs.declared.value.Value.{Value}
use Rattle.hc_value.specs.declared.value.Value.TheVariants as value
use Rattle.hc_ast.specs.declared.operator.BinaryOp.TheVariants as op
use Rattle.hc_ast.specs.declared.expression.Expr.{Expr}
use Rattle.hc_ast.specs.declared.expression.Expr.TheVariants as expr
use Rattle.hc_ast.specs.Words.{integer_words, value_words, words_if, enclosed, listed, blob_word}
use Rattle.hc_ast.specs.Expressions.{expression_words}
use Rattle.hc_grammar.specs.Lexemes.{Lexeme, IsLiteral}
use Rattle.hc_grammar.specs.Marks.{Label, Plain, Operator, Mark, At, Opens, Closes}
use Rattle.hc_grammar.specs.Terminals.{Literal}
use Rattle.hc_grammar.specs.Grammar.{Grammar, Nothing, One, Word, Made, Choice, Within, Place, Whole, Negation, Signed, Asked}
use Rattle.hc_grammar.specs.Has.{Parts, folded, has}
use Rattle.hc_grammar.specs.Phrases as phrase
use Rattle.hc_grammar.specs.Expressions.{Tail, Binary, In, Like, Between, applied, Precedence, Disjunction, Conjunction, Equality, Order, Sum, Product, Concatenation, sign_tail, arguments, test_tail, word_tail, tail_of, grouped, tight, loose, negated, unary, primary, after_name}
use Rattle.hc_grammar.specs.Places.{body, Nested}
use Rattle.hc_grammar.proofs.Again.Words as words
use Rattle.hc_grammar.proofs.Again.Words.{of, spelled}
use Rattle.hc_grammar.proofs.Again.Numbers.{number}
use Rattle.hc_grammar.proofs.Again.Blobs.{blob, blob_has_bytes, is_blob_of}
use Rattle.hc_grammar.proofs.Again.Written as written
use Rattle.hc_grammar.proofs.Again.Written.{Written, AnOperator, Given, given_left, given_right, counts, counts-append, same_words, like, meaning, seen_as, empty, one, both, made, this, other, begin, level, before}
use Rattle.hc_grammar.proofs.Again.Chains.{listed_again}
use Rattle.hc_grammar.proofs.Again.Operators.{Fine, to_whole, within, binary_again}
use Rattle.hc_grammar.proofs.Again.Tests.{not_again, minus_again, plus_again, one_of_again, like_again, between_again}
use Rattle.hc_grammar.proofs.Again.Trees.{value_tree, name_tree, call_tree, call_all_tree}

-- a number from 0 on is one word
pub positive_words : (m : ℕ) → integer_words (pos m) ≡ decimal m ∷ []
positive_words m =
    let above : int_lt (pos m) (pos 0) ≡ false = grind (arith, nat_tests) in
    ap (λ b. words_if b (codes "-" ∷ []) ++ decimal m ∷ []) above

-- one below 0 has a minus before it
pub negative_words : (m : ℕ) → integer_words (negsuc m) ≡ codes "-" ∷ decimal (suc m) ∷ []
negative_words m = refl

-- a literal
literal_again : (v : Value) (t : Lexeme) → IsLiteral t v → Given (At Plain t ∷ []) → Written Nested (value_words v) (One Plain Literal) v (At Plain t ∷ [])
unfolding spelled table
literal_again value.Null t h given = one Plain Literal value.Null (kind.Keyword word.Null) (spelled word.Null) t (words.keyword word.Null) refl
literal_again (value.Int (pos m)) t h given = same_words (positive_words m) (one Plain Literal (value.Int (pos m)) (kind.Integer m) (decimal m) t (number m (omega (arith, h.1))) (refl, h.1))
literal_again (value.Int (negsuc m)) t h given = absurd h
literal_again (value.Text x) t h given = one Plain Literal (value.Text x) kind.Text (quoted 39 x) t (words.text x) (refl, refl)
literal_again (value.Blob bytes) t h given =
    let token = given.0 in
    let is : IsBlob t.text = subst (λ (k : TokenKind). IsToken k t.text token.0) h.0 token.1 in
    let are = blob_has_bytes t.text bytes is h.1 in
    one Plain Literal (value.Blob bytes) kind.Blob (blob_word bytes) t (blob bytes are) (refl, is_blob_of bytes are)

-- a value
value_again : (v : Value) (t : Lexeme) → IsLiteral t v → Given (At Plain t ∷ []) → Fine (expr.Value v) (At Plain t ∷ [])
value_again v t h given = same_words (value_tree v) (other _ (other _ (this _ (made expr.Value (literal_again v t h given)))))

least_again : Fine (expr.Value (value.Int (negsuc (2 ^ 63 - 1)))) []
least_again =
    same_words (value_tree (value.Int (negsuc (2 ^ 63 - 1))) ∙ negative_words (2 ^ 63 - 1))
    (this _ (level kind.Minus (codes "-") words.minus
    (this _ (like [] refl (written.word Plain (kind.Integer (2 ^ 63)) (decimal (2 ^ 63)) words.paren (number (2 ^ 63) (omega arith)) (empty (expr.Value (value.Int (negsuc (2 ^ 63 - 1))))))))))

-- a column
column_again : (table : Option (List ℕ)) (called : List ℕ) → Fine (expr.Name table called) []
column_again None called =
    same_words (name_tree None called)
    (like [] refl (other _ (other _ (other _ (this _ (both (λ x make. make x) (written.name Plain called words.paren) (other _ (other _ (empty (λ column. expr.Name None column))))))))))
column_again (Some t) called =
    same_words (name_tree (Some t) called)
    (like [] refl (other _ (other _ (other _ (this _ (both (λ x make. make x) (written.name Plain t words.paren)
    (this _ (written.word Plain kind.Dot (codes ".") words.paren words.dot (made (λ column x. expr.Name (Some x) column) (written.name Plain called words.paren))))))))))

-- a call of all rows, and one with arguments
call_all_again : (called : List ℕ) → Fine (expr.CallAll called) []
call_all_again called =
    same_words (call_all_tree called)
    (like [] refl (other _ (other _ (other _ (this _ (both (λ x make. make x) (written.name Plain called words.paren)
    (other _ (this _ (level kind.LeftParen (codes "(") words.left_paren
    (this _ (written.word Plain kind.Star (codes "*") words.paren words.star (written.word Plain kind.RightParen (codes ")") words.paren words.right_paren (empty expr.CallAll)))))))))))))

call_again : (called : List ℕ) (args : List Expr) (m : List Mark) → Written Nested (listed (map expression_words args)) (phrase.listed (Within Whole)) args m → Fine (expr.Call called args) m
call_again called args m a =
    same_words (call_tree called args)
    (like m (counts-append m (At Plain words.paren ∷ []) ∙ append-nil (counts m))
    (other _ (other _ (other _ (this _ (both (λ x make. make x) (written.name Plain called words.paren)
    (other _ (this _ (level kind.LeftParen (codes "(") words.left_paren
    (other _ (made (λ args x. expr.Call x args) (before kind.RightParen (codes ")") words.paren words.right_paren a))))))))))))

arguments_again : (args : List Expr) (m : List Mark) → Written Nested (listed (map expression_words args)) (phrase.listed (Within Whole)) args m → Written Nested (enclosed (listed (map expression_words args))) arguments args m
arguments_again args m a =
    like m (counts-append m (At Plain words.paren ∷ []) ∙ append-nil (counts m)) (level kind.LeftParen (codes "(") words.left_paren (before kind.RightParen (codes ")") words.paren words.right_paren a))

-- what is closed by one lexeme counts as without it
pub counts_before : (m front rest : List Mark) (u : Lexeme) → m ≡ front ++ rest → rest ≡ At Plain u ∷ [] → counts front ≡ counts m
counts_before m front rest u is last =
    sym (append-nil (counts front)) ∙ ap (λ l. counts front ++ counts l) (sym last) ∙ sym (counts-append front rest) ∙ sym (ap counts is)

-- a level's marks count as what is within
counts_level : (m inner : List Mark) (t : Lexeme) → m ≡ Opens t ∷ inner ++ Closes ∷ [] → counts inner ≡ counts m
counts_level m inner t is = sym (append-nil (counts inner)) ∙ sym (counts-append inner (Closes ∷ [])) ∙ sym (ap counts is)

given_level : (m inner : List Mark) (t : Lexeme) → m ≡ Opens t ∷ inner ++ Closes ∷ [] → Given m → Given inner
given_level m inner t is g = given_left (inner ++ Closes ∷ []) inner (Closes ∷ []) refl (given_right m (Opens t ∷ []) (inner ++ Closes ∷ []) is g)

module _ (n : ℕ) (whole : (x : Expr) (m : List Mark) → Nested n Expr Whole x m → Given m → Fine x m) (negation : (x : Expr) (m : List Mark) → Nested n Expr Negation x m → Given m → Fine x m)
    (signed : (x : Expr) (m : List Mark) → Nested n Expr Signed x m → Given m → Fine x m) where
  -- what is within a level
  inside : (x : Expr) (m : List Mark) → has (Nested n) (Within Whole) x m → Given m → Written Nested (expression_words x) (Within Whole) x m
  unfolding has
  inside x m h g = within Whole (seen_as (body Whole) x (to_whole x) (whole x m h g))

  list_of : (args : List Expr) (m : List Mark) → has (Nested n) (phrase.listed (Within Whole)) args m → Given m → Written Nested (listed (map expression_words args)) (phrase.listed (Within Whole)) args m
  list_of args m h g = listed_again (Nested n) (Within Whole) expression_words inside args m h g

  primary_of : (x : Expr) (m : List Mark) → has (Nested n) primary x m → Given m → Fine x m
  unfolding has
  primary_of x m (inl h) g =
      meaning_of (h.1) (like m (ap counts (sym h.2.1)) (value_again h.0 h.2.0 h.2.2 (subst Given h.2.1 g)))
    where
      meaning_of : {y : Expr} → x ≡ y → Fine y m → Fine x m
      meaning_of e a = subst (λ z. Fine z m) (sym e) a
  primary_of x m (inr (inl h)) g = after (h.3.4)
    where
      rest : List Mark
      rest = h.3.1

      none : counts rest ≡ counts m
      none = ap (λ (l : List Mark). counts (l ++ rest)) (sym h.3.3.1) ∙ sym (ap counts h.3.2)

      of_call : (make : List ℕ → Expr) (inner : List Mark) → x ≡ make h.0 → counts inner ≡ counts m → Given inner
          → has (Nested n) (Choice (Word Plain kind.Star (Word Plain kind.RightParen (Nothing expr.CallAll))) (Made (λ args called. expr.Call called args) (phrase.before (phrase.listed (Within Whole)) kind.RightParen))) make inner
          → Fine x m
      of_call make inner is same given (inl s) =
          subst (λ z. Fine z m) (sym (is ∙ ap (λ f. f h.0) s.4.4.1)) (like m (ap counts (sym (s.2 ∙ ap (λ (l : List Mark). At Plain s.0 ∷ l) (s.4.2 ∙ ap (λ (l : List Mark). At Plain s.4.0 ∷ l) s.4.4.0))) ∙ same) (call_all_again h.0))
      of_call make inner is same given (inr s) =
          let b = s.2 in
          let args = b.0 in
          subst (λ z. Fine z m) (sym (is ∙ ap (λ f. f h.0) s.1 ∙ ap (λ l. expr.Call h.0 l) b.2))
          (like m (counts_before inner b.3.0 b.3.1 b.3.4.0 b.3.2 (b.3.4.2 ∙ ap (λ (l : List Mark). At Plain b.3.4.0 ∷ l) b.3.4.4.0) ∙ same)
          (call_again h.0 args b.3.0 (list_of args b.3.0 b.3.3 (given_left inner b.3.0 b.3.1 b.3.2 given))))

      after : has (Nested n) after_name h.1 rest → Fine x m
      after (inl s) =
          let c = s.4.2 in
          subst (λ z. Fine z m) (sym (h.2 ∙ ap (λ f. f h.0) s.4.1))
          (like m (ap counts (sym (s.2 ∙ ap (λ (l : List Mark). At Plain s.0 ∷ l) c.1)) ∙ none) (column_again (Some h.0) s.4.0))
      after (inr (inl s)) =
          of_call h.1 s.1 h.2 (counts_level rest s.1 s.0 s.2 ∙ none) (given_level rest s.1 s.0 s.2 (given_right m h.3.0 rest h.3.2 g)) s.4
      after (inr (inr s)) = subst (λ z. Fine z m) (sym (h.2 ∙ ap (λ f. f h.0) s.1)) (like m (ap counts (sym s.0) ∙ none) (column_again None h.0))
  primary_of x m (inr (inr h)) g =
      let b = h.4 in
      subst (λ z. Fine z m) (sym b.2)
      (like m (counts_before h.1 b.3.0 b.3.1 b.3.4.0 b.3.2 (b.3.4.2 ∙ ap (λ (l : List Mark). At Plain b.3.4.0 ∷ l) b.3.4.4.0) ∙ counts_level m h.1 h.0 h.2)
      (whole b.0 b.3.0 b.3.3 (given_left h.1 b.3.0 b.3.1 b.3.2 (given_level m h.1 h.0 h.2 g))))

  unary_of : (x : Expr) (m : List Mark) → has (Nested n) unary x m → Given m → Fine x m
  unfolding has
  unary_of x m (inl h) g =
      ⊎_elim
      (λ s. subst (λ z. Fine z m) (sym s.4.1) (like m (ap counts (sym (s.2 ∙ ap (λ (l : List Mark). At Plain s.0 ∷ l) s.4.0)) ∙ counts_level m h.1 h.0 h.2) least_again))
      (λ s. subst (λ z. Fine z m) (sym s.1) (like m (counts_level m h.1 h.0 h.2) (minus_again s.0 h.1 (signed s.0 h.1 s.2 (given_level m h.1 h.0 h.2 g))))) h.4
  unary_of x m (inr (inl h)) g =
      subst (λ z. Fine z m) (sym h.4.1) (like m (counts_level m h.1 h.0 h.2) (plus_again h.4.0 h.1 (signed h.4.0 h.1 h.4.2 (given_level m h.1 h.0 h.2 g))))
  unary_of x m (inr (inr h)) g = primary_of x m h g

  -- an operator's lexeme, and what counts the same after it
  same_after : (ml a b : List Mark) (u : Lexeme) → counts a ≡ counts b → counts (ml ++ At Operator u ∷ a) ≡ counts (ml ++ At Operator u ∷ b)
  same_after ml a b u same = counts-append ml (At Operator u ∷ a) ∙ ap (λ l. counts ml ++ (AnOperator ∷ l)) same ∙ sym (counts-append ml (At Operator u ∷ b))

  flag_none : (b : Bool) (m : List Mark) → has (Nested n) (phrase.flag (word.Not ∷ [])) b m → counts m ≡ []
  unfolding has
  flag_none b m (inl h) = ap counts (h.2 ∙ ap (λ (l : List Mark). At Plain h.0 ∷ l) h.4.0)
  flag_none b m (inr h) = ap counts h.0

  -- what follows a left operand that is written
  module _ (og : Grammar Expr) (operand_of : (x : Expr) (m : List Mark) → has (Nested n) og x m → Given m → Fine x m) (left : Expr) (ml : List Mark) (a : Fine left ml) where
    abbrev Followed : Tail → List Mark → Type 0
    Followed t k = Fine (applied left t) (ml ++ k)

    follow_as : (t s : Tail) (k l : List Mark) → t ≡ s → counts (ml ++ l) ≡ counts (ml ++ k) → Followed s l → Followed t k
    follow_as t s k l same count f = subst (λ y. Fine (applied left y) (ml ++ k)) (sym same) (like (ml ++ k) count f)

    sign_of : (p : Precedence) (t : Tail) (k : List Mark) → has (Nested n) (sign_tail p og) t k → Given k → Followed t k
    unfolding has
    sign_of p t k h g =
        let u = h.3.3.0 in
        let is : k ≡ At Operator u ∷ h.3.1 = h.3.2 ∙ ap (λ (l : List Mark). l ++ h.3.1) h.3.3.1 in
        follow_as t (Binary h.0 h.1) k (At Operator u ∷ h.3.1) h.2 (ap (λ (l : List Mark). counts (ml ++ l)) (sym is))
        (binary_again left h.1 ml h.3.1 a (operand_of h.1 h.3.1 h.3.4 (given_right k h.3.0 h.3.1 h.3.2 g)) u h.0)

    -- a test, whatever its first lexeme is
    record Tested (label : Label) (t : Tail) (k : List Mark) : Type 0 where
      pub first : Lexeme
      pub rest : List Mark
      pub is : k ≡ At label first ∷ rest
      pub followed : (u : Lexeme) → Followed t (At Operator u ∷ rest)

    test_of : (label : Label) (is_negated : Bool) (t : Tail) (k : List Mark) → has (Nested n) (test_tail label is_negated og) t k → Given k → Tested label t k
    unfolding has
    test_of label is_negated t k (inl h) g =
        let list = h.4.0 in
        let level = h.4.2 in
        let b = level.4 in
        let given = given_right k (At label h.0 ∷ []) h.1 h.2 g in
        let inner = given_left level.1 b.3.0 b.3.1 b.3.2 (given_level h.1 level.1 level.0 level.2 given) in
        let args : Written Nested (enclosed (listed (map expression_words list))) arguments list b.3.0 =
        subst (λ l. Written Nested (enclosed (listed (map expression_words l))) arguments l b.3.0) (sym b.2) (arguments_again b.0 b.3.0 (list_of b.0 b.3.0 b.3.3 inner)) in
        let same : counts b.3.0 ≡ counts h.1 =
        counts_before level.1 b.3.0 b.3.1 b.3.4.0 b.3.2 (b.3.4.2 ∙ ap (λ (l : List Mark). At Plain b.3.4.0 ∷ l) b.3.4.4.0) ∙ counts_level h.1 level.1 level.0 level.2 in
        record {
          first = h.0;
          rest = h.1;
          is = h.2;
          followed = λ u. follow_as t (In is_negated list) (At Operator u ∷ h.1) (At Operator u ∷ b.3.0) h.4.1 (same_after ml b.3.0 h.1 u same) (one_of_again is_negated left list ml b.3.0 u a args);
        }
    test_of label is_negated t k (inr (inl h)) g =
        record {
          first = h.0;
          rest = h.1;
          is = h.2;
          followed = λ u. follow_as t (Like is_negated h.4.0) (At Operator u ∷ h.1) (At Operator u ∷ h.1) h.4.1 refl
              (like_again is_negated left h.4.0 ml h.1 u a (operand_of h.4.0 h.1 h.4.2 (given_right k (At label h.0 ∷ []) h.1 h.2 g)));
        }
    test_of label is_negated t k (inr (inr h)) g =
        let both = h.4 in
        let b = both.3.3 in
        let given = given_right k (At label h.0 ∷ []) h.1 h.2 g in
        let low_given = given_left both.3.0 b.3.0 b.3.1 b.3.2 (given_left h.1 both.3.0 both.3.1 both.3.2 given) in
        let low = subst (λ z. Fine z b.3.0) (sym b.2) (operand_of b.0 b.3.0 b.3.3 low_given) in
        let high = operand_of both.1 both.3.1 both.3.4 (given_right h.1 both.3.0 both.3.1 both.3.2 given) in
        let same : counts (b.3.0 ++ both.3.1) ≡ counts h.1 =
        counts-append b.3.0 both.3.1 ∙ ap (λ l. l ++ counts both.3.1) (counts_before both.3.0 b.3.0 b.3.1 b.3.4.0 b.3.2 (b.3.4.2 ∙ ap (λ (l : List Mark). At Plain b.3.4.0 ∷ l) b.3.4.4.0))
        ∙ sym (counts-append both.3.0 both.3.1) ∙ sym (ap counts both.3.2) in
        record {
          first = h.0;
          rest = h.1;
          is = h.2;
          followed = λ u. follow_as t (Between is_negated both.0 both.1) (At Operator u ∷ h.1) (At Operator u ∷ (b.3.0 ++ both.3.1)) both.2 (same_after ml (b.3.0 ++ both.3.1) h.1 u same)
              (between_again is_negated left both.0 both.1 ml b.3.0 both.3.1 u a low high);
        }

    word_of : (t : Tail) (k : List Mark) → has (Nested n) (word_tail og) t k → Given k → Followed t k
    unfolding has
    word_of t k (inl h) g =
        let both = h.4 in
        let given = given_right k (At Operator h.0 ∷ []) h.1 h.2 g in
        let same : counts both.3.1 ≡ counts h.1 = ap (λ l. l ++ counts both.3.1) (sym (flag_none both.0 both.3.0 both.3.3)) ∙ sym (counts-append both.3.0 both.3.1) ∙ sym (ap counts both.3.2) in
        follow_as t (Binary (if both.0 then op.IsNot else op.Is) both.1) k (At Operator h.0 ∷ both.3.1) both.2 (same_after ml both.3.1 h.1 h.0 same ∙ ap (λ (l : List Mark). counts (ml ++ l)) (sym h.2))
        (binary_again left both.1 ml both.3.1 a (operand_of both.1 both.3.1 both.3.4 (given_right h.1 both.3.0 both.3.1 both.3.2 given)) h.0 (if both.0 then op.IsNot else op.Is))
    word_of t k (inr (inl h)) g =
        let test = test_of Plain true t h.1 h.4 (given_right k (At Operator h.0 ∷ []) h.1 h.2 g) in
        follow_as t t k (At Operator h.0 ∷ test.rest) refl (same_after ml test.rest h.1 h.0 (ap counts (sym test.is)) ∙ ap (λ (l : List Mark). counts (ml ++ l)) (sym h.2)) (test.followed h.0)
    word_of t k (inr (inr h)) g =
        let test = test_of Operator false t k h g in
        follow_as t t k (At Operator test.first ∷ test.rest) refl (ap (λ (l : List Mark). counts (ml ++ l)) (sym test.is)) (test.followed test.first)

    tail_again : (p : Precedence) (t : Tail) (k : List Mark) → has (Nested n) (tail_of p og) t k → Given k → Followed t k
    unfolding has
    tail_again Disjunction t k h g = sign_of Disjunction t k h g
    tail_again Conjunction t k h g = sign_of Conjunction t k h g
    tail_again Equality t k (inl h) g = sign_of Equality t k h g
    tail_again Equality t k (inr h) g = word_of t k h g
    tail_again Order t k h g = sign_of Order t k h g
    tail_again Sum t k h g = sign_of Sum t k h g
    tail_again Product t k h g = sign_of Product t k h g
    tail_again Concatenation t k h g = sign_of Concatenation t k h g

  tails_again : (p : Precedence) (og : Grammar Expr) (operand_of : (x : Expr) (m : List Mark) → has (Nested n) og x m → Given m → Fine x m) (tails : List Tail) (left : Expr) (ml m : List Mark) → Fine left ml
      → Parts (λ value. has (Nested n) (tail_of p og)) applied left tails m → Given m → Fine (folded applied left tails) (ml ++ m)
  tails_again p og operand_of [] left ml m a h g = like (ml ++ m) (ap counts (sym (append-nil ml) ∙ ap (λ (l : List Mark). ml ++ l) (sym h))) a
  tails_again p og operand_of (t ∷ tails) left ml m a h g =
      like (ml ++ m) (ap counts (append_assoc ml h.0 h.1 ∙ ap (λ (l : List Mark). ml ++ l) (sym h.2)))
      (tails_again p og operand_of tails (applied left t) (ml ++ h.0) h.1 (tail_again og operand_of left ml a p t h.0 h.3 (given_left m h.0 h.1 h.2 g)) h.4 (given_right m h.0 h.1 h.2 g))

  -- operands with operators between them
  grouped_of : (ps : List Precedence) (base : Grammar Expr) → ((x : Expr) (m : List Mark) → has (Nested n) base x m → Given m → Fine x m) → (x : Expr) (m : List Mark)
      → has (Nested n) (grouped ps base) x m → Given m → Fine x m
  unfolding has
  grouped_of [] base of_base x m h g = of_base x m h g
  grouped_of (p ∷ ps) base of_base x m h g =
      let of_tighter = grouped_of ps base of_base in
      subst (λ z. Fine z m) (sym h.2)
      (like m (ap counts (sym h.3.2))
      (tails_again p (grouped ps base) of_tighter h.1 h.0 h.3.0 h.3.1 (of_tighter h.0 h.3.0 h.3.3 (given_left m h.3.0 h.3.1 h.3.2 g)) h.3.4 (given_right m h.3.0 h.3.1 h.3.2 g)))

  negated_of : (x : Expr) (m : List Mark) → has (Nested n) negated x m → Given m → Fine x m
  unfolding has
  negated_of x m (inl h) g =
      subst (λ z. Fine z m) (sym h.4.1) (like m (counts_level m h.1 h.0 h.2) (not_again h.4.0 h.1 (negation h.4.0 h.1 h.4.2 (given_level m h.1 h.0 h.2 g))))
  negated_of x m (inr h) g = grouped_of tight unary unary_of x m h g

-- what a place has is an operand
abbrev FineAt : {A : Type 0} → Place A → A → List Mark → Type 0
FineAt Whole x m = Fine x m
FineAt Negation x m = Fine x m
FineAt Signed x m = Fine x m
FineAt Asked x m = Unit {0}

nested_again : (n : ℕ) (A : Type 0) (place : Place A) (x : A) (m : List Mark) → Nested n A place x m → Given m → FineAt place x m
unfolding Nested
nested_again zero A place x m h g = absurd h
nested_again (suc n) A Whole x m h g =
    grouped_of n (nested_again n A Whole) (nested_again n A Negation) (nested_again n A Signed) loose negated (negated_of n (nested_again n A Whole) (nested_again n A Negation) (nested_again n A Signed)) x m h g
nested_again (suc n) A Negation x m h g = negated_of n (nested_again n A Whole) (nested_again n A Negation) (nested_again n A Signed) x m h g
nested_again (suc n) A Signed x m h g = unary_of n (nested_again n A Whole) (nested_again n A Negation) (nested_again n A Signed) x m h g
nested_again (suc n) A Asked x m h g = tt {0}

-- a whole expression is written again
pub whole_again : (n : ℕ) (x : Expr) (m : List Mark) → Nested n Expr Whole x m → Given m → Fine x m
whole_again n x m h g = nested_again n Expr Whole x m h g
