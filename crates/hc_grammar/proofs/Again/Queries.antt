-- Queries are written again.
use Rattle.std.proofs.Common.{◌≡◌, inl, inr, refl, sym, subst, ap, ◌∙◌, ℕ, ℤ, suc, pos, negsuc, Bool, true, false, List, [], ◌∷◌, ◌++◌, map, codes, decimal, Option, Some, None, append_assoc, append-nil, arith}
use Rattle.std.specs.Prelude.{if◌then◌else◌}
use Rattle.std.specs.List.{list_any}
use Rattle.hc_lex.specs.declared.token.TokenKind.TheVariants as kind
use Rattle.hc_lex.specs.declared.keyword.Keyword.{Keyword}
use Rattle.hc_lex.specs.declared.keyword.Keyword.TheVariants as word
use Rattle.hc_lex.specs.Keywords.{table}
use Rattle.hc_ast.specs.declared.expression.Expr.{Expr}
use Rattle.hc_ast.specs.declared.query.Item.{Item}
use Rattle.hc_ast.specs.declared.query.Item.TheVariants as choice
use Rattle.hc_ast.specs.declared.query.FromTable.{FromTable}
use Rattle.hc_ast.specs.declared.query.Term.{Term}
use Rattle.hc_ast.specs.declared.query.Select.{Select}
use Rattle.hc_ast.specs.Words.{Words, name_word, integer_words, listed, words_if}
use Rattle.hc_ast.specs.Expressions.{expression_words}
use Rattle.hc_ast.specs.Canonical.{alias_words, clause_words, limit_words, by_words, item_words, joined_words, from_words, term_words, select_words}
use Rattle.hc_grammar.specs.Lexemes.{Lexeme}
use Rattle.hc_grammar.specs.Marks.{Plain, Table, Mark, At, Begins}
use Rattle.hc_grammar.specs.Terminals.{Integer, Negative, Direction}
use Rattle.hc_grammar.specs.Grammar.{Grammar, Nothing, Word, Both, Made, Choice, Within, Place, Asked}
use Rattle.hc_grammar.specs.Has.{Phrase, Parts, chosen, folded, has}
use Rattle.hc_grammar.specs.Phrases as phrase
use Rattle.hc_grammar.specs.Phrases.{◌⊛◌, maybe, after_words, flag, pushed}
use Rattle.hc_grammar.specs.Expressions.{expression}
use Rattle.hc_grammar.specs.Queries.{alias, clause, all_of, item, table_of, source, joined, join, tables, direction, term_of, term, integer, grouping, Groups, ordering, limiting, Bounds, select_of, rows, query, wants_from}
use Rattle.hc_grammar.specs.Places.{Nested, Placed}
use Rattle.hc_grammar.proofs.Again.Words as words
use Rattle.hc_grammar.proofs.Again.Words.{of, spelled}
use Rattle.hc_grammar.proofs.Again.Numbers.{number}
use Rattle.hc_grammar.proofs.Again.Written as written
use Rattle.hc_grammar.proofs.Again.Written.{Written, ATable, Given, given_left, given_right, counts, counts-append, same_words, like, meaning, seen_as, empty, one, both, depending_true, depending_false, made, this, other, keyword, begin}
use Rattle.hc_grammar.proofs.Again.Chains.{chain_start, chain_again, folded_pushed, listed_again}
use Rattle.hc_grammar.proofs.Again.Expressions.{whole_again, positive_words, negative_words}
use Rattle.hc_grammar.proofs.Again.Plain.{uncounted, expression_written, alias_written}

-- what is read of what a query asks for, in a statement
asked_written : {w : Words} {x : Item} {m : List Mark} (g : Grammar Item) → ((n : ℕ) (l : List Mark) → has (Nested n) g x l → Placed n Item Asked x l) → Written Nested w g x m → Written Placed w (Within Asked) x m
unfolding has
asked_written g f a = record { marks = a.marks; least = a.least; are = a.are; apart = a.apart; same = a.same; is = λ n e. f n a.marks (a.is n e) }

all_of_written : (t : List ℕ) → Written Nested (item_words (choice.AllOf t)) all_of (choice.AllOf t) (Begins ∷ [])
all_of_written t =
    like (Begins ∷ []) refl (begin (made choice.AllOf (both (λ table star. table) (written.name Plain t words.paren)
    (written.word Plain kind.Dot (codes ".") words.paren words.dot (written.word Plain kind.Star (codes "*") words.paren words.star (empty true))))))

module _ (k : ℕ) where
  abbrev W : (A : Type 0) → Place A → A → Phrase
  W = Placed k

  -- an expression that is part of no other
  pub expression_again : (x : Expr) (m : List Mark) → has W expression x m → Given m → Written Placed (expression_words x) expression x m
  unfolding has
  expression_again x m h g = like m (ap counts (sym h.1)) (expression_written (λ n y l p. p) x h.0 (whole_again k x h.0 h.2 (given_right m (Begins ∷ []) h.0 h.1 g)))

  -- a keyword and an expression, or nothing
  pub clause_again : (w : Keyword) (o : Option Expr) (m : List Mark) → has W (clause (w ∷ [])) o m → Given m → Written Placed (clause_words (spelled w) o) (clause (w ∷ [])) o m
  unfolding has
  clause_again w o m (inl h) g =
      subst (λ z. Written Placed (clause_words (spelled w) z) (clause (w ∷ [])) z m) (sym h.1)
      (like m (ap counts (sym h.2.2)) (this _ (made Some (keyword Plain w h.2.0 (expression_again h.0 h.2.1 h.2.4 (given_right m (At Plain h.2.0 ∷ []) h.2.1 h.2.2 g))))))
  clause_again w o m (inr h) g = subst (λ z. Written Placed (clause_words (spelled w) z) (clause (w ∷ [])) z m) (sym h.1) (like m (ap counts (sym h.0)) (other _ (empty None)))

  -- what is asked for
  item_again : (x : Item) (m : List Mark) → has W (Within Asked) x m → Given m → Written Placed (item_words x) (Within Asked) x m
  unfolding has
  item_again x m (inl h) g =
      subst (λ z. Written Placed (item_words z) (Within Asked) z m) (sym h.2.1)
      (like m (ap (λ l. counts (Begins ∷ []) ++ l) (sym (uncounted (Nested k) (Both (λ table star. table) phrase.name (Word Plain kind.Dot (Word Plain kind.Star (Nothing true)))) refl h.2.0 h.0 h.2.2)) ∙ ap counts (sym h.1))
      (asked_written all_of (λ n l p. inl p) (all_of_written h.2.0)))
  item_again x m (inr (inl h)) g =
      subst (λ z. Written Placed (item_words z) (Within Asked) z m) (sym h.4.1)
      (like m (ap counts (sym (h.2 ∙ ap (λ (l : List Mark). At Plain h.0 ∷ l) h.4.0)))
      (asked_written item (λ n l p. inr p) (this _ (written.word Plain kind.Star (codes "*") h.0 words.star (empty choice.All)))))
  item_again x m (inr (inr h)) g =
      let e = h.3.3 in
      let fine = whole_again k h.0 e.0 e.2 (given_right h.3.0 (Begins ∷ []) e.0 e.1 (given_left m h.3.0 h.3.1 h.3.2 g)) in
      subst (λ z. Written Placed (item_words z) (Within Asked) z m) (sym h.2)
      (like m (counts-append (Begins ∷ e.0) [] ∙ ap (λ l. counts (Begins ∷ e.0) ++ l) (sym (uncounted (Nested k) (maybe alias) refl h.1 h.3.1 h.3.4)) ∙ ap (λ (l : List Mark). counts l ++ counts h.3.1) (sym e.1) ∙ sym (counts-append h.3.0 h.3.1) ∙ ap counts (sym h.3.2))
      (asked_written item (λ n l p. inr p) (other _ (both choice.One (expression_written (λ n y l p. p) h.0 e.0 fine) (alias_written (λ n y l p. p) h.1)))))

  -- a table's name and its alias
  source_written : (j : Bool) (called : List ℕ) (al : Option (List ℕ)) (u : Lexeme) → Written Placed (name_word called ∷ alias_words al) (source j) (table_of j called al) (At Table u ∷ [])
  source_written j called al u = both (table_of j) (written.name Table called u) (alias_written (λ n y l p. p) al)

  source_counts : (j : Bool) (make : Option Expr → FromTable) (m : List Mark) → has W (source j) make m → counts m ≡ ATable ∷ []
  unfolding has
  source_counts j make m h =
      ap counts h.3.2 ∙ counts-append h.3.0 h.3.1 ∙ ap (λ (l : List Mark). counts l ++ counts h.3.1) h.3.3.1 ∙ ap (λ l. ATable ∷ l) (uncounted W (maybe alias) refl h.1 h.3.1 h.3.4)

  -- a table after another one
  joined_again : (x : FromTable) (m : List Mark) → has W joined x m → Given m → Written Placed (joined_words x) joined x m
  unfolding has spelled table
  joined_again x m (inl h) g =
      let s = h.4.2 in
      subst (λ z. Written Placed (joined_words z) joined z m) (sym (h.4.1 ∙ ap (λ f. f None) s.2))
      (like m (sym (source_counts false h.4.0 h.1 s) ∙ ap counts (sym h.2))
      (same_words (append-nil (codes "," ∷ name_word s.0 ∷ alias_words s.1)) (this _ (written.word Plain kind.Comma (codes ",") h.0 words.comma (made (λ table. table None) (source_written false s.0 s.1 h.0))))))
  joined_again x m (inr h) g =
      let both_parts = h.3.4 in
      let s = both_parts.3.3 in
      let given = given_right h.3.1 both_parts.3.0 both_parts.3.1 both_parts.3.2 (given_right m h.3.0 h.3.1 h.3.2 g) in
      subst (λ z. Written Placed (joined_words z) joined z m) (sym (h.2 ∙ both_parts.2 ∙ ap (λ f. f both_parts.1) s.2))
      (like m
      (ap (λ l. l ++ counts both_parts.3.1) (sym (source_counts true both_parts.0 both_parts.3.0 s)) ∙ sym (counts-append both_parts.3.0 both_parts.3.1) ∙ ap counts (sym both_parts.3.2)
      ∙ ap (λ l. l ++ counts h.3.1) (sym (uncounted W join refl h.0 h.3.0 h.3.3)) ∙ sym (counts-append h.3.0 h.3.1) ∙ ap counts (sym h.3.2))
      (other _ (both (λ words table. table) (other _ (other _ (keyword Plain word.Join words.paren (empty true))))
      (both (λ make x. make x) (source_written true s.0 s.1 words.paren) (clause_again word.On both_parts.1 both_parts.3.1 both_parts.3.4 given)))))

  -- the tables of FROM
  tables_again : (xs : List FromTable) (m : List Mark) → has W tables xs m → Given m → Written Placed (from_words xs) tables xs m
  unfolding has spelled table
  tables_again xs m h g =
      let c = h.4 in
      let s = c.3.3.2 in
      let first = table_of false s.0 s.1 None in
      let value : c.0 ≡ first ∷ [] = c.3.3.1 ∙ ap (λ f. f None ∷ []) s.2 in
      let given = given_right m (At Plain h.0 ∷ []) h.1 h.2 g in
      let start = chain_start joined pushed (made (λ table. table None ∷ []) (source_written false s.0 s.1 h.0)) in
      let all = chain_again W (Made (λ table. table None ∷ []) (source false)) joined pushed joined_words joined_again (first ∷ []) (At Table h.0 ∷ []) (name_word s.0 ∷ alias_words s.1) start c.1 c.3.1
      (subst (λ v. Parts (λ x. has W joined) pushed v c.1 c.3.1) value c.3.4) (given_right h.1 c.3.0 c.3.1 c.3.2 given) in
      let is : xs ≡ first ∷ c.1 = c.2 ∙ ap (λ v. folded pushed v c.1) value ∙ folded_pushed (first ∷ []) c.1 in
      subst (λ z. Written Placed (from_words z) tables z m) (sym is)
      (like m (ap (λ l. l ++ counts c.3.1) (sym (source_counts false c.3.3.0 c.3.0 s)) ∙ sym (counts-append c.3.0 c.3.1) ∙ ap counts (sym c.3.2) ∙ ap counts (sym h.2))
      (keyword Plain word.From h.0 (meaning (sym (folded_pushed (first ∷ []) c.1)) all)))

  -- a term of ORDER BY
  direction_written : (desc : Bool) → Written Placed ((if desc then codes "DESC" else codes "ASC") ∷ []) direction desc []
  direction_written true = this _ (like [] refl (one Plain Direction true kind.Name (codes "DESC") words.paren words.desc (refl, refl)))
  direction_written false = this _ (like [] refl (one Plain Direction false kind.Name (codes "ASC") words.paren words.asc (refl, refl)))

  term_again : (x : Term) (m : List Mark) → has W term x m → Given m → Written Placed (term_words x) term x m
  unfolding has
  term_again x m h g =
      subst (λ z. Written Placed (term_words z) term z m) (sym h.2)
      (like m (counts-append h.3.0 [] ∙ ap (λ l. counts h.3.0 ++ l) (sym (uncounted W direction refl h.1 h.3.1 h.3.4)) ∙ sym (counts-append h.3.0 h.3.1) ∙ ap counts (sym h.3.2))
      (both term_of (expression_again h.0 h.3.0 h.3.3 (given_left m h.3.0 h.3.1 h.3.2 g)) (direction_written h.1)))

  -- an integer
  integer_again : (x : ℤ) (m : List Mark) → has W integer x m → Written Placed (integer_words x) integer x []
  unfolding has
  integer_again (pos n) m (inl h) =
      same_words (positive_words n) (other _ (like [] refl (one Plain Integer (pos n) (kind.Integer n) (decimal n) words.paren (number n (omega (arith, h.4.2.1))) (refl, omega (arith, h.4.2.1)))))
  integer_again (pos n) m (inr h) = same_words (positive_words n) (other _ (like [] refl (one Plain Integer (pos n) (kind.Integer n) (decimal n) words.paren (number n (omega (arith, h.2.1))) (refl, h.2.1))))
  integer_again (negsuc n) m (inl h) =
      same_words (negative_words n) (this _ (like [] refl (written.word Plain kind.Minus (codes "-") words.paren words.minus
      (one Plain Negative (negsuc n) (kind.Integer (suc n)) (decimal (suc n)) words.paren (number (suc n) (omega (arith, h.4.2.1))) (refl, h.4.2.1)))))
  integer_again (negsuc n) m (inr h) = absurd h.2

  -- GROUP BY and HAVING
  abbrev group_words : Groups → Words
  group_words x = by_words (codes "GROUP") (map expression_words x.0) ++ clause_words (codes "HAVING") x.1

  grouping_again : (x : Groups) (m : List Mark) → has W grouping x m → Given m → Written Placed (group_words x) grouping x m
  unfolding has spelled table
  grouping_again x m (inl h) g =
      let b = h.4.4 in
      let given = given_right h.1 (At Plain h.4.0 ∷ []) h.4.1 h.4.2 (given_right m (At Plain h.0 ∷ []) h.1 h.2 g) in
      let list = listed_again W expression expression_words expression_again b.0 b.3.0 b.3.3 (given_left h.4.1 b.3.0 b.3.1 b.3.2 given) in
      let having = clause_again word.Having b.1 b.3.1 b.3.4 (given_right h.4.1 b.3.0 b.3.1 b.3.2 given) in
      subst (λ z. Written Placed (group_words z) grouping z m) (sym b.2)
      (same_words (ap (λ l. l ++ clause_words (codes "HAVING") b.1) (by_filled (codes "GROUP") expression_words b.0 (listed_some b.0 b.3.0 b.3.3)))
      (this _ (like m (sym (ap counts b.3.2) ∙ sym (ap counts h.4.2) ∙ sym (ap counts h.2))
      (keyword Plain word.Group h.0 (keyword Plain word.By h.4.0 (both (λ groups having. (groups, having)) list having))))))
    where
      listed_some : (xs : List Expr) (l : List Mark) → has W (phrase.listed expression) xs l → (y : Expr) × (ys : List Expr) × (xs ≡ y ∷ ys)
      listed_some xs l s = (s.3.3.0, s.1, s.2 ∙ ap (λ v. folded pushed v s.1) s.3.3.1 ∙ folded_pushed (s.3.3.0 ∷ []) s.1)

      by_filled : {A : Type 0} (w : List ℕ) (f : A → Words) (xs : List A) → (y : A) × (ys : List A) × (xs ≡ y ∷ ys) → by_words w (map f xs) ≡ w ∷ codes "BY" ∷ listed (map f xs)
      by_filled w f xs e = ap (λ l. by_words w (map f l)) e.2 ∙ ap (λ l. w ∷ codes "BY" ∷ listed (map f l)) (sym e.2)
  grouping_again x m (inr h) g = subst (λ z. Written Placed (group_words z) grouping z m) (sym h.1) (like m (ap counts (sym h.0)) (other _ (empty ([], None))))

  -- ORDER BY
  ordering_again : (x : List Term) (m : List Mark) → has W ordering x m → Given m → Written Placed (by_words (codes "ORDER") (map term_words x)) ordering x m
  unfolding has spelled table
  ordering_again x m (inl h) g =
      let given = given_right h.1 (At Plain h.4.0 ∷ []) h.4.1 h.4.2 (given_right m (At Plain h.0 ∷ []) h.1 h.2 g) in
      let s = h.4.4 in
      let is : x ≡ s.3.3.0 ∷ s.1 = s.2 ∙ ap (λ v. folded pushed v s.1) s.3.3.1 ∙ folded_pushed (s.3.3.0 ∷ []) s.1 in
      same_words (ap (λ l. by_words (codes "ORDER") (map term_words l)) is ∙ ap (λ l. codes "ORDER" ∷ codes "BY" ∷ listed (map term_words l)) (sym is))
      (this _ (like m (sym (ap counts h.4.2) ∙ sym (ap counts h.2)) (keyword Plain word.Order h.0 (keyword Plain word.By h.4.0 (listed_again W term term_words term_again x h.4.1 h.4.4 given)))))
  ordering_again x m (inr h) g = subst (λ z. Written Placed (by_words (codes "ORDER") (map term_words z)) ordering z m) (sym h.1) (like m (ap counts (sym h.0)) (other _ (empty [])))

  -- LIMIT and OFFSET
  abbrev bound_words : Bounds → Words
  bound_words x = limit_words (codes "LIMIT") x.0 ++ limit_words (codes "OFFSET") x.1

  limiting_again : (x : Bounds) (m : List Mark) → has W limiting x m → Written Placed (bound_words x) limiting x []
  unfolding has spelled table
  limiting_again x m (inl h) =
      let b = h.4 in
      subst (λ z. Written Placed (bound_words z) limiting z []) (sym b.2)
      (this _ (like [] refl (keyword Plain word.Limit words.paren (both (λ limit offset. (Some limit, offset)) (integer_again b.0 b.3.0 b.3.3) (offset b.1 b.3.1 b.3.4)))))
    where
      offset : (o : Option ℤ) (l : List Mark) → has W (maybe (after_words (word.Offset ∷ []) integer)) o l → Written Placed (limit_words (codes "OFFSET") o) (maybe (after_words (word.Offset ∷ []) integer)) o []
      offset o l (inl s) = subst (λ z. Written Placed (limit_words (codes "OFFSET") z) (maybe (after_words (word.Offset ∷ []) integer)) z []) (sym s.1) (this _ (made Some (like [] refl (keyword Plain word.Offset words.paren (integer_again s.0 s.2.1 s.2.4)))))
      offset o l (inr s) = subst (λ z. Written Placed (limit_words (codes "OFFSET") z) (maybe (after_words (word.Offset ∷ []) integer)) z []) (sym s.1) (other _ (empty None))
  limiting_again x m (inr h) = subst (λ z. Written Placed (bound_words z) limiting z []) (sym h.1) (other _ (empty (None, None)))

  -- DISTINCT, where it is
  distinct_written : (d : Bool) → Written Placed (words_if d (codes "DISTINCT" ∷ [])) (flag (word.Distinct ∷ [])) d []
  unfolding spelled table
  distinct_written true = this _ (like [] refl (keyword Plain word.Distinct words.paren (empty true)))
  distinct_written false = other _ (empty false)

  -- what is asked for, and the tables
  abbrev row_words : List Item × List FromTable → Words
  row_words x = listed (map item_words x.0) ++ from_words x.1

  rows_again : (x : List Item × List FromTable) (m : List Mark) → has W rows x m → Given m → Written Placed (row_words x) rows x m
  unfolding has
  rows_again x m h g =
      subst (λ z. Written Placed (row_words z) rows z m) (sym h.2)
      (like m (ap counts (sym h.3.2)) (by (list_any wants_from h.0) refl h.3.4))
    where
      items : Written Placed (listed (map item_words h.0)) (phrase.listed (Within Asked)) h.0 h.3.0
      items = listed_again W (Within Asked) item_words item_again h.0 h.3.0 h.3.3 (given_left m h.3.0 h.3.1 h.3.2 g)

      given : Given h.3.1
      given = given_right m h.3.0 h.3.1 h.3.2 g

      or_none : has W (Choice tables (Nothing [])) h.1 h.3.1 → Written Placed (from_words h.1) (Choice tables (Nothing [])) h.1 h.3.1
      or_none (inl s) = this _ (tables_again h.1 h.3.1 s given)
      or_none (inr s) = subst (λ z. Written Placed (from_words z) (Choice tables (Nothing [])) z h.3.1) (sym s.1) (like h.3.1 (ap counts (sym s.0)) (other _ (empty [])))

      by : (test : Bool) → list_any wants_from h.0 ≡ test → chosen test (has W tables) (has W (Choice tables (Nothing []))) h.1 h.3.1
          → Written Placed (listed (map item_words h.0) ++ from_words h.1) rows (h.0, h.1) (h.3.0 ++ h.3.1)
      by true e s =
          depending_true (λ items tables. (items, tables)) (list_any wants_from) (Choice tables (Nothing [])) e items (tables_again h.1 h.3.1 s given)
      by false e s = depending_false (λ items tables. (items, tables)) (list_any wants_from) tables e items (or_none s)

  -- a query after its SELECT
  pub query_again : (q : Select) (m : List Mark) → has W query q m → Given m → Written Placed (select_words q) query q m
  unfolding has spelled table
  query_again q m h g =
      let order = h.3.3 in
      let groups = order.3.3 in
      let filter = groups.3.3 in
      let body = filter.3.3 in
      let distinct = body.3.3 in
      let g1 = given_left m h.3.0 h.3.1 h.3.2 g in
      let g2 = given_left h.3.0 order.3.0 order.3.1 order.3.2 g1 in
      let g3 = given_left order.3.0 groups.3.0 groups.3.1 groups.3.2 g2 in
      let g4 = given_left groups.3.0 filter.3.0 filter.3.1 filter.3.2 g3 in
      let one = made select_of (distinct_written distinct.0) in
      let two = both (λ make x. make x) one (rows_again body.1 body.3.1 body.3.4 (given_right filter.3.0 body.3.0 body.3.1 body.3.2 g4)) in
      let three = both (λ make x. make x) two (clause_again word.Where filter.1 filter.3.1 filter.3.4 (given_right groups.3.0 filter.3.0 filter.3.1 filter.3.2 g3)) in
      let four = both (λ make x. make x) three (grouping_again groups.1 groups.3.1 groups.3.4 (given_right order.3.0 groups.3.0 groups.3.1 groups.3.2 g2)) in
      let five = both (λ make x. make x) four (ordering_again order.1 order.3.1 order.3.4 (given_right h.3.0 order.3.0 order.3.1 order.3.2 g1)) in
      let six = both (λ make x. make x) five (limiting_again h.1 h.3.1 h.3.4) in
      let same : q ≡ select_of distinct.0 body.1 filter.1 groups.1 order.1 h.1 =
      h.2 ∙ ap (λ f. f h.1) (order.2 ∙ ap (λ f. f order.1) (groups.2 ∙ ap (λ f. f groups.1) (filter.2 ∙ ap (λ f. f filter.1) (body.2 ∙ ap (λ f. f body.1) distinct.1)))) in
      let none : counts body.3.0 ≡ [] = uncounted W (Made select_of (flag (word.Distinct ∷ []))) refl body.0 body.3.0 body.3.3 in
      let last : counts h.3.1 ≡ [] = uncounted W limiting refl h.1 h.3.1 h.3.4 in
      let n1 : counts body.3.1 ≡ counts filter.3.0 = ap (λ l. l ++ counts body.3.1) (sym none) ∙ sym (counts-append body.3.0 body.3.1) ∙ ap counts (sym body.3.2) in
      let n2 : counts (body.3.1 ++ filter.3.1) ≡ counts groups.3.0 = counts-append body.3.1 filter.3.1 ∙ ap (λ l. l ++ counts filter.3.1) n1 ∙ sym (counts-append filter.3.0 filter.3.1) ∙ ap counts (sym filter.3.2) in
      let n3 : counts ((body.3.1 ++ filter.3.1) ++ groups.3.1) ≡ counts order.3.0 = counts-append (body.3.1 ++ filter.3.1) groups.3.1 ∙ ap (λ l. l ++ counts groups.3.1) n2 ∙ sym (counts-append groups.3.0 groups.3.1) ∙ ap counts (sym groups.3.2) in
      let n4 : counts (((body.3.1 ++ filter.3.1) ++ groups.3.1) ++ order.3.1) ≡ counts h.3.0 = counts-append ((body.3.1 ++ filter.3.1) ++ groups.3.1) order.3.1 ∙ ap (λ l. l ++ counts order.3.1) n3 ∙ sym (counts-append order.3.0 order.3.1) ∙ ap counts (sym order.3.2) in
      let n5 : counts ((((body.3.1 ++ filter.3.1) ++ groups.3.1) ++ order.3.1) ++ []) ≡ counts m =
      counts-append (((body.3.1 ++ filter.3.1) ++ groups.3.1) ++ order.3.1) [] ∙ ap (λ l. l ++ []) n4 ∙ ap (λ l. counts h.3.0 ++ l) (sym last) ∙ sym (counts-append h.3.0 h.3.1) ∙ ap counts (sym h.3.2) in
      subst (λ z. Written Placed (select_words z) query z m) (sym same)
      (same_words
      (query_words (words_if distinct.0 (codes "DISTINCT" ∷ [])) (listed (map item_words body.1.0)) (from_words body.1.1) (clause_words (codes "WHERE") filter.1) (by_words (codes "GROUP") (map expression_words groups.1.0))
      (clause_words (codes "HAVING") groups.1.1) (by_words (codes "ORDER") (map term_words order.1)) (limit_words (codes "LIMIT") h.1.0) (limit_words (codes "OFFSET") h.1.1))
      (like m n5 six))
    where
      query_words : (d i f w g h o l p : Words) → (((d ++ i) ++ f) ++ w) ++ ((((g ++ h) ++ o) ++ l) ++ p) ≡ ((((d ++ (i ++ f)) ++ w) ++ (g ++ h)) ++ o) ++ (l ++ p)
      query_words d i f w g h o l p = simp append_assoc refl
