-- A query asks for something, and a table has a column.
use Rattle.std.proofs.Common.{◌≡◌, ◌≢◌, inl, inr, ⊎_elim, ap, ◌∙◌, ℕ, suc, Bool, true, false, List, [], ◌∷◌, sym, subst}
use Rattle.hc_lex.specs.declared.keyword.Keyword.TheVariants as word
use Rattle.hc_lex.specs.declared.token.Token.{Token}
use Rattle.hc_ast.specs.declared.query.Item.{Item}
use Rattle.hc_ast.specs.declared.query.FromTable.{FromTable}
use Rattle.hc_ast.specs.declared.query.Select.{Select}
use Rattle.hc_ast.specs.declared.statement.Stmt.{Stmt}
use Rattle.hc_ast.specs.Kinds.{HasItsParts}
use Rattle.hc_grammar.specs.Marks.{Mark}
use Rattle.hc_grammar.specs.Grammar.{Grammar, Choice, Within, Place, Asked}
use Rattle.hc_grammar.specs.Has.{Phrase, folded, has}
use Rattle.hc_grammar.specs.Phrases.{pushed, listed, after_words}
use Rattle.hc_grammar.specs.Queries.{query}
use Rattle.hc_grammar.specs.Statements.{Parts, Part, OneColumn, OneRule, with_part, parts, create_table, create_index, statement}
use Rattle.hc_grammar.specs.Places.{Placed}
use Rattle.hc_grammar.specs.Faults.{IsStatementOf}

pushed_filled : {A : Type 0} (xs : List A) (x : A) → pushed xs x ≢ []
pushed_filled [] x e = cc
pushed_filled (y ∷ xs) x e = cc

folded_filled : {A : Type 0} (xs more : List A) → xs ≢ [] → folded pushed xs more ≢ []
folded_filled xs [] h = h
folded_filled xs (x ∷ more) h = folded_filled (pushed xs x) more (pushed_filled xs x)

module _ (W : (A : Type 0) → Place A → A → Phrase) where
  -- a list has something
  listed_filled : {A : Type 0} (g : Grammar A) (xs : List A) (marks : List Mark) → has W (listed g) xs marks → xs ≢ []
  unfolding has
  listed_filled g xs marks h e =
      let first = h.3.3 in
      let one : h.0 ≢ [] = λ n. let bad = sym first.1 ∙ n in cc in
      folded_filled h.0 h.1 one (sym h.2 ∙ e)

  -- a query asks for something
  query_filled : (q : Select) (marks : List Mark) → has W query q marks → q.items ≢ []
  unfolding has
  query_filled q marks h e =
      let bounds = h in
      let order = bounds.3.3 in
      let groups = order.3.3 in
      let filter = groups.3.3 in
      let rows = filter.3.3 in
      let made = rows.3.3 in
      let is : q.items ≡ rows.1.0 =
      ap (λ (s : Select). s.items) (bounds.2 ∙ ap (λ f. f bounds.1) (order.2 ∙ ap (λ f. f order.1) (groups.2 ∙ ap (λ f. f groups.1) (filter.2 ∙ ap (λ f. f filter.1) (rows.2 ∙ ap (λ f. f rows.1) made.1))))) in
      let dep = rows.3.4 in
      listed_filled (Within Asked) dep.0 dep.3.0 dep.3.3 (ap (λ (r : List Item × List FromTable). r.0) (sym dep.2) ∙ sym is ∙ e)

  -- a table has a column
  parts_filled : (value : Parts) (more : List Part) → value.0 ≢ [] → (folded with_part value more).0 ≢ []
  parts_filled value [] h = h
  parts_filled value (OneColumn c ∷ more) h = parts_filled (with_part value (OneColumn c)) more (pushed_filled value.0 c)
  parts_filled value (OneRule r ∷ more) h = parts_filled (with_part value (OneRule r)) more h

  table_filled : (p : Parts) (marks : List Mark) → has W parts p marks → p.0 ≢ []
  unfolding has
  table_filled p marks h e =
      let first = h.3.3 in
      let one : h.0.0 ≢ [] = λ n. let bad = sym (ap (λ (q : Parts). q.0) first.1) ∙ n in cc in
      parts_filled h.0 h.1 one (ap (λ (q : Parts). q.0) (sym h.2) ∙ e)

  index_filled : (unique : Bool) (s : Stmt) (marks : List Mark) → has W (create_index unique) s marks → HasItsParts s
  unfolding has
  index_filled unique s marks h =
      let columns = h.4 in
      let table = columns.3.3 in
      let called = table.3.3 in
      let maybe = called.3.3 in
      subst HasItsParts (sym (columns.2 ∙ ap (λ f. f columns.1) (table.2 ∙ ap (λ f. f table.1) (called.2 ∙ ap (λ f. f called.1) maybe.1)))) tt

  -- each statement has its parts
  statement_filled : (s : Stmt) (marks : List Mark) → has W statement s marks → HasItsParts s
  unfolding has
  statement_filled s marks (inl h) = subst HasItsParts (sym h.4.1) (query_filled h.4.0 h.1 h.4.2)
  statement_filled s marks (inr (inl h)) =
      let rows = h.4.4 in
      let columns = rows.3.3 in
      let table = columns.3.3 in
      subst HasItsParts (sym (rows.2 ∙ ap (λ f. f rows.1) (columns.2 ∙ ap (λ f. f columns.1) table.1))) tt
  statement_filled s marks (inr (inr (inl h))) =
      let filter = h.4 in
      let sets = filter.3.3 in
      let table = sets.3.3 in
      subst HasItsParts (sym (filter.2 ∙ ap (λ f. f filter.1) (sets.2 ∙ ap (λ f. f sets.1) table.1))) tt
  statement_filled s marks (inr (inr (inr (inl h)))) =
      let filter = h.4.4 in
      let table = filter.3.3 in
      subst HasItsParts (sym (filter.2 ∙ ap (λ f. f filter.1) table.1)) tt
  statement_filled s marks (inr (inr (inr (inr (inl (h)))))) = create_filled s h.1 h.4
    where
      create_filled : (s : Stmt) (marks : List Mark) → has W (Choice create_table (Choice (after_words (word.Unique ∷ []) (create_index true)) (create_index false))) s marks → HasItsParts s
      create_filled s marks (inl h) =
          let parts = h.4 in
          let called = parts.3.3 in
          let maybe = called.3.3 in
          let before = parts.3.4 in
          let enclosed = before.3.3 in
          let inner = enclosed.4 in
          subst HasItsParts (sym (parts.2 ∙ ap (λ f. f parts.1) (called.2 ∙ ap (λ f. f called.1) maybe.1)))
          (λ e. table_filled inner.0 inner.3.0 inner.3.3 (ap (λ (p : Parts). p.0) (sym (before.2 ∙ inner.2)) ∙ e))
      create_filled s marks (inr (inl h)) = index_filled true s h.1 h.4
      create_filled s marks (inr (inr h)) = index_filled false s marks h
  statement_filled s marks (inr (inr (inr (inr (inr (inl h)))))) = ⊎_elim (λ i. let n = i.4 in subst HasItsParts (sym n.2) tt) (λ i. let n = i.4 in subst HasItsParts (sym n.2) tt) h.4
  statement_filled s marks (inr (inr (inr (inr (inr (inr (inl h))))))) =
      let t = h.4.3.4 in
      subst HasItsParts (sym (h.4.2 ∙ t.2 ∙ t.3.4.1)) tt
  statement_filled s marks (inr (inr (inr (inr (inr (inr (inr (inl h)))))))) =
      ⊎_elim (λ i. let t = i.4 in subst HasItsParts (sym (t.2 ∙ t.3.4.1)) tt) (λ i. let t = i.4 in subst HasItsParts (sym (t.2 ∙ t.3.4.1)) tt) h
  statement_filled s marks (inr (inr (inr (inr (inr (inr (inr (inr (inl h))))))))) =
      let t = h.4 in
      ⊎_elim (λ i. subst HasItsParts (sym (t.2 ∙ i.4.1)) tt) (λ i. subst HasItsParts (sym (t.2 ∙ i.1)) tt) t.3.4
  statement_filled s marks (inr (inr (inr (inr (inr (inr (inr (inr (inr (inl h)))))))))) = subst HasItsParts (sym h.4.1) tt
  statement_filled s marks (inr (inr (inr (inr (inr (inr (inr (inr (inr (inr h)))))))))) = subst HasItsParts (sym h.4.1) tt

-- what tokens are has its parts
pub parts_of : (text : List ℕ) (tokens : List Token) (s : Stmt) → IsStatementOf text tokens s → HasItsParts s
parts_of text tokens s h = statement_filled (Placed (suc h.2.0)) s h.0 h.2.1
