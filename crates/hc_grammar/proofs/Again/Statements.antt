-- Statements that change rows, drop, or control transactions are written again.
use Rattle.std.proofs.Common.{◌≡◌, inl, inr, ⊎_elim, refl, sym, subst, ap, ◌∙◌, ℕ, Bool, true, false, List, [], ◌∷◌, ◌++◌, codes, Option, Some, None, append-nil}
use Rattle.hc_lex.specs.declared.token.TokenKind.TheVariants as kind
use Rattle.hc_lex.specs.declared.keyword.Keyword.TheVariants as word
use Rattle.hc_lex.specs.Keywords.{table}
use Rattle.hc_ast.specs.declared.statement.Assign.{Assign}
use Rattle.hc_ast.specs.declared.statement.ExprRow.{ExprRow}
use Rattle.hc_ast.specs.declared.statement.Stmt.{Stmt}
use Rattle.hc_ast.specs.declared.statement.Stmt.TheVariants as stmt
use Rattle.hc_ast.specs.Words.{Words, name_word, name_list, enclosed}
use Rattle.hc_ast.specs.Expressions.{expression_words}
use Rattle.hc_ast.specs.Canonical.{columns_words, row_words, assign_words, first_word, other_words, if_not_exists, if_exists}
use Rattle.hc_grammar.specs.Marks.{Plain, Mark, At}
use Rattle.hc_grammar.specs.Grammar.{Grammar, Made}
use Rattle.hc_grammar.specs.Has.{has}
use Rattle.hc_grammar.specs.Phrases as phrase
use Rattle.hc_grammar.specs.Phrases.{◌⊛◌, maybe, after_words, flag, names}
use Rattle.hc_grammar.specs.Expressions.{expression}
use Rattle.hc_grammar.specs.Statements as rules
use Rattle.hc_grammar.specs.Statements.{row_of, row, insert, assign_of, assign, update, delete, drop_statement, transaction, savepoint_name, begin, commit, rollback, savepoint, release}
use Rattle.hc_grammar.specs.Places.{Placed}
use Rattle.hc_grammar.proofs.Again.Words as words
use Rattle.hc_grammar.proofs.Again.Words.{spelled}
use Rattle.hc_grammar.proofs.Again.Written as written
use Rattle.hc_grammar.proofs.Again.Written.{Written, Given, given_left, given_right, counts, counts-append, same_words, like, meaning, empty, both, made, this, other, keyword, before}
use Rattle.hc_grammar.proofs.Again.Chains.{listed_again}
use Rattle.hc_grammar.proofs.Again.Expressions.{counts_before}
use Rattle.hc_grammar.proofs.Again.Plain.{uncounted}
use Rattle.hc_grammar.proofs.Again.Queries.{expression_again, clause_again}

-- the words of a statement
abbrev pub statement_words : Stmt → Words
statement_words s = first_word s ∷ other_words s

-- in parentheses
pub enclosed_written : {A : Type 0} {w : Words} {g : Grammar A} {x : A} {m : List Mark} → Written Placed w g x m → Written Placed (enclosed w) (phrase.enclosed g) x m
enclosed_written {m = m} a =
    like m (counts-append m (At Plain words.paren ∷ []) ∙ append-nil (counts m))
    (written.word Plain kind.LeftParen (codes "(") words.paren words.left_paren (before kind.RightParen (codes ")") words.paren words.right_paren a))

module _ (k : ℕ) where
  -- names in parentheses
  pub names_again : (xs : List (List ℕ)) (m : List Mark) → has (Placed k) names xs m → Given m → Written Placed (name_list xs) names xs []
  unfolding has
  names_again xs m h g =
      let b = h.4 in
      let list = listed_again (Placed k) phrase.name (λ x. name_word x ∷ []) (λ x l s gl. like l (ap counts (sym s.1)) (written.name Plain x s.0)) b.0 b.3.0 b.3.3
      (given_left h.1 b.3.0 b.3.1 b.3.2 (given_right m (At Plain h.0 ∷ []) h.1 h.2 g)) in
      subst (λ z. Written Placed (name_list z) names z []) (sym b.2) (like [] (uncounted (Placed k) (phrase.listed phrase.name) refl b.0 b.3.0 b.3.3) (enclosed_written list))

  columns_again : (o : Option (List (List ℕ))) (m : List Mark) → has (Placed k) (maybe names) o m → Given m → Written Placed (columns_words o) (maybe names) o []
  unfolding has
  columns_again o m (inl h) g = subst (λ z. Written Placed (columns_words z) (maybe names) z []) (sym h.1) (this _ (made Some (names_again h.0 m h.2 g)))
  columns_again o m (inr h) g = subst (λ z. Written Placed (columns_words z) (maybe names) z []) (sym h.1) (other _ (empty None))

  -- a row of VALUES
  row_again : (x : ExprRow) (m : List Mark) → has (Placed k) row x m → Given m → Written Placed (row_words x) row x m
  unfolding has
  row_again x m h g =
      let w = h.2 in
      let b = w.4 in
      let given = given_left w.1 b.3.0 b.3.1 b.3.2 (given_right m (At Plain w.0 ∷ []) w.1 w.2 g) in
      subst (λ z. Written Placed (row_words z) row z m) (sym (h.1 ∙ ap row_of b.2))
      (like m (counts_before w.1 b.3.0 b.3.1 b.3.4.0 b.3.2 (b.3.4.2 ∙ ap (λ (l : List Mark). At Plain b.3.4.0 ∷ l) b.3.4.4.0) ∙ ap counts (sym w.2))
      (made row_of (enclosed_written (listed_again (Placed k) expression expression_words (expression_again k) b.0 b.3.0 b.3.3 given))))

  pub insert_again : (s : Stmt) (m : List Mark) → has (Placed k) insert s m → Given m → Written Placed (statement_words s) insert s m
  unfolding has spelled table
  insert_again s m h g =
      let r = h.4.4 in
      let c = r.3.3 in
      let t = c.3.3 in
      let g1 = given_right h.1 (At Plain h.4.0 ∷ []) h.4.1 h.4.2 (given_right m (At Plain h.0 ∷ []) h.1 h.2 g) in
      let g2 = given_left h.4.1 r.3.0 r.3.1 r.3.2 g1 in
      let v = r.3.4 in
      let g3 = given_right r.3.1 (At Plain v.0 ∷ []) v.1 v.2 (given_right h.4.1 r.3.0 r.3.1 r.3.2 g1) in
      let cols = columns_again c.1 c.3.1 c.3.4 (given_right r.3.0 c.3.0 c.3.1 c.3.2 g2) in
      let rows = keyword Plain word.Values v.0 (listed_again (Placed k) row row_words row_again r.1 v.1 v.4 g3) in
      let none : counts r.3.0 ≡ [] = uncounted (Placed k) (Made (λ table columns rows. stmt.Insert table columns rows) phrase.name ⊛ maybe names) refl r.0 r.3.0 r.3.3 in
      subst (λ z. Written Placed (statement_words z) insert z m) (sym (r.2 ∙ ap (λ f. f r.1) (c.2 ∙ ap (λ f. f c.1) t.1)))
      (like m (ap counts (sym v.2) ∙ ap (λ l. l ++ counts r.3.1) (sym none) ∙ sym (counts-append r.3.0 r.3.1) ∙ ap counts (sym r.3.2) ∙ ap counts (sym h.4.2) ∙ ap counts (sym h.2))
      (keyword Plain word.Insert h.0 (keyword Plain word.Into h.4.0
      (both (λ make x. make x) (both (λ make x. make x) (made (λ table columns rows. stmt.Insert table columns rows) (written.name Plain t.0 words.paren)) cols) rows))))

  -- a column and its new value
  assign_again : (x : Assign) (m : List Mark) → has (Placed k) assign x m → Given m → Written Placed (assign_words x) assign x m
  unfolding has
  assign_again x m h g =
      let e = h.3.4 in
      subst (λ z. Written Placed (assign_words z) assign z m) (sym h.2)
      (like m (ap counts (sym e.2) ∙ ap (λ (l : List Mark). counts (l ++ h.3.1)) (sym h.3.3.1) ∙ ap counts (sym h.3.2))
      (both assign_of (written.name Plain h.0 words.paren)
      (written.word Plain kind.Equal (codes "=") e.0 words.equal (expression_again k h.1 e.1 e.4 (given_right h.3.1 (At Plain e.0 ∷ []) e.1 e.2 (given_right m h.3.0 h.3.1 h.3.2 g))))))

  pub update_again : (s : Stmt) (m : List Mark) → has (Placed k) update s m → Given m → Written Placed (statement_words s) update s m
  unfolding has spelled table
  update_again s m h g =
      let f = h.4 in
      let a = f.3.3 in
      let t = a.3.3 in
      let g1 = given_right m (At Plain h.0 ∷ []) h.1 h.2 g in
      let v = a.3.4 in
      let g2 = given_right a.3.1 (At Plain v.0 ∷ []) v.1 v.2 (given_right f.3.0 a.3.0 a.3.1 a.3.2 (given_left h.1 f.3.0 f.3.1 f.3.2 g1)) in
      let sets = keyword Plain word.Set v.0 (listed_again (Placed k) assign assign_words assign_again a.1 v.1 v.4 g2) in
      let filter = clause_again k word.Where f.1 f.3.1 f.3.4 (given_right h.1 f.3.0 f.3.1 f.3.2 g1) in
      let none : counts a.3.0 ≡ [] = uncounted (Placed k) (Made (λ table sets filter. stmt.Update table sets filter) phrase.name) refl a.0 a.3.0 a.3.3 in
      subst (λ z. Written Placed (statement_words z) update z m) (sym (f.2 ∙ ap (λ q. q f.1) (a.2 ∙ ap (λ q. q a.1) t.1)))
      (like m
      (counts-append v.1 f.3.1 ∙ ap (λ l. counts l ++ counts f.3.1) (sym v.2) ∙ ap (λ l. (l ++ counts a.3.1) ++ counts f.3.1) (sym none) ∙ ap (λ l. l ++ counts f.3.1) (sym (counts-append a.3.0 a.3.1) ∙ ap counts (sym a.3.2))
      ∙ sym (counts-append f.3.0 f.3.1) ∙ ap counts (sym f.3.2) ∙ ap counts (sym h.2))
      (keyword Plain word.Update h.0 (both (λ make x. make x) (both (λ make x. make x) (made (λ table sets filter. stmt.Update table sets filter) (written.name Plain t.0 words.paren)) sets) filter)))

  pub delete_again : (s : Stmt) (m : List Mark) → has (Placed k) delete s m → Given m → Written Placed (statement_words s) delete s m
  unfolding has spelled table
  delete_again s m h g =
      let f = h.4.4 in
      let t = f.3.3 in
      let g1 = given_right h.1 (At Plain h.4.0 ∷ []) h.4.1 h.4.2 (given_right m (At Plain h.0 ∷ []) h.1 h.2 g) in
      let filter = clause_again k word.Where f.1 f.3.1 f.3.4 (given_right h.4.1 f.3.0 f.3.1 f.3.2 g1) in
      let none : counts f.3.0 ≡ [] = uncounted (Placed k) (Made (λ table filter. stmt.Delete table filter) phrase.name) refl f.0 f.3.0 f.3.3 in
      subst (λ z. Written Placed (statement_words z) delete z m) (sym (f.2 ∙ ap (λ q. q f.1) t.1))
      (like m (ap (λ l. l ++ counts f.3.1) (sym none) ∙ sym (counts-append f.3.0 f.3.1) ∙ ap counts (sym f.3.2) ∙ ap counts (sym h.4.2) ∙ ap counts (sym h.2))
      (keyword Plain word.Delete h.0 (keyword Plain word.From h.4.0 (both (λ make x. make x) (made (λ table filter. stmt.Delete table filter) (written.name Plain t.0 words.paren)) filter))))

-- the words that pass over what is there, and what is missing
pub if_not_exists_written : (b : Bool) → Written Placed (if_not_exists b) rules.if_not_exists b []
unfolding spelled table
if_not_exists_written true = this _ (like [] refl (keyword Plain word.If words.paren (keyword Plain word.Not words.paren (keyword Plain word.Exists words.paren (empty true)))))
if_not_exists_written false = other _ (empty false)

if_exists_written : (b : Bool) → Written Placed (if_exists b) rules.if_exists b []
unfolding spelled table
if_exists_written true = this _ (like [] refl (keyword Plain word.If words.paren (keyword Plain word.Exists words.paren (empty true))))
if_exists_written false = other _ (empty false)

-- the words that may be left out are
transaction_written : {A : Type 0} {w : Words} {g : Grammar A} {x : A} {m : List Mark} → Written Placed w g x m → Written Placed w (transaction g) x m
transaction_written a = both (λ is_there x. x) (other _ (empty false)) a

savepoint_name_written : (x : List ℕ) → Written Placed (name_word x ∷ []) savepoint_name x []
savepoint_name_written x = like [] refl (both (λ is_there x. x) (other _ (empty false)) (written.name Plain x words.paren))

-- statements that have no expression
module _ (k : ℕ) (s : Stmt) (m : List Mark) where
  abbrev Plainly : Grammar Stmt → Type 0
  Plainly g = has (Placed k) g s m → Written Placed (statement_words s) g s []

  pub drop_again : Plainly drop_statement
  unfolding has spelled table
  drop_again h =
      ⊎_elim
      (λ i. subst (λ z. Written Placed (statement_words z) drop_statement z []) (sym i.4.2)
      (like [] refl (keyword Plain word.Drop words.paren (this _ (keyword Plain word.Table words.paren (both stmt.DropTable (if_exists_written i.4.0) (written.name Plain i.4.1 words.paren)))))))
      (λ i. subst (λ z. Written Placed (statement_words z) drop_statement z []) (sym i.4.2)
      (like [] refl (keyword Plain word.Drop words.paren (other _ (keyword Plain word.Index words.paren (both stmt.DropIndex (if_exists_written i.4.0) (written.name Plain i.4.1 words.paren))))))) h.4

  pub begin_again : Plainly begin
  unfolding has spelled table
  begin_again h =
      let t = h.4.3.4 in
      subst (λ z. Written Placed (statement_words z) begin z []) (sym (h.4.2 ∙ t.2 ∙ t.3.4.1))
      (like [] refl (keyword Plain word.Begin words.paren (both (λ kind statement. statement) (other _ (other _ (empty false))) (transaction_written (empty stmt.Begin)))))

  pub commit_again : Plainly commit
  unfolding has spelled table
  commit_again h = subst (λ z. Written Placed (statement_words z) commit z []) (sym is) (this _ (like [] refl (keyword Plain word.Commit words.paren (transaction_written (empty stmt.Commit)))))
    where
      is : s ≡ stmt.Commit
      is = ⊎_elim (λ i. i.4.2 ∙ i.4.3.4.1) (λ i. i.4.2 ∙ i.4.3.4.1) h

  pub rollback_again : Plainly rollback
  unfolding has spelled table
  rollback_again h =
      ⊎_elim
      (λ i. subst (λ z. Written Placed (statement_words z) rollback z []) (sym (h.4.2 ∙ i.4.1))
      (like [] refl (keyword Plain word.Rollback words.paren (transaction_written (this _ (keyword Plain word.To words.paren (made stmt.RollbackTo (savepoint_name_written i.4.0))))))))
      (λ i. subst (λ z. Written Placed (statement_words z) rollback z []) (sym (h.4.2 ∙ i.1)) (like [] refl (keyword Plain word.Rollback words.paren (transaction_written (other _ (empty stmt.Rollback)))))) h.4.3.4

  pub savepoint_again : Plainly savepoint
  unfolding has spelled table
  savepoint_again h =
      subst (λ z. Written Placed (statement_words z) savepoint z []) (sym h.4.1) (like [] refl (keyword Plain word.Savepoint words.paren (made stmt.Savepoint (written.name Plain h.4.0 words.paren))))

  pub release_again : Plainly release
  unfolding has spelled table
  release_again h =
      subst (λ z. Written Placed (statement_words z) release z []) (sym h.4.1) (like [] refl (keyword Plain word.Release words.paren (made stmt.Release (savepoint_name_written h.4.0))))
