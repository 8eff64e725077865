-- The canonical text of a statement has tokens, and they are that statement where levels are enough.
use Rattle.std.proofs.Common.{◌≡◌, ◌⊎◌, inl, inr, ⊎_elim, refl, sym, subst, ap, ◌∙◌, ℕ, zero, suc, ◌-◌, ◌≤◌, Bool, true, false, ◌&&◌, not, List, [], ◌∷◌, ◌++◌, length, arith, append_assoc}
use Rattle.std.proofs.lemmas.Bool.{and_parts, not-true}
use Rattle.hc_lex.specs.declared.token.Token.{Token}
use Rattle.hc_lex.specs.declared.keyword.Keyword.TheVariants as word
use Rattle.hc_lex.specs.Reading.{HasTokens}
use Rattle.hc_ast.specs.declared.statement.Stmt.{Stmt}
use Rattle.hc_ast.specs.declared.statement.Stmt.TheVariants as stmt
use Rattle.hc_ast.specs.Words.{Words, text_of}
use Rattle.hc_ast.specs.Canonical.{canonical, first_word, other_words}
use Rattle.hc_lex.specs.Keywords.{table}
use Rattle.hc_grammar.specs.Lexemes.{Lexeme, lexemes_of}
use Rattle.hc_grammar.specs.Marks.{Plain, Operator, Table, Mark, At, Opens, Closes, Begins, Limits, limits, lexemes, is_none, is_over, after, fits}
use Rattle.hc_grammar.specs.Grammar.{Grammar}
use Rattle.hc_grammar.specs.Has.{has}
use Rattle.hc_grammar.specs.Runs.{TooDeep}
use Rattle.hc_grammar.specs.Statements.{create, drop_statement, begin, commit, rollback, savepoint, release, statement}
use Rattle.hc_grammar.specs.Places.{Placed, Statement}
use Rattle.hc_grammar.specs.Faults.{HasFault, place_of}
use Rattle.hc_grammar.specs.Laws.{IsReadAgain}
use Rattle.hc_grammar.proofs.Meanings.Marks.{lexemes-append}
use Rattle.hc_grammar.proofs.Faults.Texts.{parted}
use Rattle.hc_grammar.proofs.Again.Given.{AreTokens, tokens_given}
use Rattle.hc_grammar.proofs.Again.Apart.{AreApart, words_of, read_apart}
use Rattle.hc_grammar.proofs.Again.Words.{spelled}
use Rattle.hc_grammar.proofs.Again.Written.{Written, Count, AnOperator, ATable, AnExpression, Given, given_right, counts, like, made, this, other, keyword}
use Rattle.hc_grammar.proofs.Again.Plain.{uncounted}
use Rattle.hc_grammar.proofs.Again.Queries.{query_again}
use Rattle.hc_grammar.proofs.Again.Statements.{statement_words, insert_again, update_again, delete_again, drop_again, begin_again, commit_again, rollback_again, savepoint_again, release_again}
use Rattle.hc_grammar.proofs.Again.Creates.{create_again}

-- a statement is written again
module _ (k : ℕ) (s : Stmt) (m : List Mark) where
  -- nothing is counted in it
  plainly : (g : Grammar Stmt) → counts m ≡ [] → Written Placed (statement_words s) g s [] → Written Placed (statement_words s) g s m
  plainly g none a = like m (sym none) a

  statement_again : has (Placed k) statement s m → Given m → Written Placed (statement_words s) statement s m
  unfolding has spelled table
  statement_again (inl h) g =
      let q = h.4 in
      subst (λ z. Written Placed (statement_words z) statement z m) (sym q.1)
      (like m (ap counts (sym h.2)) (this _ (keyword Plain word.Select h.0 (made stmt.Select (query_again k q.0 h.1 q.2 (given_right m (At Plain h.0 ∷ []) h.1 h.2 g))))))
  statement_again (inr (inl h)) g = other _ (this _ (insert_again k s m h g))
  statement_again (inr (inr (inl h))) g = other _ (other _ (this _ (update_again k s m h g)))
  statement_again (inr (inr (inr (inl h)))) g = other _ (other _ (other _ (this _ (delete_again k s m h g))))
  statement_again (inr (inr (inr (inr (inl h))))) g = other _ (other _ (other _ (other _ (this _ (plainly create (uncounted (Placed k) create refl s m h) (create_again k s m h g))))))
  statement_again (inr (inr (inr (inr (inr (inl h)))))) g =
      other _ (other _ (other _ (other _ (other _ (this _ (plainly drop_statement (uncounted (Placed k) drop_statement refl s m h) (drop_again k s m h)))))))
  statement_again (inr (inr (inr (inr (inr (inr (inl h))))))) g =
      other _ (other _ (other _ (other _ (other _ (other _ (this _ (plainly begin (uncounted (Placed k) begin refl s m h) (begin_again k s m h))))))))
  statement_again (inr (inr (inr (inr (inr (inr (inr (inl h)))))))) g =
      other _ (other _ (other _ (other _ (other _ (other _ (other _ (this _ (plainly commit (uncounted (Placed k) commit refl s m h) (commit_again k s m h)))))))))
  statement_again (inr (inr (inr (inr (inr (inr (inr (inr (inl h))))))))) g =
      other _ (other _ (other _ (other _ (other _ (other _ (other _ (other _ (this _ (plainly rollback (uncounted (Placed k) rollback refl s m h) (rollback_again k s m h))))))))))
  statement_again (inr (inr (inr (inr (inr (inr (inr (inr (inr (inl h)))))))))) g =
      other _ (other _ (other _ (other _ (other _ (other _ (other _ (other _ (other _ (this _ (plainly savepoint (uncounted (Placed k) savepoint refl s m h) (savepoint_again k s m h)))))))))))
  statement_again (inr (inr (inr (inr (inr (inr (inr (inr (inr (inr h)))))))))) g =
      other _ (other _ (other _ (other _ (other _ (other _ (other _ (other _ (other _ (other _ (plainly release (uncounted (Placed k) release refl s m h) (release_again k s m h)))))))))))

-- the limits of what is counted, but for levels
abbrev room : ℕ → ℕ → ℕ → List Count → Bool
room all operators tables [] = true
room all operators tables (AnOperator ∷ counts) = not (is_none operators) && room all (operators - 1) tables counts
room all operators tables (ATable ∷ counts) = not (is_none tables) && room all operators (tables - 1) counts
room all operators tables (AnExpression ∷ counts) = room all all tables counts

both_true : (a b : Bool) → a ≡ true → b ≡ true → a && b ≡ true
both_true a b e f = ap (λ c. c && b) e ∙ f

some_left : (levels n : ℕ) → suc n ≤ levels → not (is_none levels) ≡ true
some_left zero n l = absurd (omega (arith, l))
some_left (suc levels) n l = refl

module _ (all : Limits) where
  abbrev left_of : ℕ → ℕ → ℕ → Limits
  left_of levels operators tables = record { levels = levels; operators = operators; tables = tables }

  -- what fits has room
  has_room : (levels operators tables : ℕ) (m : List Mark) → fits all (left_of levels operators tables) m ≡ true → room all.operators operators tables (counts m) ≡ true
  has_room levels operators tables [] e = refl
  has_room levels operators tables (At Plain t ∷ m) e = has_room levels operators tables m e
  has_room levels operators tables (At Operator t ∷ m) e =
      let p = and_parts (not (is_none operators)) (fits all (left_of levels (operators - 1) tables) m) e in
      both_true (not (is_none operators)) (room all.operators (operators - 1) tables (counts m)) p.0 (has_room levels (operators - 1) tables m p.1)
  has_room levels operators tables (At Table t ∷ m) e =
      let p = and_parts (not (is_none tables)) (fits all (left_of levels operators (tables - 1)) m) e in
      both_true (not (is_none tables)) (room all.operators operators (tables - 1) (counts m)) p.0 (has_room levels operators (tables - 1) m p.1)
  has_room levels operators tables (Opens t ∷ m) e =
      has_room (levels - 1) operators tables m (and_parts (not (is_none levels)) (fits all (left_of (levels - 1) operators tables) m) e).1
  has_room levels operators tables (Closes ∷ m) e = has_room (suc levels) operators tables m e
  has_room levels operators tables (Begins ∷ m) e = has_room levels all.operators tables m e

  -- what has room fits where levels are enough
  enough : (levels operators tables : ℕ) (m : List Mark) → room all.operators operators tables (counts m) ≡ true → length m ≤ levels → fits all (left_of levels operators tables) m ≡ true
  enough levels operators tables [] e l = refl
  enough levels operators tables (At Plain t ∷ m) e l = enough levels operators tables m e (omega (arith, l))
  enough levels operators tables (At Operator t ∷ m) e l =
      let p = and_parts (not (is_none operators)) (room all.operators (operators - 1) tables (counts m)) e in
      both_true (not (is_none operators)) (fits all (left_of levels (operators - 1) tables) m) p.0 (enough levels (operators - 1) tables m p.1 (omega (arith, l)))
  enough levels operators tables (At Table t ∷ m) e l =
      let p = and_parts (not (is_none tables)) (room all.operators operators (tables - 1) (counts m)) e in
      both_true (not (is_none tables)) (fits all (left_of levels operators (tables - 1)) m) p.0 (enough levels operators (tables - 1) m p.1 (omega (arith, l)))
  enough levels operators tables (Opens t ∷ m) e l =
      both_true (not (is_none levels)) (fits all (left_of (levels - 1) operators tables) m) (some_left levels (length m) l) (enough (levels - 1) operators tables m e (omega (arith, l)))
  enough levels operators tables (Closes ∷ m) e l = enough (suc levels) operators tables m e (omega (arith, l))
  enough levels operators tables (Begins ∷ m) e l = enough levels all.operators tables m e (omega (arith, l))

  -- one level is too many
  abbrev OneTooDeep : Limits → List Mark → Type 0
  OneTooDeep left m = (front : List Mark) × (t : Lexeme) × (more : List Mark) × (m ≡ front ++ Opens t ∷ more) × (fits all left front ≡ true) × (fits all left (front ++ Opens t ∷ []) ≡ false)

  abbrev FitsOrDeep : Limits → List Mark → Type 0
  FitsOrDeep left m = (fits all left m ≡ true) ⊎ OneTooDeep left m

  one_more : (left : Limits) (x : Mark) (m : List Mark) → is_over left x ≡ false → FitsOrDeep (after all left x) m → FitsOrDeep left (x ∷ m)
  one_more left x m e (inl h) = inl (ap (λ b. not b && fits all (after all left x) m) e ∙ h)
  one_more left x m e (inr d) =
      inr (x ∷ d.0, d.1, d.2, ap (λ (l : List Mark). x ∷ l) d.3, ap (λ b. not b && fits all (after all left x) d.0) e ∙ d.4, ap (λ b. not b && fits all (after all left x) (d.0 ++ Opens d.1 ∷ [])) e ∙ d.5)

  -- what has room fits, or one level is too many
  fits_or_deep : (levels operators tables : ℕ) (m : List Mark) → room all.operators operators tables (counts m) ≡ true → FitsOrDeep (left_of levels operators tables) m
  fits_or_deep levels operators tables [] e = inl refl
  fits_or_deep levels operators tables (At Plain t ∷ m) e = one_more (left_of levels operators tables) (At Plain t) m refl (fits_or_deep levels operators tables m e)
  fits_or_deep levels operators tables (At Operator t ∷ m) e =
      let p = and_parts (not (is_none operators)) (room all.operators (operators - 1) tables (counts m)) e in
      one_more (left_of levels operators tables) (At Operator t) m (not-true (is_none operators) p.0) (fits_or_deep levels (operators - 1) tables m p.1)
  fits_or_deep levels operators tables (At Table t ∷ m) e =
      let p = and_parts (not (is_none tables)) (room all.operators operators (tables - 1) (counts m)) e in
      one_more (left_of levels operators tables) (At Table t) m (not-true (is_none tables) p.0) (fits_or_deep levels operators (tables - 1) m p.1)
  fits_or_deep zero operators tables (Opens t ∷ m) e = inr ([], t, m, refl, refl, refl)
  fits_or_deep (suc levels) operators tables (Opens t ∷ m) e = one_more (left_of (suc levels) operators tables) (Opens t) m refl (fits_or_deep (suc levels - 1) operators tables m e)
  fits_or_deep levels operators tables (Closes ∷ m) e = one_more (left_of levels operators tables) Closes m refl (fits_or_deep (suc levels) operators tables m e)
  fits_or_deep levels operators tables (Begins ∷ m) e = one_more (left_of levels operators tables) Begins m refl (fits_or_deep levels all.operators tables m e)

-- words that are tokens with a space between two of them are read, where there is one at least
words_read : (first : List ℕ) (others : Words) (front : List Lexeme) → AreApart front → first ∷ others ≡ words_of front
    → (tokens : List Token) × HasTokens (text_of (first ∷ others)) tokens × (lexemes_of (text_of (first ∷ others)) tokens ≡ front)
words_read first others [] apart are = absurd cc
words_read first others (t ∷ rest) apart are = read_apart t rest (text_of (first ∷ others)) apart (ap text_of are)

-- a level too many is a fault of the text
deep_fault : (text : List ℕ) (tokens : List Token) (s : Stmt) (m : List Mark) → lexemes_of text tokens ≡ lexemes m → Statement s m → OneTooDeep limits limits m → (at : ℕ) × HasFault text tokens TooDeep at
deep_fault text tokens s m same is d =
    let front = d.0 ++ Opens d.1 ∷ [] in
    let p = parted text tokens (lexemes d.0) (d.1 ∷ lexemes d.2) (same ∙ ap lexemes d.3 ∙ lexemes-append d.0 (Opens d.1 ∷ d.2)) in
    let whole : m ≡ front ++ d.2 = d.3 ∙ sym (append_assoc d.0 (Opens d.1 ∷ []) d.2) in
    (place_of text p.1, (p.0, p.1, p.2, refl, inl (d.0, d.1, lexemes d.2, p.4, sym p.3, (s, d.2, subst (Statement s) whole is), d.4, d.5)))

-- the canonical text of a statement is read again
pub read_again : IsReadAgain
read_again text tokens s given is =
    let m = is.0 in
    let w = statement_again (suc is.2.0) s m is.2.1 (subst AreTokens (sym is.1) (tokens_given text tokens given)) in
    let r = words_read (first_word s) (other_words s) (lexemes w.marks) w.apart w.are in
    let fitting : room limits.operators limits.operators limits.tables (counts w.marks) ≡ true =
    subst (λ c. room limits.operators limits.operators limits.tables c ≡ true) (sym w.same) (has_room limits limits.levels limits.operators limits.tables m is.3) in
    let derived : Statement s w.marks = (w.least, w.is (suc w.least) (omega arith)) in
    let levels = length w.marks in (
      r.0,
      r.1,
      (levels, (w.marks, sym r.2, derived, enough (record limits { levels = levels }) levels limits.operators limits.tables w.marks fitting (omega arith))),
      ⊎_elim (λ f. inl (w.marks, sym r.2, derived, f)) (λ d. inr (deep_fault (canonical s) r.0 s w.marks r.2 derived d)) (fits_or_deep limits limits.levels limits.operators limits.tables w.marks fitting),
    )
