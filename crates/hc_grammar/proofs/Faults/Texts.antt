-- Tokens are a statement or have a fault, and a text is exactly one thing.
use Rattle.std.proofs.Common.{◌≡◌, ◌⊎◌, inl, inr, ⊎_elim, ap, ◌∙◌, ℕ, suc, ◌+◌, List, [], ◌∷◌, ◌++◌, length, drop, Result, Ok, Err, refl, sym, subst, arith, length-append}
use Rattle.hc_lex.specs.declared.fault.LexKind.{LexKind}
use Rattle.hc_lex.specs.declared.token.Token.{Token}
use Rattle.hc_lex.specs.Laws.{EachTextHasTokensOrFault, HasNotTokensAndFault, HasOneListOfTokens}
use Rattle.hc_lex.specs.Laws.{HasOneFault as HasOneLexicalFault}
use Rattle.hc_lex.specs.Reading.{HasTokens}
use Rattle.hc_lex.specs.Reading.{HasFault as HasLexicalFault}
use Rattle.hc_ast.specs.declared.statement.Stmt.{Stmt}
use Rattle.hc_grammar.specs.Lexemes.{Lexeme, lexeme_of, lexemes_of}
use Rattle.hc_grammar.specs.Marks.{At, Operator, Table, Opens, Mark}
use Rattle.hc_grammar.specs.Runs.{Stop, Unexpected, TooDeep}
use Rattle.hc_grammar.specs.Faults.{IsFault, IsStatementOf, HasFault, place_of, read_whole}
use Rattle.hc_grammar.specs.Laws.{Text, AStatement, ALexicalFault, ASyntaxFault, ATooDeep, Is, IsOneThing, TokensAreOneThing, HasOneStatement}
use Rattle.hc_grammar.proofs.Faults.Fronts.{statement_read}
use Rattle.hc_grammar.proofs.Faults.Answers.{read_at, statement_answer, answer_statement, table_mark, operator_mark, level_mark, over_read}
use Rattle.hc_grammar.proofs.Faults.Unexpected.{unexpected_read}
use Rattle.hc_grammar.proofs.Faults.Stops.{answer_fault}

-- a fault is answered
pub fault_answer : (stop : Stop) (front rest : List Lexeme) → IsFault stop front rest → read_whole (front ++ rest) ≡ Err (stop, rest)
fault_answer Unexpected front rest (inl h) = unexpected_read front rest h.0 h.1 h.2 h.3 h.4
fault_answer Unexpected front rest (inr h) = over_read (At Table) Unexpected table_mark front rest h
fault_answer TooDeep front rest (inl h) = over_read Opens TooDeep level_mark front rest h
fault_answer TooDeep front rest (inr h) = over_read (At Operator) TooDeep operator_mark front rest h

-- lexemes are one statement at most, with one list of marks
pub one_statement : HasOneStatement
one_statement one other marks more h g is =
    let m : ℕ = h.0 + g.0 in
    let e = sym (statement_read one marks h m (omega arith)) ∙ ap (read_at m) is ∙ statement_read other more g m (omega arith) in
    let found : Result (Stmt × List Mark × List Lexeme) (List Mark × List Lexeme) → Stmt × List Mark = λ r. elim r [ Ok x ↦ (x.0, x.1) | Err s ↦ (one, marks) ] in
    (ap (λ r. (found r).0) e, ap (λ r. (found r).1) e)

module _ (text : List ℕ) where
  lexemes-append : (xs ys : List Token) → lexemes_of text (xs ++ ys) ≡ lexemes_of text xs ++ lexemes_of text ys
  lexemes-append [] ys = refl
  lexemes-append (x ∷ xs) ys = ap (λ (l : List Lexeme). lexeme_of text x ∷ l) (lexemes-append xs ys)

  lexemes-length : (xs : List Token) → length (lexemes_of text xs) ≡ length xs
  lexemes-length [] = refl
  lexemes-length (x ∷ xs) = ap suc (lexemes-length xs)

  -- a list of lexemes ends as the tokens do
  pub parted : (tokens : List Token) (front rest : List Lexeme) → lexemes_of text tokens ≡ front ++ rest
      → (before after : List Token) × (tokens ≡ before ++ after) × (lexemes_of text before ≡ front) × (lexemes_of text after ≡ rest)
  parted tokens [] rest e = ([], tokens, refl, refl, e)
  parted [] (t ∷ front) rest e = absurd (cc)
  parted (x ∷ tokens) (t ∷ front) rest e =
      let p = parted tokens front rest (ap (λ (l : List Lexeme). drop 1 l) e) in
      (x ∷ p.0, p.1, ap (λ (l : List Token). x ∷ l) p.2, ap (λ (l : List Lexeme). lexeme_of text x ∷ l) p.3 ∙ ap (λ (y : Lexeme). y ∷ front) (head_is e), p.4)
    where
      head_is : lexeme_of text x ∷ lexemes_of text tokens ≡ t ∷ (front ++ rest) → lexeme_of text x ≡ t
      head_is e = cc

  -- what is answered for the tokens of a text
  pub statement_of_answer : (tokens : List Token) (s : Stmt) → read_whole (lexemes_of text tokens) ≡ Ok s → IsStatementOf text tokens s
  statement_of_answer tokens s e = answer_statement s (lexemes_of text tokens) e

  pub answer_of_statement : (tokens : List Token) (s : Stmt) → IsStatementOf text tokens s → read_whole (lexemes_of text tokens) ≡ Ok s
  answer_of_statement tokens s h = statement_answer s (lexemes_of text tokens) h

  pub answer_of_fault : (tokens : List Token) (stop : Stop) (at : ℕ) → HasFault text tokens stop at
      → (front rest : List Token) × (tokens ≡ front ++ rest) × (at ≡ place_of text rest) × (read_whole (lexemes_of text tokens) ≡ Err (stop, lexemes_of text rest))
  answer_of_fault tokens stop at h =
      (h.0, h.1, h.2, h.3, ap (λ ts. read_whole (lexemes_of text ts)) h.2 ∙ ap read_whole (lexemes-append h.0 h.1) ∙ fault_answer stop (lexemes_of text h.0) (lexemes_of text h.1) h.4)

  some_fault : (tokens : List Token) (stop : Stop) (rest : List Lexeme) → read_whole (lexemes_of text tokens) ≡ Err (stop, rest) → (at : ℕ) × HasFault text tokens stop at
  some_fault tokens stop rest e =
      let f = answer_fault stop (lexemes_of text tokens) rest e in
      let p = parted tokens f.0 rest f.1 in
      (place_of text p.1, (p.0, p.1, p.2, refl, subst (λ (l : List Lexeme). IsFault stop l (lexemes_of text p.1)) (sym p.3) (subst (λ (l : List Lexeme). IsFault stop f.0 l) (sym p.4) f.2)))

  same_back : (xs ys us vs : List Token) → length ys ≡ length vs → xs ++ ys ≡ us ++ vs → ys ≡ vs
  same_back [] ys [] vs n e = e
  same_back [] ys (u ∷ us) vs n e = absurd (omega (arith, ap length e, n, length-append us vs))
  same_back (x ∷ xs) ys [] vs n e = absurd (omega (arith, ap length e, n, length-append xs ys))
  same_back (x ∷ xs) ys (u ∷ us) vs n e = same_back xs ys us vs n (ap (λ (l : List Token). drop 1 l) e)

  -- the fault of an answer that leaves some of the tokens
  pub fault_of_answer : (tokens front rest : List Token) (stop : Stop) → tokens ≡ front ++ rest → read_whole (lexemes_of text tokens) ≡ Err (stop, lexemes_of text rest) → HasFault text tokens stop (place_of text rest)
  fault_of_answer tokens front rest stop is e =
      let f = some_fault tokens stop (lexemes_of text rest) e in
      let a = answer_of_fault tokens stop f.0 f.1 in
      let same : lexemes_of text a.1 ≡ lexemes_of text rest = stopped (sym a.4 ∙ e) in
      let back : a.1 ≡ rest = same_back a.0 a.1 front rest (sym (lexemes-length a.1) ∙ ap length same ∙ lexemes-length rest) (sym a.2 ∙ is) in
      subst (HasFault text tokens stop) (a.3 ∙ ap (place_of text) back) f.1
    where
      stopped : {x y : Stop} {us vs : List Lexeme} → (let r : Result Stmt (Stop × List Lexeme) = Err (x, us) in r ≡ Err (y, vs)) → us ≡ vs
      stopped {x} {y} {us} {vs} e = ap (λ (r : Result Stmt (Stop × List Lexeme)). elim r [ Ok s ↦ us | Err q ↦ q.1 ]) e

  -- tokens have one fault at most
  pub one_fault : (tokens : List Token) (one other : Stop) (at place : ℕ) → HasFault text tokens one at → HasFault text tokens other place → (other ≡ one) × (place ≡ at)
  one_fault tokens one other at place h g =
      let a = answer_of_fault tokens one at h in
      let b = answer_of_fault tokens other place g in
      let e = sym b.4 ∙ a.4 in
      let found : Result Stmt (Stop × List Lexeme) → Stop × List Lexeme = λ r. elim r [ Ok s ↦ (one, []) | Err q ↦ q ] in
      let same : lexemes_of text b.1 ≡ lexemes_of text a.1 = ap (λ r. (found r).1) e in
      let back : b.1 ≡ a.1 = same_back b.0 b.1 a.0 a.1 (sym (lexemes-length b.1) ∙ ap length same ∙ lexemes-length a.1) (sym b.2 ∙ a.2) in
      (ap (λ r. (found r).0) e, b.3 ∙ ap (place_of text) back ∙ sym a.3)

  -- no statement has a fault
  pub not_both : (tokens : List Token) (s : Stmt) (stop : Stop) (at : ℕ) → IsStatementOf text tokens s → HasFault text tokens stop at → ⊥
  not_both tokens s stop at h g =
      let a = answer_of_fault tokens stop at g in
      let bad = sym (answer_of_statement tokens s h) ∙ a.4 in
      cc

  -- tokens are one statement at most
  pub one_of_tokens : (tokens : List Token) (one other : Stmt) → IsStatementOf text tokens one → IsStatementOf text tokens other → other ≡ one
  one_of_tokens tokens one other h g = let e = sym (answer_of_statement tokens other g) ∙ answer_of_statement tokens one h in cc

-- tokens are a statement or have a fault, and one alone
pub tokens_are_one_thing : TokensAreOneThing
tokens_are_one_thing text tokens = by (read_whole (lexemes_of text tokens)) refl
  where
    by : (r : Result Stmt (Stop × List Lexeme)) → read_whole (lexemes_of text tokens) ≡ r
        → ((s : Stmt) × IsStatementOf text tokens s × ((other : Stmt) → IsStatementOf text tokens other → other ≡ s) × ((stop : Stop) (at : ℕ) → HasFault text tokens stop at → ⊥))
        ⊎ ((stop : Stop) × (at : ℕ) × HasFault text tokens stop at × ((other : Stop) (place : ℕ) → HasFault text tokens other place → (other ≡ stop) × (place ≡ at))
        × ((s : Stmt) → IsStatementOf text tokens s → ⊥))
    by (Ok s) e =
        let h = statement_of_answer text tokens s e in
        inl (s, h, (λ other g. one_of_tokens text tokens s other h g), (λ stop at g. not_both text tokens s stop at h g))
    by (Err q) e =
        let f = some_fault text tokens q.0 q.1 e in
        inr (q.0, f.0, f.1, (λ other place g. one_fault text tokens q.0 other f.0 place f.1 g), (λ s h. not_both text tokens s q.0 f.0 h f.1))

-- what is said of a text's faults
fault_text : Stop → ℕ → Text
fault_text Unexpected at = ASyntaxFault at
fault_text TooDeep at = ATooDeep at

-- each text is exactly one thing
pub one_thing : EachTextHasTokensOrFault → HasOneListOfTokens → HasNotTokensAndFault → HasOneLexicalFault → IsOneThing
unfolding fault_text
one_thing each one_list not_tokens one_lexical text = ⊎_elim (λ h. by_tokens h.0 h.1 (tokens_are_one_thing text h.0)) by_fault (each text)
  where
    by_fault : ((at : ℕ) × (kind : LexKind) × HasLexicalFault text at kind) → (this : Text) × Is text this × ((other : Text) → Is text other → other ≡ this)
    by_fault (at, kind, f) = (ALexicalFault kind at, f, only)
      where
        only : (other : Text) → Is text other → other ≡ ALexicalFault kind at
        only (AStatement s) h = absurd (not_tokens text h.0 at kind h.1 f)
        only (ALexicalFault other place) h = let p = one_lexical text place at other kind h f in ap (λ k. ALexicalFault k place) p.1 ∙ ap (λ n. ALexicalFault kind n) p.0
        only (ASyntaxFault place) h = absurd (not_tokens text h.0 at kind h.1 f)
        only (ATooDeep place) h = absurd (not_tokens text h.0 at kind h.1 f)

    by_tokens : (tokens : List Token) → HasTokens text tokens
        → ((s : Stmt) × IsStatementOf text tokens s × ((other : Stmt) → IsStatementOf text tokens other → other ≡ s) × ((stop : Stop) (at : ℕ) → HasFault text tokens stop at → ⊥))
        ⊎ ((stop : Stop) × (at : ℕ) × HasFault text tokens stop at × ((other : Stop) (place : ℕ) → HasFault text tokens other place → (other ≡ stop) × (place ≡ at))
        × ((s : Stmt) → IsStatementOf text tokens s → ⊥))
        → (this : Text) × Is text this × ((other : Text) → Is text other → other ≡ this)
    by_tokens tokens has (inl h) = (AStatement h.0, (tokens, has, h.1), only)
      where
        only : (other : Text) → Is text other → other ≡ AStatement h.0
        only (AStatement s) g = ap (λ (x : Stmt). AStatement x) (h.2 s (subst (λ (l : List Token). IsStatementOf text l s) (one_list text g.0 tokens g.1 has) g.2))
        only (ALexicalFault kind at) g = absurd (not_tokens text tokens at kind has g)
        only (ASyntaxFault at) g = absurd (h.3 Unexpected at (subst (λ (l : List Token). HasFault text l Unexpected at) (one_list text g.0 tokens g.1 has) g.2))
        only (ATooDeep at) g = absurd (h.3 TooDeep at (subst (λ (l : List Token). HasFault text l TooDeep at) (one_list text g.0 tokens g.1 has) g.2))
    by_tokens tokens has (inr h) = (fault_text h.0 h.1, is_so h.0 h.2, only)
      where
        is_so : (stop : Stop) → HasFault text tokens stop h.1 → Is text (fault_text stop h.1)
        is_so Unexpected g = (tokens, has, g)
        is_so TooDeep g = (tokens, has, g)

        only : (other : Text) → Is text other → other ≡ fault_text h.0 h.1
        only (AStatement s) g = absurd (h.4 s (subst (λ (l : List Token). IsStatementOf text l s) (one_list text g.0 tokens g.1 has) g.2))
        only (ALexicalFault kind at) g = absurd (not_tokens text tokens at kind has g)
        only (ASyntaxFault at) g =
            let p = h.3 Unexpected at (subst (λ (l : List Token). HasFault text l Unexpected at) (one_list text g.0 tokens g.1 has) g.2) in
            ap (λ s. fault_text s at) p.0 ∙ ap (λ n. fault_text h.0 n) p.1
        only (ATooDeep at) g =
            let p = h.3 TooDeep at (subst (λ (l : List Token). HasFault text l TooDeep at) (one_list text g.0 tokens g.1 has) g.2) in
            ap (λ s. fault_text s at) p.0 ∙ ap (λ n. fault_text h.0 n) p.1
