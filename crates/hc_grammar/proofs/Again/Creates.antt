-- CREATE TABLE and CREATE INDEX are written again.
use Rattle.std.proofs.Common.{◌≡◌, inl, inr, ⊎_elim, refl, sym, subst, ap, ◌∙◌, ℕ, ◌+◌, Bool, true, false, List, [], ◌∷◌, ◌++◌, map, codes, append_assoc, append-nil, arith}
use Rattle.std.specs.Prelude.{if◌then◌else◌}
use Rattle.std.specs.List.{flat_map}
use Rattle.hc_lex.specs.declared.token.TokenKind.{TokenKind}
use Rattle.hc_lex.specs.declared.token.TokenKind.TheVariants as kind
use Rattle.hc_lex.specs.declared.keyword.Keyword.TheVariants as word
use Rattle.hc_lex.specs.Keywords.{table}
use Rattle.hc_value.specs.declared.storage.Class.{Class}
use Rattle.hc_value.specs.declared.storage.Class.TheVariants as class
use Rattle.hc_ast.specs.declared.table.ColumnDef.{ColumnDef}
use Rattle.hc_ast.specs.declared.table.ColumnRule.{ColumnRule}
use Rattle.hc_ast.specs.declared.table.ColumnRule.TheVariants.{PrimaryKey, NotNull, Unique}
use Rattle.hc_ast.specs.declared.table.KeyRule.{KeyRule}
use Rattle.hc_ast.specs.declared.statement.Stmt.{Stmt}
use Rattle.hc_ast.specs.declared.statement.Stmt.TheVariants as stmt
use Rattle.hc_ast.specs.Words.{Words, name_word, name_list, listed}
use Rattle.hc_ast.specs.Canonical.{if_not_exists, type_word, column_rule_words, column_words, key_rule_words}
use Rattle.hc_grammar.specs.Lexemes.{Lexeme}
use Rattle.hc_grammar.specs.Marks.{Plain, Mark, At}
use Rattle.hc_grammar.specs.Terminals.{IsOneOf}
use Rattle.hc_grammar.specs.Grammar.{Grammar, Nothing, Word, Made, Choice, Chain, Phased, Place}
use Rattle.hc_grammar.specs.Has.{Phrase, Parts, chosen, folded, has}
use Rattle.hc_grammar.specs.Phrases.{after_words, names, pushed}
use Rattle.hc_grammar.specs.Statements as rules
use Rattle.hc_grammar.specs.Statements.{column_type, column_rule, column_of, column, key_rule_of, key_rule, Part, OneColumn, OneRule, with_part, has_no_rule, parts, table_of, create_table, create_index, create}
use Rattle.hc_grammar.specs.Places.{Placed}
use Rattle.hc_grammar.proofs.Again.Words as words
use Rattle.hc_grammar.proofs.Again.Words.{of, spelled}
use Rattle.hc_grammar.proofs.Again.Written as written
use Rattle.hc_grammar.proofs.Again.Written.{Written, Given, given_left, given_right, counts, are_joined, apart_joined, same_joined, same_words, like, meaning, seen_as, empty, one, both, made, this, other, keyword}
use Rattle.hc_grammar.proofs.Again.Chains.{parts_more, folded_more, folded_pushed, chain_start, chain_again}
use Rattle.hc_grammar.proofs.Again.Plain.{uncounted}
use Rattle.hc_grammar.proofs.Again.Statements.{statement_words, enclosed_written, names_again, if_not_exists_written}

-- a column's type
type_written : (c : Class) (k : TokenKind) → IsOneOf k c ((kind.Keyword word.Integer, class.Int) ∷ (kind.Keyword word.Text, class.Text) ∷ (kind.Keyword word.Blob, class.Blob) ∷ [])
    → Written Placed (type_word c ∷ []) column_type c []
unfolding spelled table
type_written c k (inl h) = subst (λ z. Written Placed (type_word z ∷ []) column_type z []) (sym h.1) (like [] refl (one Plain _ class.Int (kind.Keyword word.Integer) (spelled word.Integer) words.paren (words.keyword word.Integer) (inl (refl, refl))))
type_written c k (inr (inl h)) = subst (λ z. Written Placed (type_word z ∷ []) column_type z []) (sym h.1) (like [] refl (one Plain _ class.Text (kind.Keyword word.Text) (spelled word.Text) words.paren (words.keyword word.Text) (inr (inl (refl, refl)))))
type_written c k (inr (inr (inl h))) = subst (λ z. Written Placed (type_word z ∷ []) column_type z []) (sym h.1) (like [] refl (one Plain _ class.Blob (kind.Keyword word.Blob) (spelled word.Blob) words.paren (words.keyword word.Blob) (inr (inr (inl (refl, refl))))))
type_written c k (inr (inr (inr h))) = absurd h

-- a rule on one column
rule_written : (r : ColumnRule) → Written Placed (column_rule_words r) column_rule r []
unfolding spelled table
rule_written PrimaryKey = this _ (like [] refl (keyword Plain word.Primary words.paren (keyword Plain word.Key words.paren (empty PrimaryKey))))
rule_written NotNull = other _ (this _ (like [] refl (keyword Plain word.Not words.paren (keyword Plain word.Null words.paren (empty NotNull)))))
rule_written Unique = other _ (other _ (like [] refl (keyword Plain word.Unique words.paren (empty Unique))))

-- one part more of a table
module _ {E : ℕ → (A : Type 0) → Place A → A → Phrase} {A B : Type 0} {g : Grammar B} {h i : Grammar A} {join : B → A → B} {test : B → Bool} {y : B} {p : A} {v w : Words} {m k : List Mark} where
  phased_with : (f : Grammar A) → ((n : ℕ) (l : List Mark) → has (E n) f p l → chosen (test y) (has (E n) h) (has (E n) i) p l) → Written E v (Phased g test h i join) y m → Written E w f p k
      → Written E (v ++ w) (Phased g test h i join) (join y p) (m ++ k)
  unfolding has
  phased_with f to a b =
      record {
        marks = a.marks ++ b.marks;
        least = a.least + b.least;
        are = are_joined v w a.marks b.marks a.are b.are;
        apart = apart_joined a.marks b.marks a.apart b.apart;
        same = same_joined a.marks b.marks m k a.same b.same;
        is = λ n e.
            let s = a.is n (omega (arith, e)) in (
              s.0,
              s.1 ++ p ∷ [],
              ap (λ c. join c p) s.2 ∙ folded_more join s.0 s.1 p,
              (
                s.3.0,
                s.3.1 ++ b.marks,
                ap (λ (l : List Mark). l ++ b.marks) s.3.2 ∙ append_assoc s.3.0 s.3.1 b.marks,
                s.3.3,
                parts_more (λ value. chosen (test value) (has (E n) h) (has (E n) i)) join s.0 s.1 p s.3.1 b.marks s.3.4
                    (subst (λ c. chosen (test c) (has (E n) h) (has (E n) i) p b.marks) s.2 (to n b.marks (b.is n (omega (arith, e))))),
              ),
            );
      }

-- the words of a table's parts
abbrev comma_rule : KeyRule → Words
comma_rule rule = codes "," ∷ key_rule_words rule

abbrev part_words : rules.Parts → Words
part_words x = listed (map column_words x.0) ++ flat_map comma_rule x.1

flat_more : {A : Type 0} (f : A → Words) (xs : List A) (x : A) → flat_map f (xs ++ x ∷ []) ≡ flat_map f xs ++ f x
flat_more f [] x = append-nil (f x)
flat_more f (y ∷ xs) x = ap (λ l. f y ++ l) (flat_more f xs x) ∙ sym (append_assoc (f y) (flat_map f xs) (f x))

map_more : {A B : Type 0} (f : A → B) (xs : List A) (x : A) → map f (xs ++ x ∷ []) ≡ map f xs ++ f x ∷ []
map_more f [] x = refl
map_more f (y ∷ xs) x = ap (λ l. f y ∷ l) (map_more f xs x)

column_more : (c d : ColumnDef) (cs : List ColumnDef) → part_words (c ∷ cs ++ d ∷ [], []) ≡ part_words (c ∷ cs, []) ++ (codes "," ∷ column_words d)
column_more c d cs =
    append-nil (listed (map column_words (c ∷ cs ++ d ∷ [])))
    ∙ ap (λ l. column_words c ++ flat_map (λ (o : Words). codes "," ∷ o) l) (map_more column_words cs d)
    ∙ ap (λ l. column_words c ++ l) (flat_more (λ (o : Words). codes "," ∷ o) (map column_words cs) (column_words d))
    ∙ sym (append_assoc (column_words c) (flat_map (λ (o : Words). codes "," ∷ o) (map column_words cs)) (codes "," ∷ column_words d))
    ∙ ap (λ l. l ++ (codes "," ∷ column_words d)) (sym (append-nil (listed (map column_words (c ∷ cs)))))

rule_more : (x : rules.Parts) (r : KeyRule) → part_words (x.0, x.1 ++ r ∷ []) ≡ part_words x ++ comma_rule r
rule_more x r = ap (λ l. listed (map column_words x.0) ++ l) (flat_more comma_rule x.1 r) ∙ sym (append_assoc (listed (map column_words x.0)) (flat_map comma_rule x.1) (comma_rule r))

primary_written : (b : Bool) → Written Placed (if b then codes "PRIMARY" ∷ codes "KEY" ∷ [] else codes "UNIQUE" ∷ []) (Choice (after_words (word.Primary ∷ word.Key ∷ []) (Nothing true)) (after_words (word.Unique ∷ []) (Nothing false))) b []
unfolding spelled table
primary_written true = this _ (like [] refl (keyword Plain word.Primary words.paren (keyword Plain word.Key words.paren (empty true))))
primary_written false = other _ (like [] refl (keyword Plain word.Unique words.paren (empty false)))

-- a table's parts begin with a column
phased_start : (c : ColumnDef) → Written Placed (column_words c) column c [] → Written Placed (part_words (c ∷ [], [])) parts (c ∷ [], []) []
unfolding has
phased_start c a =
    same_words (append-nil (column_words c ++ []) ∙ append-nil (column_words c))
    (seen_as parts (c ∷ [], []) (λ n l s. ((c ∷ [], []), [], refl, (l, [], sym (append-nil l), (c, refl, s), refl))) a)

-- a table's parts are written
abbrev Holds : rules.Parts → Type 0
Holds x = Written Placed (part_words x) parts x []

abbrev one_part : Grammar Part
one_part = Word Plain kind.Comma (Choice (Made OneColumn column) (Made OneRule key_rule))

abbrev one_rule : Grammar Part
one_rule = Word Plain kind.Comma (Made OneRule key_rule)

with_column : (c : ColumnDef) (cs : List ColumnDef) (d : ColumnDef) (u : Lexeme) → Written Placed (column_words d) column d [] → Holds (c ∷ cs, []) → Holds (c ∷ cs ++ d ∷ [], [])
with_column c cs d u b a =
    same_words (column_more c d cs) (like [] refl (phased_with one_part (λ n l z. z) a (written.word Plain kind.Comma (codes ",") u words.comma (this (Made OneRule key_rule) (made OneColumn b)))))

with_rule : (c : ColumnDef) (cs : List ColumnDef) (rs : List KeyRule) (r : KeyRule) (u : Lexeme) → Written Placed (key_rule_words r) key_rule r [] → Holds (c ∷ cs, rs) → Holds (c ∷ cs, rs ++ r ∷ [])
with_rule c cs [] r u b a =
    same_words (rule_more (c ∷ cs, []) r) (like [] refl (phased_with one_part (λ n l z. z) a (written.word Plain kind.Comma (codes ",") u words.comma (other (Made OneColumn column) (made OneRule b)))))
with_rule c cs (q ∷ rs) r u b a =
    same_words (rule_more (c ∷ cs, q ∷ rs) r) (like [] refl (phased_with one_rule (λ n l z. z) a (written.word Plain kind.Comma (codes ",") u words.comma (made OneRule b))))

module _ (k : ℕ) where
  column_again : (x : ColumnDef) (m : List Mark) → has (Placed k) column x m → Given m → Written Placed (column_words x) column x []
  unfolding has
  column_again x m c g =
      let i = c.3.3 in
      let n = i.3.3 in
      let r = c.3.4 in
      let given = given_right c.3.1 r.3.0 r.3.1 r.3.2 (given_right m c.3.0 c.3.1 c.3.2 g) in
      let all = chain_again (Placed k) (Nothing []) column_rule pushed column_rule_words (λ p l s gl. like l (sym (uncounted (Placed k) column_rule refl p l s)) (rule_written p)) [] [] [] (chain_start column_rule pushed (empty [])) r.1 r.3.1
      (subst (λ v. Parts (λ x. has (Placed k) column_rule) pushed v r.1 r.3.1) r.3.3.1 r.3.4) given in
      let none : counts r.3.1 ≡ [] = sym (ap counts (r.3.2 ∙ ap (λ (l : List Mark). l ++ r.3.1) r.3.3.0)) ∙ uncounted (Placed k) (Chain (Nothing []) column_rule pushed) refl c.1 c.3.1 r in
      let is : c.1 ≡ r.1 = r.2 ∙ ap (λ v. folded pushed v r.1) r.3.3.1 ∙ folded_pushed [] r.1 in
      subst (λ z. Written Placed (column_words z) column z []) (sym (c.2 ∙ ap (λ f. f c.1) (i.2 ∙ ap (λ f. f i.1) n.1) ∙ ap (λ l. column_of n.0 i.1 l) is))
      (like [] none (both (λ make x. make x) (both (λ make x. make x) (made column_of (written.name Plain n.0 words.paren)) (type_written i.1 _ i.3.4.2)) (meaning (sym (folded_pushed [] r.1)) all)))

  key_rule_again : (x : KeyRule) (m : List Mark) → has (Placed k) key_rule x m → Given m → Written Placed (key_rule_words x) key_rule x []
  unfolding has
  key_rule_again x m h g =
      subst (λ z. Written Placed (key_rule_words z) key_rule z []) (sym h.2)
      (both key_rule_of (primary_written h.0) (names_again k h.1 h.3.1 h.3.4 (given_right m h.3.0 h.3.1 h.3.2 g)))

  abbrev OnePart : rules.Parts → Part → Phrase
  OnePart value = chosen (has_no_rule value) (has (Placed k) one_part) (has (Placed k) one_rule)

  -- one part more
  part_again : (c : ColumnDef) (cs : List ColumnDef) (rs : List KeyRule) (p : Part) (m : List Mark) → OnePart (c ∷ cs, rs) p m → Given m → Holds (c ∷ cs, rs)
      → (ds : List ColumnDef) × (qs : List KeyRule) × (with_part (c ∷ cs, rs) p ≡ (c ∷ ds, qs)) × Holds (c ∷ ds, qs)
  unfolding has
  part_again c cs [] p m s g a =
      ⊎_elim
      (λ (i : (d : ColumnDef) × (p ≡ OneColumn d) × has (Placed k) column d s.1). (cs ++ i.0 ∷ [], [], ap (λ q. with_part (c ∷ cs, []) q) i.1, with_column c cs i.0 s.0 (column_again i.0 s.1 i.2 given) a))
      (λ (i : (r : KeyRule) × (p ≡ OneRule r) × has (Placed k) key_rule r s.1). (cs, i.0 ∷ [], ap (λ q. with_part (c ∷ cs, []) q) i.1, with_rule c cs [] i.0 s.0 (key_rule_again i.0 s.1 i.2 given) a)) s.4
    where
      given : Given s.1
      given = given_right m (At Plain s.0 ∷ []) s.1 s.2 g
  part_again c cs (r ∷ rs) p m s g a =
      (cs, (r ∷ rs) ++ s.4.0 ∷ [], ap (λ q. with_part (c ∷ cs, r ∷ rs) q) s.4.1, with_rule c cs (r ∷ rs) s.4.0 s.0 (key_rule_again s.4.0 s.1 s.4.2 (given_right m (At Plain s.0 ∷ []) s.1 s.2 g)) a)

  more_again : (c : ColumnDef) (cs : List ColumnDef) (rs : List KeyRule) → Holds (c ∷ cs, rs) → (ps : List Part) (m : List Mark) → Parts OnePart with_part (c ∷ cs, rs) ps m → Given m → Holds (folded with_part (c ∷ cs, rs) ps)
  more_again c cs rs a [] m s g = a
  more_again c cs rs a (p ∷ ps) m s g =
      let t = part_again c cs rs p s.0 s.3 (given_left m s.0 s.1 s.2 g) a in
      subst (λ q. Holds (folded with_part q ps)) (sym t.2) (more_again c t.0 t.1 t.3 ps s.1 (subst (λ q. Parts OnePart with_part q ps s.1) t.2 s.4) (given_right m s.0 s.1 s.2 g))

  -- a table's parts
  parts_again : (x : rules.Parts) (m : List Mark) → has (Placed k) parts x m → Given m → Holds x
  unfolding has
  parts_again x m h g =
      let c = h.3.3 in
      subst Holds (sym (h.2 ∙ ap (λ v. folded with_part v h.1) c.1))
      (more_again c.0 [] [] (phased_start c.0 (column_again c.0 h.3.0 c.2 (given_left m h.3.0 h.3.1 h.3.2 g))) h.1 h.3.1 (subst (λ v. Parts OnePart with_part v h.1 h.3.1) c.1 h.3.4) (given_right m h.3.0 h.3.1 h.3.2 g))

  table_written : (b : Bool) (n : List ℕ) (x : rules.Parts) → Holds x → Written Placed (statement_words (table_of b n x)) create (table_of b n x) []
  unfolding spelled table
  table_written true n x a =
      like [] refl (keyword Plain word.Create words.paren (this _ (keyword Plain word.Table words.paren (both (λ make x. make x) (both (λ make x. make x) (made table_of (if_not_exists_written true)) (written.name Plain n words.paren))
      (written.before (kind.Keyword word.Strict) (codes "STRICT") words.paren (words.keyword word.Strict) (enclosed_written a))))))
  table_written false n x a =
      like [] refl (keyword Plain word.Create words.paren (this _ (keyword Plain word.Table words.paren (both (λ make x. make x) (both (λ make x. make x) (made table_of (if_not_exists_written false)) (written.name Plain n words.paren))
      (written.before (kind.Keyword word.Strict) (codes "STRICT") words.paren (words.keyword word.Strict) (enclosed_written a))))))

  abbrev index_of : Bool → Bool → List ℕ → List ℕ → List (List ℕ) → Stmt
  index_of unique maybe called table columns = stmt.CreateIndex unique maybe called table columns

  index_written : (u b : Bool) (n t : List ℕ) (cs : List (List ℕ)) → Written Placed (name_list cs) names cs [] → Written Placed (codes "INDEX" ∷ if_not_exists b ++ name_word n ∷ codes "ON" ∷ name_word t ∷ name_list cs) (create_index u) (index_of u b n t cs) []
  unfolding spelled table
  index_written u true n t cs a =
      like [] refl (keyword Plain word.Index words.paren (both (λ make x. make x) (both (λ make x. make x) (both (λ make x. make x) (made (λ maybe called table columns. stmt.CreateIndex u maybe called table columns) (if_not_exists_written true)) (written.name Plain n words.paren))
      (keyword Plain word.On words.paren (written.name Plain t words.paren))) a))
  index_written u false n t cs a =
      like [] refl (keyword Plain word.Index words.paren (both (λ make x. make x) (both (λ make x. make x) (both (λ make x. make x) (made (λ maybe called table columns. stmt.CreateIndex u maybe called table columns) (if_not_exists_written false)) (written.name Plain n words.paren))
      (keyword Plain word.On words.paren (written.name Plain t words.paren))) a))

  index_again : (u : Bool) (s : Stmt) (m : List Mark) → has (Placed k) (create_index u) s m → Given m
      → (b : Bool) × (n t : List ℕ) × (cs : List (List ℕ)) × (s ≡ index_of u b n t cs) × Written Placed (name_list cs) names cs []
  unfolding has
  index_again u s m h g =
      let f = h.4 in
      let o = f.3.3 in
      let n = o.3.3 in
      (n.3.3.0, n.1, o.1, f.1, f.2 ∙ ap (λ q. q f.1) (o.2 ∙ ap (λ q. q o.1) (n.2 ∙ ap (λ q. q n.1) n.3.3.1)), names_again k f.1 f.3.1 f.3.4 (given_right h.1 f.3.0 f.3.1 f.3.2 (given_right m (At Plain h.0 ∷ []) h.1 h.2 g)))

  pub create_again : (s : Stmt) (m : List Mark) → has (Placed k) create s m → Given m → Written Placed (statement_words s) create s []
  unfolding has spelled table
  create_again s m h g = of_choice h.4
    where
      given : Given h.1
      given = given_right m (At Plain h.0 ∷ []) h.1 h.2 g

      of_choice : has (Placed k) (Choice create_table (Choice (after_words (word.Unique ∷ []) (create_index true)) (create_index false))) s h.1 → Written Placed (statement_words s) create s []
      of_choice (inl t) =
          let f = t.4 in
          let a = f.3.3 in
          let q = f.3.4 in
          let e = q.3.3.4 in
          subst (λ z. Written Placed (statement_words z) create z []) (sym (f.2 ∙ ap (λ q. q f.1) (a.2 ∙ ap (λ q. q a.1) a.3.3.1) ∙ ap (λ x. table_of a.3.3.0 a.1 x) (q.2 ∙ e.2)))
          (table_written a.3.3.0 a.1 e.0 (parts_again e.0 e.3.0 e.3.3
          (given_left q.3.3.1 e.3.0 e.3.1 e.3.2 (given_right q.3.0 (At Plain q.3.3.0 ∷ []) q.3.3.1 q.3.3.2 (given_left f.3.1 q.3.0 q.3.1 q.3.2 (given_right t.1 f.3.0 f.3.1 f.3.2 (given_right h.1 (At Plain t.0 ∷ []) t.1 t.2 given)))))))
      of_choice (inr (inl t)) =
          let i = index_again true s t.1 t.4 (given_right h.1 (At Plain t.0 ∷ []) t.1 t.2 given) in
          subst (λ z. Written Placed (statement_words z) create z []) (sym i.4)
          (like [] refl (keyword Plain word.Create words.paren (other _ (this _ (keyword Plain word.Unique words.paren (index_written true i.0 i.1 i.2 i.3 i.5))))))
      of_choice (inr (inr t)) =
          let i = index_again false s h.1 t given in
          subst (λ z. Written Placed (statement_words z) create z []) (sym i.4)
          (like [] refl (keyword Plain word.Create words.paren (other _ (other _ (index_written false i.0 i.1 i.2 i.3 i.5)))))
