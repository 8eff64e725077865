-- Phrases in which nothing is counted.
use Rattle.std.proofs.Common.{◌≡◌, ⊎_elim, refl, ap, ◌∙◌, ℕ, zero, suc, ◌≤◌, Bool, true, false, ◌&&◌, List, [], ◌∷◌, ◌++◌, Option, Some, None, append-nil, arith}
use Rattle.std.proofs.lemmas.Bool.{and_parts}
use Rattle.hc_lex.specs.declared.keyword.Keyword.TheVariants as word
use Rattle.hc_lex.specs.Keywords.{table}
use Rattle.hc_ast.specs.declared.expression.Expr.{Expr}
use Rattle.hc_ast.specs.Expressions.{expression_words}
use Rattle.hc_ast.specs.Canonical.{alias_words}
use Rattle.hc_grammar.specs.Marks.{Label, Plain, Operator, Table, Mark, Closes, Begins}
use Rattle.hc_grammar.specs.Grammar.{Grammar, Nothing, One, Word, Level, Both, Depending, Made, Choice, Chain, Phased, Within, Begin, Place, Whole}
use Rattle.hc_grammar.specs.Has.{Phrase, Parts, chosen, has}
use Rattle.hc_grammar.specs.Phrases.{maybe}
use Rattle.hc_grammar.specs.Expressions.{expression}
use Rattle.hc_grammar.specs.Queries.{alias}
use Rattle.hc_grammar.specs.Places.{Nested}
use Rattle.hc_grammar.proofs.Again.Words as words
use Rattle.hc_grammar.proofs.Again.Words.{spelled}
use Rattle.hc_grammar.proofs.Again.Written as written
use Rattle.hc_grammar.proofs.Again.Written.{Written, Given, given_right, counts, counts-append, like, meaning, empty, made, this, other, keyword, begin}
use Rattle.hc_grammar.proofs.Again.Operators.{Fine, to_whole}

abbrev is_plain_label : Label → Bool
is_plain_label Plain = true
is_plain_label Operator = false
is_plain_label Table = false

-- nothing is counted in a grammar
abbrev pub is_uncounted : {A : Type 0} → Grammar A → Bool
is_uncounted (Nothing x) = true
is_uncounted (One label terminal) = is_plain_label label
is_uncounted (Word label kind g) = is_plain_label label && is_uncounted g
is_uncounted (Level kind g) = is_uncounted g
is_uncounted (Both f g h) = is_uncounted g && is_uncounted h
is_uncounted (Depending f g test h k) = is_uncounted g && (is_uncounted h && is_uncounted k)
is_uncounted (Made f g) = is_uncounted g
is_uncounted (Choice g h) = is_uncounted g && is_uncounted h
is_uncounted (Chain g h join) = is_uncounted g && is_uncounted h
is_uncounted (Phased g test h k join) = is_uncounted g && (is_uncounted h && is_uncounted k)
is_uncounted (Within place) = false
is_uncounted (Begin g) = false

none_both : (m front rest : List Mark) → m ≡ front ++ rest → counts front ≡ [] → counts rest ≡ [] → counts m ≡ []
none_both m front rest is one other = ap counts is ∙ counts-append front rest ∙ ap (λ l. l ++ counts rest) one ∙ other

none_parts : {A B : Type 0} (Part : B → A → Phrase) (join : B → A → B) (each : (value : B) (x : A) (m : List Mark) → Part value x m → counts m ≡ []) (value : B) (parts : List A) (m : List Mark)
    → Parts Part join value parts m → counts m ≡ []
none_parts Part join each value [] m h = ap counts h
none_parts Part join each value (x ∷ xs) m h = none_both m h.0 h.1 h.2 (each value x h.0 h.3) (none_parts Part join each (join value x) xs h.1 h.4)

none_chosen : {A : Type 0} (P Q : A → Phrase) (x : A) (m : List Mark) (test : Bool) → (P x m → counts m ≡ []) → (Q x m → counts m ≡ []) → chosen test P Q x m → counts m ≡ []
none_chosen P Q x m true one other h = one h
none_chosen P Q x m false one other h = other h

module _ (W : (A : Type 0) → Place A → A → Phrase) where
  pub uncounted : {A : Type 0} (g : Grammar A) → is_uncounted g ≡ true → (x : A) (m : List Mark) → has W g x m → counts m ≡ []
  unfolding has
  uncounted (Nothing y) u x m h = ap counts h.0
  uncounted (One Plain terminal) u x m h = ap counts h.1
  uncounted (One Operator terminal) u x m h = absurd (cc)
  uncounted (One Table terminal) u x m h = absurd (cc)
  uncounted (Word Plain kind g) u x m h = ap counts h.2 ∙ uncounted g u x h.1 h.4
  uncounted (Word Operator kind g) u x m h = absurd (cc)
  uncounted (Word Table kind g) u x m h = absurd (cc)
  uncounted (Level kind g) u x m h = ap counts h.2 ∙ counts-append h.1 (Closes ∷ []) ∙ append-nil (counts h.1) ∙ uncounted g u x h.1 h.4
  uncounted (Both f g h) u x m s =
      let p = and_parts (is_uncounted g) (is_uncounted h) u in none_both m s.3.0 s.3.1 s.3.2 (uncounted g p.0 s.0 s.3.0 s.3.3) (uncounted h p.1 s.1 s.3.1 s.3.4)
  uncounted (Depending f g test h k) u x m s =
      let p = and_parts (is_uncounted g) (is_uncounted h && is_uncounted k) u in
      let q = and_parts (is_uncounted h) (is_uncounted k) p.1 in
      none_both m s.3.0 s.3.1 s.3.2 (uncounted g p.0 s.0 s.3.0 s.3.3) (none_chosen (has W h) (has W k) s.1 s.3.1 (test s.0) (uncounted h q.0 s.1 s.3.1) (uncounted k q.1 s.1 s.3.1) s.3.4)
  uncounted (Made f g) u x m h = uncounted g u h.0 m h.2
  uncounted (Choice g h) u x m s =
      let p = and_parts (is_uncounted g) (is_uncounted h) u in ⊎_elim (uncounted g p.0 x m) (uncounted h p.1 x m) s
  uncounted (Chain g h join) u x m s =
      let p = and_parts (is_uncounted g) (is_uncounted h) u in
      none_both m s.3.0 s.3.1 s.3.2 (uncounted g p.0 s.0 s.3.0 s.3.3) (none_parts (λ v. has W h) join (λ v y k t. uncounted h p.1 y k t) s.0 s.1 s.3.1 s.3.4)
  uncounted (Phased g test h i join) u x m s =
      let p = and_parts (is_uncounted g) (is_uncounted h && is_uncounted i) u in
      let q = and_parts (is_uncounted h) (is_uncounted i) p.1 in
      none_both m s.3.0 s.3.1 s.3.2 (uncounted g p.0 s.0 s.3.0 s.3.3)
      (none_parts (λ v. chosen (test v) (has W h) (has W i)) join (λ v y k t. none_chosen (has W h) (has W i) y k (test v) (uncounted h q.0 y k) (uncounted i q.1 y k) t) s.0 s.1 s.3.1 s.3.4)
  uncounted (Within place) u x m h = absurd (cc)
  uncounted (Begin g) u x m h = absurd (cc)

-- In a statement and in what a query asks for, an expression is what an operand is.
module _ {E : ℕ → (A : Type 0) → Place A → A → Phrase} (into : (n : ℕ) (x : Expr) (l : List Mark) → Nested n Expr Whole x l → E n Expr Whole x l) where
  pub expression_written : (x : Expr) (m : List Mark) → Fine x m → Written E (expression_words x) expression x (Begins ∷ m)
  unfolding has Nested
  expression_written x m a = begin (record { marks = a.marks; least = suc a.least; are = a.are; apart = a.apart; same = a.same; is = by })
    where
      by : (n : ℕ) → suc a.least ≤ n → has (E n) (Within Whole) x a.marks
      by zero e = absurd (omega (arith, e))
      by (suc n) e = into (suc n) x a.marks (to_whole x n a.marks (a.is n (omega (arith, e))))

  -- an alias
  pub alias_written : (x : Option (List ℕ)) → Written E (alias_words x) (maybe alias) x []
  unfolding spelled table
  alias_written None = other _ (empty None)
  alias_written (Some a) = this _ (made Some (like [] refl (this _ (keyword Plain word.As words.paren (written.name Plain a words.paren)))))
