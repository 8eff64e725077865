-- Words that a phrase has with its marks, which count as those of another derivation, and how such words are put together.
use Rattle.std.proofs.Common.{◌≡◌, inl, inr, refl, sym, subst, ap, ◌∙◌, ℕ, zero, suc, ◌≤◌, ◌+◌, Bool, true, false, List, [], ◌∷◌, ◌++◌, append-nil, arith}
use Rattle.std.specs.List.{AllByRecursion}
use Rattle.hc_lex.specs.declared.token.TokenKind.{TokenKind}
use Rattle.hc_lex.specs.declared.token.TokenKind.TheVariants as kind
use Rattle.hc_lex.specs.declared.keyword.Keyword.{Keyword}
use Rattle.hc_ast.specs.Words.{Words, name_word}
use Rattle.hc_grammar.specs.Lexemes.{Lexeme}
use Rattle.hc_grammar.specs.Marks.{Label, Plain, Operator, Table, Mark, At, Opens, Closes, Begins, lexemes}
use Rattle.hc_grammar.specs.Terminals.{Terminal, Name, Means}
use Rattle.hc_grammar.specs.Grammar.{Grammar, Nothing, One, Word, Level, Both, Depending, Made, Choice, Begin, Place}
use Rattle.hc_grammar.specs.Has.{Phrase, chosen, has}
use Rattle.hc_grammar.specs.Phrases as phrase
use Rattle.hc_grammar.specs.Phrases.{pushed}
use Rattle.hc_grammar.proofs.Meanings.Marks.{lexemes-append}
use Rattle.hc_grammar.proofs.Again.Apart.{IsApart, AreApart, words_of}
use Rattle.hc_grammar.proofs.Again.Given.{IsSomeToken, AreTokens}
use Rattle.hc_grammar.proofs.Again.Words as words
use Rattle.hc_grammar.proofs.Again.Words.{of, spelled}

-- what is counted in some marks, but for levels
pub data Count : Type 0 where
  AnOperator : Count
  ATable : Count
  AnExpression : Count

abbrev pub counts : List Mark → List Count
counts [] = []
counts (At Plain t ∷ marks) = counts marks
counts (At Operator t ∷ marks) = AnOperator ∷ counts marks
counts (At Table t ∷ marks) = ATable ∷ counts marks
counts (Opens t ∷ marks) = counts marks
counts (Closes ∷ marks) = counts marks
counts (Begins ∷ marks) = AnExpression ∷ counts marks

pub counts-append : (xs ys : List Mark) → counts (xs ++ ys) ≡ counts xs ++ counts ys
counts-append [] ys = refl
counts-append (At Plain t ∷ xs) ys = counts-append xs ys
counts-append (At Operator t ∷ xs) ys = ap (λ l. AnOperator ∷ l) (counts-append xs ys)
counts-append (At Table t ∷ xs) ys = ap (λ l. ATable ∷ l) (counts-append xs ys)
counts-append (Opens t ∷ xs) ys = counts-append xs ys
counts-append (Closes ∷ xs) ys = counts-append xs ys
counts-append (Begins ∷ xs) ys = ap (λ l. AnExpression ∷ l) (counts-append xs ys)

-- marks whose lexemes are tokens
abbrev pub Given : List Mark → Type 0
Given marks = AreTokens (lexemes marks)

all_left : {A : Type 0} (P : A → Type 0) (xs ys : List A) → AllByRecursion P (xs ++ ys) → AllByRecursion P xs
all_left P [] ys h = tt
all_left P (x ∷ xs) ys h = (h.0, all_left P xs ys h.1)

all_right : {A : Type 0} (P : A → Type 0) (xs ys : List A) → AllByRecursion P (xs ++ ys) → AllByRecursion P ys
all_right P [] ys h = h
all_right P (x ∷ xs) ys h = all_right P xs ys h.1

pub given_left : (marks xs ys : List Mark) → marks ≡ xs ++ ys → Given marks → Given xs
given_left marks xs ys is g = all_left IsSomeToken (lexemes xs) (lexemes ys) (subst AreTokens (ap lexemes is ∙ lexemes-append xs ys) g)

pub given_right : (marks xs ys : List Mark) → marks ≡ xs ++ ys → Given marks → Given ys
given_right marks xs ys is g = all_right IsSomeToken (lexemes xs) (lexemes ys) (subst AreTokens (ap lexemes is ∙ lexemes-append xs ys) g)

-- The words are lexemes that the grammar has with this meaning, from some number of levels on; what is counted in them is
-- what is counted in the marks `like`.
pub record Written {A : Type 0} (E : ℕ → (A : Type 0) → Place A → A → Phrase) (words : Words) (g : Grammar A) (x : A) (like : List Mark) : Type 0 where
  pub marks : List Mark
  pub least : ℕ
  pub are : words ≡ words_of (lexemes marks)
  pub apart : AreApart (lexemes marks)
  pub same : counts marks ≡ counts like
  pub is : (n : ℕ) → least ≤ n → has (E n) g x marks

words-append : (xs ys : List Lexeme) → words_of (xs ++ ys) ≡ words_of xs ++ words_of ys
words-append [] ys = refl
words-append (x ∷ xs) ys = ap (λ l. x.text ∷ l) (words-append xs ys)

apart-append : (xs ys : List Lexeme) → AreApart xs → AreApart ys → AreApart (xs ++ ys)
apart-append [] ys a b = b
apart-append (x ∷ xs) ys a b = (a.0, apart-append xs ys a.1 b)

-- one after the other
pub are_joined : (v w : Words) (m k : List Mark) → v ≡ words_of (lexemes m) → w ≡ words_of (lexemes k) → v ++ w ≡ words_of (lexemes (m ++ k))
are_joined v w m k a b =
    ap (λ l. l ++ w) a ∙ ap (λ l. words_of (lexemes m) ++ l) b ∙ sym (words-append (lexemes m) (lexemes k)) ∙ ap words_of (sym (lexemes-append m k))

pub apart_joined : (m k : List Mark) → AreApart (lexemes m) → AreApart (lexemes k) → AreApart (lexemes (m ++ k))
apart_joined m k a b = subst AreApart (sym (lexemes-append m k)) (apart-append (lexemes m) (lexemes k) a b)

pub same_joined : (a b m k : List Mark) → counts a ≡ counts m → counts b ≡ counts k → counts (a ++ b) ≡ counts (m ++ k)
same_joined a b m k one other = counts-append a b ∙ ap (λ l. l ++ counts b) one ∙ ap (λ l. counts m ++ l) other ∙ sym (counts-append m k)

module _ {E : ℕ → (A : Type 0) → Place A → A → Phrase} where
  -- the same words, counted like other marks, seen as another phrase
  pub same_words : {A : Type 0} {g : Grammar A} {x : A} {v w : Words} {m : List Mark} → w ≡ v → Written E v g x m → Written E w g x m
  same_words same a = record { marks = a.marks; least = a.least; are = same ∙ a.are; apart = a.apart; same = a.same; is = a.is }

  pub like : {A : Type 0} {g : Grammar A} {x : A} {w : Words} {m : List Mark} (k : List Mark) → counts m ≡ counts k → Written E w g x m → Written E w g x k
  like k same a = record { marks = a.marks; least = a.least; are = a.are; apart = a.apart; same = a.same ∙ same; is = a.is }

  pub meaning : {A : Type 0} {g : Grammar A} {x y : A} {w : Words} {m : List Mark} → y ≡ x → Written E w g x m → Written E w g y m
  meaning {g = g} {w = w} {m = m} same a = subst (λ z. Written E w g z m) (sym same) a

  pub seen_as : {A B : Type 0} {g : Grammar A} {x : A} {w : Words} {m : List Mark} (h : Grammar B) (y : B) → ((n : ℕ) (l : List Mark) → has (E n) g x l → has (E n) h y l) → Written E w g x m
      → Written E w h y m
  seen_as h y f a = record { marks = a.marks; least = a.least; are = a.are; apart = a.apart; same = a.same; is = λ n e. f n a.marks (a.is n e) }

  -- one level deeper
  pub deeper : {A B : Type 0} {g : Grammar A} {x : A} {w : Words} {m : List Mark} (h : Grammar B) (y : B) → ((n : ℕ) (l : List Mark) → has (E n) g x l → has (E (suc n)) h y l) → Written E w g x m
      → Written E w h y m
  deeper h y f a = record { marks = a.marks; least = suc a.least; are = a.are; apart = a.apart; same = a.same; is = by }
    where
      by : (n : ℕ) → suc a.least ≤ n → has (E n) h y a.marks
      by zero e = absurd (omega (arith, e))
      by (suc n) e = f n a.marks (a.is n (omega (arith, e)))

  pub empty : {A : Type 0} (x : A) → Written E [] (Nothing x) x []
  unfolding has
  empty x = record { marks = []; least = 0; are = refl; apart = tt; same = refl; is = λ n h. (refl, refl) }

  pub one : {A : Type 0} (label : Label) (terminal : Terminal A) (x : A) (k : TokenKind) (text : List ℕ) (u : Lexeme) → IsApart (of k text) → Means terminal x (of k text)
      → Written E (text ∷ []) (One label terminal) x (At label u ∷ [])
  unfolding has
  one label terminal x k text u apart means =
      record { marks = At label (of k text) ∷ []; least = 0; are = refl; apart = (apart, tt); same = same_label label; is = λ n h. (of k text, refl, means) }
    where
      same_label : (label : Label) → counts (At label (of k text) ∷ []) ≡ counts (At label u ∷ [])
      same_label Plain = refl
      same_label Operator = refl
      same_label Table = refl

  pub word : {A : Type 0} {w : Words} {g : Grammar A} {x : A} {m : List Mark} (label : Label) (k : TokenKind) (text : List ℕ) (u : Lexeme) → IsApart (of k text) → Written E w g x m
      → Written E (text ∷ w) (Word label k g) x (At label u ∷ m)
  unfolding has
  word {m = m} label k text u apart a =
      record {
        marks = At label (of k text) ∷ a.marks;
        least = a.least;
        are = ap (λ l. text ∷ l) a.are;
        apart = (apart, a.apart);
        same = same_label label;
        is = λ n h. (of k text, a.marks, refl, refl, a.is n h);
      }
    where
      same_label : (label : Label) → counts (At label (of k text) ∷ a.marks) ≡ counts (At label u ∷ m)
      same_label Plain = a.same
      same_label Operator = ap (λ l. AnOperator ∷ l) a.same
      same_label Table = ap (λ l. ATable ∷ l) a.same

  pub level : {A : Type 0} {w : Words} {g : Grammar A} {x : A} {m : List Mark} (k : TokenKind) (text : List ℕ) → IsApart (of k text) → Written E w g x m → Written E (text ∷ w) (Level k g) x m
  unfolding has
  level {m = m} k text apart a =
      record {
        marks = Opens (of k text) ∷ a.marks ++ Closes ∷ [];
        least = a.least;
        are = ap (λ l. text ∷ l) (a.are ∙ ap words_of (sym closed));
        apart = (apart, subst AreApart (sym closed) a.apart);
        same = counts-append a.marks (Closes ∷ []) ∙ append-nil (counts a.marks) ∙ a.same;
        is = λ n h. (of k text, a.marks, refl, refl, a.is n h);
      }
    where
      closed : lexemes (a.marks ++ Closes ∷ []) ≡ lexemes a.marks
      closed = lexemes-append a.marks (Closes ∷ []) ∙ append-nil (lexemes a.marks)

  pub both : {A B C : Type 0} {v w : Words} {g : Grammar A} {h : Grammar B} {x : A} {y : B} {m k : List Mark} (f : A → B → C) → Written E v g x m → Written E w h y k
      → Written E (v ++ w) (Both f g h) (f x y) (m ++ k)
  unfolding has
  both {v = v} {w = w} {x = x} {y = y} {m = m} {k = k} f a b =
      record {
        marks = a.marks ++ b.marks;
        least = a.least + b.least;
        are = are_joined v w a.marks b.marks a.are b.are;
        apart = apart_joined a.marks b.marks a.apart b.apart;
        same = same_joined a.marks b.marks m k a.same b.same;
        is = λ n h. (x, y, refl, (a.marks, b.marks, refl, a.is n (omega (arith, h)), b.is n (omega (arith, h))));
      }

  -- the second by a test of the first
  pub depending_true : {A B C : Type 0} {v w : Words} {g : Grammar A} {h : Grammar B} {x : A} {y : B} {m k : List Mark} (f : A → B → C) (test : A → Bool) (i : Grammar B) → test x ≡ true
      → Written E v g x m → Written E w h y k → Written E (v ++ w) (Depending f g test h i) (f x y) (m ++ k)
  unfolding has
  depending_true {v = v} {w = w} {h = h} {x = x} {y = y} {m = m} {k = k} f test i e a b =
      record {
        marks = a.marks ++ b.marks;
        least = a.least + b.least;
        are = are_joined v w a.marks b.marks a.are b.are;
        apart = apart_joined a.marks b.marks a.apart b.apart;
        same = same_joined a.marks b.marks m k a.same b.same;
        is = λ n l. (x, y, refl, (a.marks, b.marks, refl, a.is n (omega (arith, l)), subst (λ t. chosen t (has (E n) h) (has (E n) i) y b.marks) (sym e) (b.is n (omega (arith, l)))));
      }

  pub depending_false : {A B C : Type 0} {v w : Words} {g : Grammar A} {h : Grammar B} {x : A} {y : B} {m k : List Mark} (f : A → B → C) (test : A → Bool) (i : Grammar B) → test x ≡ false
      → Written E v g x m → Written E w h y k → Written E (v ++ w) (Depending f g test i h) (f x y) (m ++ k)
  unfolding has
  depending_false {v = v} {w = w} {h = h} {x = x} {y = y} {m = m} {k = k} f test i e a b =
      record {
        marks = a.marks ++ b.marks;
        least = a.least + b.least;
        are = are_joined v w a.marks b.marks a.are b.are;
        apart = apart_joined a.marks b.marks a.apart b.apart;
        same = same_joined a.marks b.marks m k a.same b.same;
        is = λ n l. (x, y, refl, (a.marks, b.marks, refl, a.is n (omega (arith, l)), subst (λ t. chosen t (has (E n) i) (has (E n) h) y b.marks) (sym e) (b.is n (omega (arith, l)))));
      }

  pub made : {A B : Type 0} {w : Words} {g : Grammar A} {x : A} {m : List Mark} (f : A → B) → Written E w g x m → Written E w (Made f g) (f x) m
  unfolding has
  made {g = g} {x = x} f a = seen_as (Made f g) (f x) (λ n l s. (x, refl, s)) a

  pub this : {A : Type 0} {w : Words} {g : Grammar A} {x : A} {m : List Mark} (h : Grammar A) → Written E w g x m → Written E w (Choice g h) x m
  unfolding has
  this {g = g} {x = x} h a = seen_as (Choice g h) x (λ n l s. inl s) a

  pub other : {A : Type 0} {w : Words} {h : Grammar A} {x : A} {m : List Mark} (g : Grammar A) → Written E w h x m → Written E w (Choice g h) x m
  unfolding has
  other {h = h} {x = x} g a = seen_as (Choice g h) x (λ n l s. inr s) a

  pub begin : {A : Type 0} {w : Words} {g : Grammar A} {x : A} {m : List Mark} → Written E w g x m → Written E w (Begin g) x (Begins ∷ m)
  unfolding has
  begin a =
      record { marks = Begins ∷ a.marks; least = a.least; are = a.are; apart = a.apart; same = ap (λ l. AnExpression ∷ l) a.same; is = λ n h. (a.marks, refl, a.is n h) }

  -- a name, and a keyword
  pub name : (label : Label) (x : List ℕ) (u : Lexeme) → Written E (name_word x ∷ []) (One label Name) x (At label u ∷ [])
  name label x u = one label Name x kind.QuotedName (name_word x) u (words.name x) (inr (refl, refl))

  pub keyword : {A : Type 0} {w : Words} {g : Grammar A} {x : A} {m : List Mark} (label : Label) (k : Keyword) (u : Lexeme) → Written E w g x m
      → Written E (spelled k ∷ w) (Word label (kind.Keyword k) g) x (At label u ∷ m)
  keyword label k u a = word label (kind.Keyword k) (spelled k) u (words.keyword k) a

  -- a phrase and a lexeme after it
  pub before : {A : Type 0} {w : Words} {g : Grammar A} {x : A} {m : List Mark} (k : TokenKind) (text : List ℕ) (u : Lexeme) → IsApart (of k text) → Written E w g x m
      → Written E (w ++ text ∷ []) (phrase.before g k) x (m ++ At Plain u ∷ [])
  before k text u apart a = both (λ x y. x) a (word Plain k text u apart (empty true))
