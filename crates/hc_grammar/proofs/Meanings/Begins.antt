-- What a grammar has begins with one of its first kinds, or is empty.
use Rattle.std.proofs.Common.{◌≡◌, ◌⊎◌, inl, inr, ⊎_elim, ap, ◌∙◌, Bool, true, false, ◌&&◌, ◌||◌, not, List, [], ◌∷◌, ◌++◌, refl, sym, subst}
use Rattle.std.proofs.lemmas.Bool.{and_parts, not-true}
use Rattle.hc_lex.specs.declared.token.TokenKind.{TokenKind}
use Rattle.hc_grammar.specs.Lexemes.{Lexeme}
use Rattle.hc_grammar.specs.Kinds.{is, among, head_is, Starts}
use Rattle.hc_grammar.specs.Marks.{Mark, lexemes}
use Rattle.hc_grammar.specs.Terminals.{kinds_of}
use Rattle.hc_grammar.specs.Grammar.{Grammar, Nothing, One, Word, Level, Both, Depending, Made, Choice, Chain, Phased, Within, Begin, Place}
use Rattle.hc_grammar.specs.First.{place_first, nullable, first, where_true, is_clear_by_one}
use Rattle.hc_grammar.specs.Has.{Phrase, Parts, chosen, has}
use Rattle.hc_grammar.proofs.Terminals.Numbers.{is_of_kind}
use Rattle.hc_grammar.proofs.Terminals.Lists.{differ, true_left, true_right, starts_left, starts_right, starts_more}
use Rattle.hc_grammar.proofs.Terminals.Values.{means_kind}
use Rattle.hc_grammar.proofs.Meanings.Marks.{lexemes-append}

-- one of the kinds is first, or the marks are empty and may be
abbrev pub IsBegun : List TokenKind → Bool → List Mark → Type 0
IsBegun kinds empty marks = Starts kinds (lexemes marks) ⊎ ((marks ≡ []) × (empty ≡ true))

-- marks that may not be empty begin with one of the kinds
pub begun : (kinds : List TokenKind) (empty : Bool) (marks : List Mark) → empty ≡ false → IsBegun kinds empty marks → Starts kinds (lexemes marks)
begun kinds empty marks never (inl h) = h
begun kinds empty marks never (inr h) = differ empty h.1 never

pub begun_left : (kinds others : List TokenKind) (a b : Bool) (marks : List Mark) → IsBegun kinds a marks → IsBegun (kinds ++ others) (a || b) marks
begun_left kinds others a b marks (inl h) = inl (starts_left kinds others (lexemes marks) h)
begun_left kinds others a b marks (inr h) = inr (h.0, true_left a b h.1)

pub begun_right : (kinds others : List TokenKind) (a b : Bool) (marks : List Mark) → IsBegun others b marks → IsBegun (kinds ++ others) (a || b) marks
begun_right kinds others a b marks (inl h) = inl (starts_right kinds others (lexemes marks) h)
begun_right kinds others a b marks (inr h) = inr (h.0, true_right a b h.1)

-- one after the other
begun_both : (kinds others : List TokenKind) (a b : Bool) (marks front rest : List Mark) → marks ≡ front ++ rest → IsBegun kinds a front → IsBegun others b rest
    → IsBegun (kinds ++ where_true a others) (a && b) marks
begun_both kinds others a b marks front rest is h g = subst (IsBegun (kinds ++ where_true a others) (a && b)) (sym is) (by a h g)
  where
    second : IsBegun others b rest → IsBegun (kinds ++ others) b rest
    second (inl g) = inl (starts_right kinds others (lexemes rest) g)
    second (inr g) = inr g

    by : (a : Bool) → IsBegun kinds a front → IsBegun others b rest → IsBegun (kinds ++ where_true a others) (a && b) (front ++ rest)
    by a (inl h) g =
        inl (subst (Starts (kinds ++ where_true a others)) (sym (lexemes-append front rest))
        (starts_more (kinds ++ where_true a others) (lexemes front) (lexemes rest) (starts_left kinds (where_true a others) (lexemes front) h)))
    by true (inr h) g = subst (IsBegun (kinds ++ others) b) (ap (λ (f : List Mark). f ++ rest) (sym h.0)) (second g)
    by false (inr h) g = absurd (let bad = h.1 in cc)

begun_chosen : {A : Type 0} (kinds others : List TokenKind) (a b : Bool) (P Q : A → Phrase) (x : A) (marks : List Mark) (test : Bool) → (P x marks → IsBegun kinds a marks)
    → (Q x marks → IsBegun others b marks) → chosen test P Q x marks → IsBegun (kinds ++ others) (a || b) marks
begun_chosen kinds others a b P Q x marks true one other h = begun_left kinds others a b marks (one h)
begun_chosen kinds others a b P Q x marks false one other h = begun_right kinds others a b marks (other h)

-- parts begin with what a part begins with
pub parts_begun : {A B : Type 0} (kinds : List TokenKind) (Part : B → A → Phrase) (join : B → A → B) (each : (value : B) (x : A) (marks : List Mark) → Part value x marks → Starts kinds (lexemes marks))
    (value : B) (parts : List A) (marks : List Mark) → Parts Part join value parts marks → IsBegun kinds true marks
parts_begun kinds Part join each value [] marks h = inr (h, refl)
parts_begun kinds Part join each value (x ∷ xs) marks h =
    inl (subst (λ m. Starts kinds (lexemes m)) (sym h.2) (subst (Starts kinds) (sym (lexemes-append h.0 h.1)) (starts_more kinds (lexemes h.0) (lexemes h.1) (each value x h.0 h.3))))

and_true : (a : Bool) → (a && true) ≡ a
and_true true = refl
and_true false = refl

module _ (W : (A : Type 0) → Place A → A → Phrase) (placed : (A : Type 0) (place : Place A) (x : A) (marks : List Mark) → W A place x marks → Starts (place_first place) (lexemes marks)) where
  pub begins : {A : Type 0} (g : Grammar A) (x : A) (marks : List Mark) → is_clear_by_one g ≡ true → has W g x marks → IsBegun (first g) (nullable g) marks
  unfolding has
  begins (Nothing y) x marks clear h = inr (h.0, refl)
  begins (One label terminal) x marks clear h = inl (ap (λ m. head_is (among (kinds_of terminal)) (lexemes m)) h.1 ∙ true_one (kinds_of terminal) h.0 (means_kind terminal h.0 x h.2))
    where
      true_one : (kinds : List TokenKind) (t : Lexeme) → among kinds t ≡ true → head_is (among kinds) (t ∷ []) ≡ true
      true_one kinds t h = h
  begins (Word label kind g) x marks clear h =
      inl (ap (λ m. head_is (among (kind ∷ [])) (lexemes m)) h.2 ∙ true_left (is kind h.0) false (is_of_kind kind h.0 h.3))
  begins (Level kind g) x marks clear h =
      inl (ap (λ m. head_is (among (kind ∷ [])) (lexemes m)) h.2 ∙ true_left (is kind h.0) false (is_of_kind kind h.0 h.3))
  begins (Both f g h) x marks clear s =
      let one = and_parts (is_clear_by_one g) (is_clear_by_one h && _) clear in
      let two = and_parts (is_clear_by_one h) _ one.1 in
      begun_both (first g) (first h) (nullable g) (nullable h) marks s.3.0 s.3.1 s.3.2 (begins g s.0 s.3.0 one.0 s.3.3) (begins h s.1 s.3.1 two.0 s.3.4)
  begins (Depending f g test h k) x marks clear s =
      let one = and_parts (is_clear_by_one g) _ clear in
      let two = and_parts (is_clear_by_one h) _ one.1 in
      let three = and_parts (is_clear_by_one k) _ two.1 in
      begun_both (first g) (first h ++ first k) (nullable g) (nullable h || nullable k) marks s.3.0 s.3.1 s.3.2 (begins g s.0 s.3.0 one.0 s.3.3)
      (begun_chosen (first h) (first k) (nullable h) (nullable k) (has W h) (has W k) s.1 s.3.1 (test s.0) (begins h s.1 s.3.1 two.0) (begins k s.1 s.3.1 three.0) s.3.4)
  begins (Made f g) x marks clear h = begins g h.0 marks clear h.2
  begins (Choice g h) x marks clear s =
      let one = and_parts (is_clear_by_one g) _ clear in
      let two = and_parts (is_clear_by_one h) _ one.1 in
      ⊎_elim
      (λ i. begun_left (first g) (first h) (nullable g) (nullable h) marks (begins g x marks one.0 i))
      (λ i. begun_right (first g) (first h) (nullable g) (nullable h) marks (begins h x marks two.0 i)) s
  begins (Chain {A = P} {B = V} g h join) x marks clear s =
      let one = and_parts (is_clear_by_one g) _ clear in
      let two = and_parts (is_clear_by_one h) _ one.1 in
      let three = and_parts (not (nullable h)) _ two.1 in
      let each : (value : V) (y : P) (m : List Mark) → has W h y m → Starts (first h) (lexemes m) = λ value y m p. begun (first h) (nullable h) m (not-true (nullable h) three.0) (begins h y m two.0 p) in
      subst (λ b. IsBegun (first g ++ where_true (nullable g) (first h)) b marks) (and_true (nullable g))
      (begun_both (first g) (first h) (nullable g) true marks s.3.0 s.3.1 s.3.2 (begins g s.0 s.3.0 one.0 s.3.3) (parts_begun (first h) (λ value. has W h) join each s.0 s.1 s.3.1 s.3.4))
  begins (Phased {A = P} {B = V} g test h k join) x marks clear s =
      let one = and_parts (is_clear_by_one g) _ clear in
      let two = and_parts (is_clear_by_one h) _ one.1 in
      let three = and_parts (is_clear_by_one k) _ two.1 in
      let four = and_parts (not (nullable h)) _ three.1 in
      let five = and_parts (not (nullable k)) _ four.1 in
      let each : (value : V) (y : P) (m : List Mark) → chosen (test value) (has W h) (has W k) y m → Starts (first h ++ first k) (lexemes m) = λ value y m p.
      begun (first h ++ first k) (nullable h || nullable k) m (neither (nullable h) (nullable k) four.0 five.0)
      (begun_chosen (first h) (first k) (nullable h) (nullable k) (has W h) (has W k) y m (test value) (begins h y m two.0) (begins k y m three.0) p) in
      subst (λ b. IsBegun (first g ++ where_true (nullable g) (first h ++ first k)) b marks) (and_true (nullable g))
      (begun_both (first g) (first h ++ first k) (nullable g) true marks s.3.0 s.3.1 s.3.2 (begins g s.0 s.3.0 one.0 s.3.3)
      (parts_begun (first h ++ first k) (λ value. chosen (test value) (has W h) (has W k)) join each s.0 s.1 s.3.1 s.3.4))
    where
      neither : (a b : Bool) → not a ≡ true → not b ≡ true → (a || b) ≡ false
      neither true b h i = absurd (cc)
      neither false b h i = not-true b i
  begins (Within {A} place) x marks clear h = inl (placed A place x marks h)
  begins (Begin g) x marks clear h =
      let one = and_parts (is_clear_by_one g) _ clear in
      inl (ap (λ m. head_is (among (first g)) (lexemes m)) h.1 ∙ begun (first g) (nullable g) h.0 (not-true (nullable g) one.1) (begins g x h.0 one.0 h.2))
