-- Chains and lists are written part by part.
use Rattle.std.proofs.Common.{◌≡◌, refl, sym, subst, ap, ◌∙◌, ℕ, ◌+◌, List, [], ◌∷◌, ◌++◌, map, codes, append_assoc, append-nil, arith}
use Rattle.std.specs.List.{flat_map}
use Rattle.hc_lex.specs.declared.token.TokenKind.TheVariants as kind
use Rattle.hc_ast.specs.Words.{Words, listed}
use Rattle.hc_grammar.specs.Marks.{Plain, Mark, At}
use Rattle.hc_grammar.specs.Grammar.{Grammar, Word, Made, Chain, Place}
use Rattle.hc_grammar.specs.Has.{Phrase, Parts, folded, has}
use Rattle.hc_grammar.specs.Phrases as phrase
use Rattle.hc_grammar.specs.Phrases.{pushed}
use Rattle.hc_grammar.proofs.Again.Words.{comma}
use Rattle.hc_grammar.proofs.Again.Written.{Written, Given, given_left, given_right, counts, are_joined, apart_joined, same_joined, same_words, like, meaning, seen_as, made, word}

-- one part more at the end
pub parts_more : {A B : Type 0} (Part : B → A → Phrase) (join : B → A → B) (value : B) (parts : List A) (p : A) (m k : List Mark) → Parts Part join value parts m → Part (folded join value parts) p k
    → Parts Part join value (parts ++ p ∷ []) (m ++ k)
parts_more Part join value [] p m k h g = (k, [], ap (λ (l : List Mark). l ++ k) h ∙ sym (append-nil k), g, refl)
parts_more Part join value (x ∷ xs) p m k h g =
    (h.0, h.1 ++ k, ap (λ (l : List Mark). l ++ k) h.2 ∙ append_assoc h.0 h.1 k, h.3, parts_more Part join (join value x) xs p h.1 k h.4 g)

pub folded_more : {A B : Type 0} (join : B → A → B) (value : B) (parts : List A) (p : A) → join (folded join value parts) p ≡ folded join value (parts ++ p ∷ [])
folded_more join value [] p = refl
folded_more join value (x ∷ xs) p = folded_more join (join value x) xs p

pub folded_pushed : {A : Type 0} (xs ys : List A) → folded pushed xs ys ≡ xs ++ ys
folded_pushed xs [] = sym (append-nil xs)
folded_pushed xs (y ∷ ys) = folded_pushed (pushed xs y) ys ∙ append_assoc xs (y ∷ []) ys

-- the words of a list
list_words : {A : Type 0} (words : A → Words) (xs : List A) → flat_map (λ (o : A). codes "," ∷ words o) xs ≡ flat_map (λ (o : Words). codes "," ∷ o) (map words xs)
list_words words [] = refl
list_words words (x ∷ xs) = ap (λ l. (codes "," ∷ words x) ++ l) (list_words words xs)

module _ {E : ℕ → (A : Type 0) → Place A → A → Phrase} where
  -- a chain of no part, and of one more
  pub chain_start : {A B : Type 0} {g : Grammar B} {x : B} {w : Words} {m : List Mark} (h : Grammar A) (join : B → A → B) → Written E w g x m → Written E w (Chain g h join) x m
  unfolding has
  chain_start {g = g} {x = x} h join a = seen_as (Chain g h join) x (λ n l s. (x, [], refl, (l, [], sym (append-nil l), s, refl))) a

  pub chain_more : {A B : Type 0} {g : Grammar B} {h : Grammar A} {join : B → A → B} {y : B} {p : A} {v w : Words} {m k : List Mark} → Written E v (Chain g h join) y m → Written E w h p k
      → Written E (v ++ w) (Chain g h join) (join y p) (m ++ k)
  unfolding has
  chain_more {g = g} {h = h} {join = join} {y = y} {p = p} {v = v} {w = w} {m = m} {k = k} a b =
      record {
        marks = a.marks ++ b.marks;
        least = a.least + b.least;
        are = are_joined v w a.marks b.marks a.are b.are;
        apart = apart_joined a.marks b.marks a.apart b.apart;
        same = same_joined a.marks b.marks m k a.same b.same;
        is = λ n e.
            let one = a.is n (omega (arith, e)) in
            let other = b.is n (omega (arith, e)) in (
              one.0,
              one.1 ++ p ∷ [],
              ap (λ c. join c p) one.2 ∙ folded_more join one.0 one.1 p,
              (
                one.3.0,
                one.3.1 ++ b.marks,
                ap (λ (l : List Mark). l ++ b.marks) one.3.2 ∙ append_assoc one.3.0 one.3.1 b.marks,
                one.3.3,
                parts_more (λ value. has (E n) h) join one.0 one.1 p one.3.1 b.marks one.3.4 other,
              ),
            );
      }

  -- each part of a chain is written again
  pub chain_again : {A B : Type 0} (W : (A : Type 0) → Place A → A → Phrase) (g : Grammar B) (h : Grammar A) (join : B → A → B) (words : A → Words)
      (again : (p : A) (k : List Mark) → has W h p k → Given k → Written E (words p) h p k)
      (value : B) (mv : List Mark) (v : Words) → Written E v (Chain g h join) value mv → (parts : List A) (m : List Mark) → Parts (λ x. has W h) join value parts m → Given m
      → Written E (v ++ flat_map words parts) (Chain g h join) (folded join value parts) (mv ++ m)
  chain_again W g h join words again value mv v a [] m s given =
      same_words (append-nil v) (like (mv ++ m) (ap counts (sym (append-nil mv) ∙ ap (λ (l : List Mark). mv ++ l) (sym s))) a)
  chain_again W g h join words again value mv v a (p ∷ ps) m s given =
      let part = again p s.0 s.3 (given_left m s.0 s.1 s.2 given) in
      let rest = chain_again W g h join words again (join value p) (mv ++ s.0) (v ++ words p) (chain_more a part) ps s.1 s.4 (given_right m s.0 s.1 s.2 given) in
      same_words (sym (append_assoc v (words p) (flat_map words ps))) (like (mv ++ m) (ap counts (append_assoc mv s.0 s.1 ∙ ap (λ (l : List Mark). mv ++ l) (sym s.2))) rest)

  -- a list is written again
  pub listed_again : {A : Type 0} (W : (A : Type 0) → Place A → A → Phrase) (g : Grammar A) (words : A → Words) (again : (x : A) (m : List Mark) → has W g x m → Given m → Written E (words x) g x m)
      (xs : List A) (m : List Mark) → has W (phrase.listed g) xs m → Given m → Written E (listed (map words xs)) (phrase.listed g) xs m
  unfolding has
  listed_again W g words again xs m h given =
      let first = h.3.3 in
      let start = chain_start (Word Plain kind.Comma g) pushed (made (λ x. x ∷ []) (again first.0 h.3.0 first.2 (given_left m h.3.0 h.3.1 h.3.2 given))) in
      let is : xs ≡ first.0 ∷ h.1 = h.2 ∙ ap (λ v. folded pushed v h.1) first.1 ∙ folded_pushed (first.0 ∷ []) h.1 in
      let all = chain_again W (Made (λ x. x ∷ []) g) (Word Plain kind.Comma g) pushed (λ o. codes "," ∷ words o)
      (λ p k s given. like k (ap counts (sym s.2)) (word Plain kind.Comma (codes ",") s.0 comma (again p s.1 s.4 (given_right k (At Plain s.0 ∷ []) s.1 s.2 given))))
      (first.0 ∷ []) h.3.0 (words first.0) start h.1 h.3.1 (subst (λ v. Parts (λ x. has W (Word Plain kind.Comma g)) pushed v h.1 h.3.1) first.1 h.3.4) (given_right m h.3.0 h.3.1 h.3.2 given) in
      meaning (h.2 ∙ ap (λ v. folded pushed v h.1) first.1)
      (same_words (ap (λ l. listed (map words l)) is ∙ ap (λ l. words first.0 ++ l) (sym (list_words words h.1))) (like m (ap counts (sym h.3.2)) all))
