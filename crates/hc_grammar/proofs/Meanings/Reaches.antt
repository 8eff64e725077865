-- What the grammar has is read, with its marks, where nothing follows that goes on with it.
use Rattle.std.proofs.Common.{◌≡◌, inl, inr, ⊎_elim, ap, ◌∙◌, ℕ, zero, suc, ◌≤◌, Bool, true, false, ◌||◌, not, List, [], ◌∷◌, ◌++◌, length, Ok, Err, refl, sym, subst, append-nil, arith, length-append}
use Rattle.std.specs.Prelude.{if◌then◌else◌}
use Rattle.std.proofs.lemmas.Bool.{and_parts, not-true}
use Rattle.hc_lex.specs.declared.token.TokenKind.{TokenKind}
use Rattle.hc_grammar.specs.Lexemes.{Lexeme}
use Rattle.hc_grammar.specs.Kinds.{is, Starts, Ends}
use Rattle.hc_grammar.specs.Marks.{Mark, At, Opens, Closes, Begins, lexemes}
use Rattle.hc_grammar.specs.Grammar.{Grammar, Nothing, One, Word, Level, Both, Depending, Made, Choice, Chain, Phased, Within, Begin, Place}
use Rattle.hc_grammar.specs.First.{first, ends, nullable, where_true, apart, has_kind, place_first, place_ends, is_plain, is_clear_by_one}
use Rattle.hc_grammar.specs.Has.{Phrase, Parts, Chained, folded, chosen, has}
use Rattle.hc_grammar.specs.Reads.{Reader, put, and_then, made, closed, got, one, word, gather, chain, read}
use Rattle.hc_grammar.proofs.Terminals.Numbers.{is_of_kind}
use Rattle.hc_grammar.proofs.Terminals.Lists.{both_true, starts_apart, starts_more, starts_left, starts_right, ends_both, ends_join}
use Rattle.hc_grammar.proofs.Terminals.Values.{value_is}
use Rattle.hc_grammar.proofs.Meanings.Marks.{lexemes-append, lexemes-before, starts_lexeme}
use Rattle.hc_grammar.proofs.Meanings.Begins.{IsBegun, begins, begun, begun_left, begun_right, parts_begun}

-- the value and the marks are read, and the rest is left
abbrev pub IsReached : {A : Type 0} → Reader A → A → List Mark → List Lexeme → Type 0
IsReached r x marks rest = r (lexemes marks ++ rest) ≡ Ok (x, marks, rest)

-- which a phrase has, where none of these kinds follows
abbrev pub Reaches : {A : Type 0} → (A → Phrase) → List TokenKind → Reader A → Type 0
Reaches {A} P ends r = (x : A) (marks : List Mark) (rest : List Lexeme) → P x marks → Ends ends rest → IsReached r x marks rest

-- what follows goes on with nothing
follows_begun : (ends kinds : List TokenKind) (empty : Bool) (marks : List Mark) (rest : List Lexeme) → apart ends kinds ≡ true → IsBegun kinds empty marks → (empty ≡ true → Ends ends rest)
    → Ends ends (lexemes marks ++ rest)
follows_begun ends kinds empty marks rest h (inl s) otherwise = starts_apart ends kinds (lexemes marks ++ rest) h (starts_more kinds (lexemes marks) rest s)
follows_begun ends kinds empty marks rest h (inr s) otherwise = subst (λ m. Ends ends (lexemes m ++ rest)) (sym s.0) (otherwise s.1)

-- where the second may be empty, what follows goes on with nothing of the first
where_ends : (kinds : List TokenKind) (b : Bool) (rest : List Lexeme) → Ends (where_true b kinds) rest → b ≡ true → Ends kinds rest
where_ends kinds true rest h is = h
where_ends kinds false rest h is = absurd (cc)

-- one after the other
reach_then : {A C : Type 0} (r : Reader A) (next : A → Reader C) (a : A) (c : C) (marks front back : List Mark) (rest : List Lexeme) → marks ≡ front ++ back
    → IsReached r a front (lexemes back ++ rest) → IsReached (next a) c back rest → IsReached (λ tokens. and_then (r tokens) next) c marks rest
reach_then r next a c marks front back rest is one other =
    subst (λ m. IsReached (λ tokens. and_then (r tokens) next) c m rest) (sym is)
    (ap (λ t. and_then (r t) next) (lexemes-before front back rest) ∙ ap (λ x. and_then x next) one ∙ ap (put front) other)

reach_made : {A B : Type 0} (f : A → B) (r : Reader A) (a : A) (b : B) (marks : List Mark) (rest : List Lexeme) → b ≡ f a → IsReached r a marks rest
    → IsReached (λ tokens. made f (r tokens)) b marks rest
reach_made f r a b marks rest is h = subst (λ c. IsReached (λ tokens. made f (r tokens)) c marks rest) (sym is) (ap (made f) h)

-- a lexeme of a kind, and what follows
reach_word : {A : Type 0} (mark : Lexeme → Mark) (one : (t : Lexeme) (m : List Mark) → lexemes (mark t ∷ m) ≡ t ∷ lexemes m) (kind : TokenKind) (next : Reader A) (t : Lexeme) (x : A)
    (marks m : List Mark) (rest : List Lexeme) → marks ≡ mark t ∷ m → t.kind ≡ kind → next (lexemes m ++ rest) ≡ Ok (x, m, rest) → IsReached (word mark kind next) x marks rest
reach_word mark one kind next t x marks m rest is of h =
    subst (λ l. IsReached (word mark kind next) x l rest) (sym is)
    (ap (λ (l : List Lexeme). word mark kind next (l ++ rest)) (one t m)
    ∙ ap (λ b. if b then put (mark t ∷ []) (next (lexemes m ++ rest)) else Err ([], t ∷ lexemes m ++ rest)) (is_of_kind kind t of) ∙ ap (put (mark t ∷ [])) h)

pub reach_chosen : {A : Type 0} (P Q : A → Phrase) (one other : List TokenKind) (r s : Reader A) → Reaches P one r → Reaches Q other s → (test : Bool)
    → Reaches (chosen test P Q) (one ++ other) (λ rest. if test then r rest else s rest)
reach_chosen P Q one other r s h g true x marks rest p e = h x marks rest p (ends_both one other rest e).0
reach_chosen P Q one other r s h g false x marks rest p e = g x marks rest p (ends_both one other rest e).1

module _ {A B : Type 0} (kinds ends : List TokenKind) (Part : B → A → Phrase) (part : B → Reader A) (join : B → A → B) (each : (value : B) → Reaches (Part value) ends (part value))
    (starts : (value : B) (x : A) (marks : List Mark) → Part value x marks → Starts kinds (lexemes marks)) (clear : apart ends kinds ≡ true) where
  -- what goes on after a part is another part
  pub parts_end : (value : B) (parts : List A) (marks : List Mark) (rest : List Lexeme) → Parts Part join value parts marks → Ends ends rest → Ends ends (lexemes marks ++ rest)
  parts_end value parts marks rest h e = follows_begun ends kinds true marks rest clear (parts_begun kinds Part join starts value parts marks h) (λ t. e)

  -- parts are read, where no part follows
  pub reach_gather : (n : ℕ) (value : B) (parts : List A) (marks : List Mark) (rest : List Lexeme) → Parts Part join value parts marks → length (lexemes marks ++ rest) ≤ n → Ends kinds rest → Ends ends rest
      → IsReached (gather kinds part join n value) (folded join value parts) marks rest
  reach_gather zero value [] marks rest h enough last e = subst (λ m. IsReached (gather kinds part join zero value) value m rest) (sym h) refl
  reach_gather (suc n) value [] marks rest h enough last e =
      subst (λ m. IsReached (gather kinds part join (suc n) value) value m rest) (sym h)
      (ap (λ b. if b then and_then (part value rest) (λ x. gather kinds part join n (join value x)) else Ok (value, [], rest)) last)
  reach_gather n value (x ∷ xs) marks rest h enough last e = by n enough (λ k fits. reach_gather k (join value x) xs h.1 rest h.4 fits last e)
    where
      begun_here : Starts kinds (lexemes h.0)
      begun_here = starts value x h.0 h.3

      long : suc (length (lexemes h.1 ++ rest)) ≤ length (lexemes marks ++ rest)
      long =
          let s = starts_lexeme kinds (lexemes h.0) begun_here in
          let is : lexemes marks ++ rest ≡ lexemes h.0 ++ (lexemes h.1 ++ rest) = ap (λ m. lexemes m ++ rest) h.2 ∙ lexemes-before h.0 h.1 rest in
          omega (arith, ap length is, ap length s.is, length-append (lexemes h.0) (lexemes h.1 ++ rest))

      by : (n : ℕ) → length (lexemes marks ++ rest) ≤ n
          → ((k : ℕ) → length (lexemes h.1 ++ rest) ≤ k → IsReached (gather kinds part join k (join value x)) (folded join (join value x) xs) h.1 rest)
          → IsReached (gather kinds part join n value) (folded join (join value x) xs) marks rest
      by zero enough ih = absurd (omega (arith, enough, long))
      by (suc n) enough ih =
          subst (λ m. IsReached (gather kinds part join (suc n) value) (folded join (join value x) xs) m rest) (sym h.2)
          (ap (λ t. gather kinds part join (suc n) value t) (lexemes-before h.0 h.1 rest)
          ∙ ap (λ b. if b then and_then (part value (lexemes h.0 ++ (lexemes h.1 ++ rest))) (λ y. gather kinds part join n (join value y)) else Ok (value, [], lexemes h.0 ++ (lexemes h.1 ++ rest)))
          (starts_more kinds (lexemes h.0) (lexemes h.1 ++ rest) begun_here)
          ∙ ap (λ r. and_then r (λ y. gather kinds part join n (join value y))) (each value x h.0 (lexemes h.1 ++ rest) h.3 (parts_end (join value x) xs h.1 rest h.4 e))
          ∙ ap (put h.0) (ih n (omega (arith, enough, long))))

-- what is apart from two lists is apart from each
pub apart_parts : (first_ends ends kinds : List TokenKind) → apart (first_ends ++ ends) kinds ≡ true → (apart first_ends kinds ≡ true) × (apart ends kinds ≡ true)
apart_parts [] ends kinds h = (refl, h)
apart_parts (k ∷ first_ends) ends kinds h =
    let p = and_parts (not (has_kind kinds k)) (apart (first_ends ++ ends) kinds) h in
    let q = apart_parts first_ends ends kinds p.1 in
    (both_true p.0 q.0, q.1)

-- a first value and its parts
reach_chain : {A B : Type 0} (kinds first_ends ends : List TokenKind) (Start : B → Phrase) (start : Reader B) (Part : B → A → Phrase) (part : B → Reader A) (join : B → A → B)
    → Reaches Start first_ends start → ((value : B) → Reaches (Part value) ends (part value))
    → ((value : B) (x : A) (marks : List Mark) → Part value x marks → Starts kinds (lexemes marks)) → apart (first_ends ++ ends) kinds ≡ true
    → Reaches (Chained Start Part join) (kinds ++ (ends ++ first_ends)) (λ tokens. chain (start tokens) kinds part join)
reach_chain kinds first_ends ends Start start Part part join begin each starts clear x marks rest h e =
    let parts = apart_parts first_ends ends kinds clear in
    let one = ends_both kinds (ends ++ first_ends) rest e in
    let two = ends_both ends first_ends rest one.1 in
    subst (λ y. IsReached (λ tokens. chain (start tokens) kinds part join) y marks rest) (sym h.2)
    (reach_then start (λ value tokens. gather kinds part join (length tokens) value tokens) h.0 (folded join h.0 h.1) marks h.3.0 h.3.1 rest h.3.2
    (begin h.0 h.3.0 (lexemes h.3.1 ++ rest) h.3.3 (follows_begun first_ends kinds true h.3.1 rest parts.0 (parts_begun kinds Part join starts h.0 h.1 h.3.1 h.3.4) (λ t. two.1)))
    (reach_gather kinds ends Part part join each starts parts.1 (length (lexemes h.3.1 ++ rest)) h.0 h.1 h.3.1 rest h.3.4 (omega arith) one.0 two.0))

module _ (W : (A : Type 0) → Place A → A → Phrase) (R : (A : Type 0) → Place A → Reader A)
    (begun_place : (A : Type 0) (place : Place A) (x : A) (marks : List Mark) → W A place x marks → Starts (place_first place) (lexemes marks))
    (placed : (A : Type 0) (place : Place A) → Reaches (W A place) (place_ends place) (R A place)) where
  -- what a phrase begins with, where it may not be empty
  pub starts_of : {A : Type 0} (g : Grammar A) → is_clear_by_one g ≡ true → not (nullable g) ≡ true → (x : A) (marks : List Mark) → has W g x marks → Starts (first g) (lexemes marks)
  starts_of g clear filled x marks h = begun (first g) (nullable g) marks (not-true (nullable g) filled) (begins W begun_place g x marks clear h)

  pub starts_chosen : {A : Type 0} (g h : Grammar A) → is_clear_by_one g ≡ true → is_clear_by_one h ≡ true → not (nullable g) ≡ true → not (nullable h) ≡ true → (test : Bool) (x : A) (marks : List Mark)
      → chosen test (has W g) (has W h) x marks → Starts (first g ++ first h) (lexemes marks)
  starts_chosen g h clear too filled full true x marks p = starts_left (first g) (first h) (lexemes marks) (starts_of g clear filled x marks p)
  starts_chosen g h clear too filled full false x marks p = starts_right (first g) (first h) (lexemes marks) (starts_of h too full x marks p)

  pub begun_chosen : {A : Type 0} (g h : Grammar A) → is_clear_by_one g ≡ true → is_clear_by_one h ≡ true → (test : Bool) (x : A) (marks : List Mark)
      → chosen test (has W g) (has W h) x marks → IsBegun (first g ++ first h) (nullable g || nullable h) marks
  begun_chosen g h clear too true x marks p = begun_left (first g) (first h) (nullable g) (nullable h) marks (begins W begun_place g x marks clear p)
  begun_chosen g h clear too false x marks p = begun_right (first g) (first h) (nullable g) (nullable h) marks (begins W begun_place h x marks too p)

  pub reaches : {A : Type 0} (g : Grammar A) → is_clear_by_one g ≡ true → Reaches (has W g) (ends g) (read R g)
  unfolding has read
  reaches (Nothing y) clear x marks rest h e = subst (λ m. IsReached (read R (Nothing y)) x m rest) (sym h.0) (ap (λ v. Ok (v, [], rest)) (sym h.1))
  reaches (One label terminal) clear x marks rest h e =
      subst (λ m. IsReached (read R (One label terminal)) x m rest) (sym h.1) (ap (got label h.0 rest) (value_is terminal h.0 x clear h.2))
  reaches (Word label kind g) clear x marks rest h e =
      let parts = and_parts (is_plain kind) (is_clear_by_one g) clear in
      reach_word (At label) (λ t m. refl) kind (read R g) h.0 x marks h.1 rest h.2 h.3 (reaches g parts.1 x h.1 rest h.4 e)
  reaches (Level kind g) clear x marks rest h e =
      let parts = and_parts (is_plain kind) (is_clear_by_one g) clear in
      reach_word Opens (λ t m. refl) kind (λ tokens. closed (read R g tokens)) h.0 x marks (h.1 ++ Closes ∷ []) rest h.2 h.3
      (ap (λ (t : List Lexeme). closed (read R g t)) (ap (λ (l : List Lexeme). l ++ rest) (lexemes-append h.1 (Closes ∷ []) ∙ append-nil (lexemes h.1)))
      ∙ ap closed (reaches g parts.1 x h.1 rest h.4 e))
  reaches (Both f g h) clear x marks rest s e =
      let one = and_parts (is_clear_by_one g) _ clear in
      let two = and_parts (is_clear_by_one h) _ one.1 in
      let follow = ends_both (ends h) (where_true (nullable h) (first h ++ ends g)) rest e in
      reach_then (read R g) (λ a tokens. made (f a) (read R h tokens)) s.0 x marks s.3.0 s.3.1 rest s.3.2
      (reaches g one.0 s.0 s.3.0 (lexemes s.3.1 ++ rest) s.3.3
      (follows_begun (ends g) (first h) (nullable h) s.3.1 rest two.1 (begins W begun_place h s.1 s.3.1 two.0 s.3.4)
      (λ t. (ends_both (first h) (ends g) rest (where_ends (first h ++ ends g) (nullable h) rest follow.1 t)).1)))
      (reach_made (f s.0) (read R h) s.1 x s.3.1 rest s.2 (reaches h two.0 s.1 s.3.1 rest s.3.4 follow.0))
  reaches (Depending f g test h k) clear x marks rest s e =
      let one = and_parts (is_clear_by_one g) _ clear in
      let two = and_parts (is_clear_by_one h) _ one.1 in
      let three = and_parts (is_clear_by_one k) _ two.1 in
      let empty = nullable h || nullable k in
      let follow = ends_both (ends h) (ends k ++ where_true empty (first h ++ (first k ++ ends g))) rest e in
      let next = ends_both (ends k) (where_true empty (first h ++ (first k ++ ends g))) rest follow.1 in
      reach_then (read R g) (λ a tokens. made (f a) (if test a then read R h tokens else read R k tokens)) s.0 x marks s.3.0 s.3.1 rest s.3.2
      (reaches g one.0 s.0 s.3.0 (lexemes s.3.1 ++ rest) s.3.3
      (follows_begun (ends g) (first h ++ first k) empty s.3.1 rest three.1 (begun_chosen h k two.0 three.0 (test s.0) s.1 s.3.1 s.3.4)
      (λ t. (ends_both (first k) (ends g) rest (ends_both (first h) (first k ++ ends g) rest (where_ends (first h ++ (first k ++ ends g)) empty rest next.1 t)).1).1)))
      (reach_made (f s.0) (λ tokens. if test s.0 then read R h tokens else read R k tokens) s.1 x s.3.1 rest s.2
      (reach_chosen (has W h) (has W k) (ends h) (ends k) (read R h) (read R k) (reaches h two.0) (reaches k three.0) (test s.0) s.1 s.3.1 rest s.3.4
      (ends_join (ends h) (ends k) rest follow.0 next.0)))
  reaches (Made f g) clear x marks rest h e = reach_made f (read R g) h.0 x marks rest h.1 (reaches g clear h.0 marks rest h.2 e)
  reaches (Choice g h) clear x marks rest s e =
      let one = and_parts (is_clear_by_one g) _ clear in
      let two = and_parts (is_clear_by_one h) _ one.1 in
      let three = and_parts (not (nullable g)) _ two.1 in
      let follow = ends_both (ends g) (ends h ++ where_true (nullable h) (first g)) rest e in
      let next = ends_both (ends h) (where_true (nullable h) (first g)) rest follow.1 in
      let tokens = lexemes marks ++ rest in
      ⊎_elim
      (λ i. ap (λ b. if b then read R g tokens else read R h tokens) (starts_more (first g) (lexemes marks) rest (starts_of g one.0 three.0 x marks i))
      ∙ reaches g one.0 x marks rest i follow.0)
      (λ i. ap (λ b. if b then read R g tokens else read R h tokens)
      (follows_begun (first g) (first h) (nullable h) marks rest three.1 (begins W begun_place h x marks two.0 i) (λ t. where_ends (first g) (nullable h) rest next.1 t))
      ∙ reaches h two.0 x marks rest i next.0) s
  reaches (Chain g h join) clear x marks rest s e =
      let one = and_parts (is_clear_by_one g) _ clear in
      let two = and_parts (is_clear_by_one h) _ one.1 in
      let three = and_parts (not (nullable h)) _ two.1 in
      reach_chain (first h) (ends g) (ends h) (has W g) (read R g) (λ value. has W h) (λ value. read R h) join (reaches g one.0) (λ value. reaches h two.0)
      (λ value. starts_of h two.0 three.0) three.1 x marks rest s e
  reaches (Phased g test h k join) clear x marks rest s e =
      let one = and_parts (is_clear_by_one g) _ clear in
      let two = and_parts (is_clear_by_one h) _ one.1 in
      let three = and_parts (is_clear_by_one k) _ two.1 in
      let four = and_parts (not (nullable h)) _ three.1 in
      let five = and_parts (not (nullable k)) _ four.1 in
      reach_chain (first h ++ first k) (ends g) (ends h ++ ends k) (has W g) (read R g) (λ value. chosen (test value) (has W h) (has W k))
      (λ value tokens. if test value then read R h tokens else read R k tokens) join (reaches g one.0)
      (λ value. reach_chosen (has W h) (has W k) (ends h) (ends k) (read R h) (read R k) (reaches h two.0) (reaches k three.0) (test value))
      (λ value. starts_chosen h k two.0 three.0 four.0 five.0 (test value)) five.1 x marks rest s e
  reaches (Within {A} place) clear x marks rest h e = placed A place x marks rest h e
  reaches (Begin g) clear x marks rest h e =
      let one = and_parts (is_clear_by_one g) _ clear in
      subst (λ m. IsReached (read R (Begin g)) x m rest) (sym h.1) (ap (put (Begins ∷ [])) (reaches g one.0 x h.0 rest h.2 e))
