-- A reader goes along with what the grammar has, marks and all, as far as the tokens do.
use Rattle.std.proofs.Common.{◌≡◌, ◌⊎◌, inl, inr, ⊎_elim, ap, ◌∙◌, ℕ, zero, suc, ◌≤◌, Bool, true, false, ◌||◌, not, List, [], ◌∷◌, ◌++◌, length, Ok, Err, refl, sym, subst, append_assoc, arith, length-append}
use Rattle.std.specs.Prelude.{if◌then◌else◌}
use Rattle.std.proofs.lemmas.Bool.{and_parts}
use Rattle.hc_lex.specs.declared.token.TokenKind.{TokenKind}
use Rattle.hc_grammar.specs.Lexemes.{Lexeme}
use Rattle.hc_grammar.specs.Kinds.{is, Starts}
use Rattle.hc_grammar.specs.Marks.{Mark, At, Opens, Closes, Begins, lexemes}
use Rattle.hc_grammar.specs.Terminals.{value_of}
use Rattle.hc_grammar.specs.Grammar.{Grammar, Nothing, One, Word, Level, Both, Depending, Made, Choice, Chain, Phased, Within, Begin, Place}
use Rattle.hc_grammar.specs.First.{first, ends, nullable, apart, place_first, place_ends, is_plain, is_clear_by_one}
use Rattle.hc_grammar.specs.Has.{Phrase, Parts, Chained, chosen, has}
use Rattle.hc_grammar.specs.Reads.{Read, Reader, put, and_then, made, closed, got, one, word, gather, chain, read}
use Rattle.hc_grammar.proofs.Terminals.Numbers.{is_of_kind}
use Rattle.hc_grammar.proofs.Terminals.Lists.{starts_apart}
use Rattle.hc_grammar.proofs.Terminals.Values.{value_is}
use Rattle.hc_grammar.proofs.Meanings.Marks.{lexemes-before, IsWithin, IsBeyond, is_ended, ended_tail, ended_back, ended_lexeme, starts_lexeme, same_first, same_rest, split, front_starts}
use Rattle.hc_grammar.proofs.Meanings.Begins.{IsBegun, begins, parts_begun}
use Rattle.hc_grammar.proofs.Meanings.Reaches.{IsReached, Reaches, reaches, reach_chosen, apart_parts, starts_of, starts_chosen, begun_chosen}

-- the marks that a reader takes
abbrev pub taken : {A : Type 0} → Read A → List Mark
taken (Ok x) = x.1
taken (Err stop) = stop.0

-- the reader takes these marks, and maybe more
abbrev pub Extends : {A : Type 0} → List Mark → Read A → Type 0
Extends front r = (more : List Mark) × (taken r ≡ front ++ more)

-- The reader takes each front that ends with a lexeme of what the phrase has, where the tokens have its lexemes.
abbrev pub Follows : {A : Type 0} → (A → Phrase) → Reader A → Type 0
Follows {A} P r = (x : A) (marks front q : List Mark) (rest : List Lexeme) → P x marks → marks ≡ front ++ q → is_ended front ≡ true → Extends front (r (lexemes front ++ rest))

takes_none : {A : Type 0} (r : Read A) → Extends [] r
takes_none r = (taken r, refl)

extends_put : {A : Type 0} (front more : List Mark) (r : Read A) → Extends more r → Extends (front ++ more) (put front r)
extends_put front more (Ok x) h = (h.0, ap (λ (m : List Mark). front ++ m) h.1 ∙ sym (append_assoc front more h.0))
extends_put front more (Err stop) h = (h.0, ap (λ (m : List Mark). front ++ m) h.1 ∙ sym (append_assoc front more h.0))

extends_made : {A B : Type 0} (f : A → B) (front : List Mark) (r : Read A) → Extends front r → Extends front (made f r)
extends_made f front (Ok x) h = h
extends_made f front (Err stop) h = h

extends_closed : {A : Type 0} (front : List Mark) (r : Read A) → Extends front r → Extends front (closed r)
extends_closed front (Ok x) h = (h.0 ++ Closes ∷ [], ap (λ (m : List Mark). m ++ Closes ∷ []) h.1 ∙ append_assoc front h.0 (Closes ∷ []))
extends_closed front (Err stop) h = h

taken_put : {A : Type 0} (front : List Mark) (r : Read A) → taken (put front r) ≡ front ++ taken r
taken_put front (Ok x) = refl
taken_put front (Err stop) = refl

-- where the first takes them, or where it is read and the second takes the rest
extends_first : {A B : Type 0} (front : List Mark) (r : Read A) (next : A → Reader B) → Extends front r → Extends front (and_then r next)
extends_first front (Ok x) next h =
    (h.0 ++ taken (next x.0 x.2), taken_put x.1 (next x.0 x.2) ∙ ap (λ (m : List Mark). m ++ taken (next x.0 x.2)) h.1 ∙ append_assoc front h.0 (taken (next x.0 x.2)))
extends_first front (Err stop) next h = h

extends_second : {A B : Type 0} (front more : List Mark) (r : Read A) (next : A → Reader B) (a : A) (rest : List Lexeme) → r ≡ Ok (a, front, rest) → Extends more (next a rest)
    → Extends (front ++ more) (and_then r next)
extends_second front more r next a rest is h = subst (λ s. Extends (front ++ more) (and_then s next)) (sym is) (extends_put front more (next a rest) h)

-- one after the other; the first is reached where the second has a lexeme
follow_then : {A B : Type 0} (r : Reader A) (next : A → Reader B) (a : A) (marks one other front q : List Mark) (rest : List Lexeme) → marks ≡ front ++ q → marks ≡ one ++ other → is_ended front ≡ true
    → ((f p : List Mark) → one ≡ f ++ p → is_ended f ≡ true → Extends f (r (lexemes f ++ rest)))
    → ((m : Mark) (f : List Mark) → other ≡ m ∷ f ++ q → is_ended (m ∷ f) ≡ true → IsReached r a one (lexemes (m ∷ f) ++ rest))
    → ((f : List Mark) → front ≡ one ++ f → other ≡ f ++ q → is_ended f ≡ true → Extends f (next a (lexemes f ++ rest)))
    → Extends front (and_then (r (lexemes front ++ rest)) next)
follow_then r next a marks one other front q rest is parts ended first reached second = by (split one other front q (sym parts ∙ is))
  where
    by : IsWithin one other front q ⊎ IsBeyond one other front q → Extends front (and_then (r (lexemes front ++ rest)) next)
    by (inl w) = extends_first front (r (lexemes front ++ rest)) next (first front w.more w.is ended)
    by (inr b) =
        let tail : is_ended (b.next ∷ b.more) ≡ true = ended_back one b.next b.more (ap is_ended (sym b.is) ∙ ended) in
        let back : List Mark = b.next ∷ b.more in
        subst (λ (f : List Mark). Extends f (and_then (r (lexemes f ++ rest)) next)) (sym b.is)
        (extends_second one back (r (lexemes (one ++ back) ++ rest)) next a (lexemes back ++ rest)
        (ap r (lexemes-before one back rest) ∙ reached b.next b.more b.rest tail)
        (second back b.is b.rest tail))

-- a lexeme of a kind, and what follows
follow_word : {A : Type 0} (mark : Lexeme → Mark) (one : (t : Lexeme) (m : List Mark) → lexemes (mark t ∷ m) ≡ t ∷ lexemes m) (kind : TokenKind) (next : Reader A) (t : Lexeme) (marks m front q : List Mark) (rest : List Lexeme) → marks ≡ mark t ∷ m → t.kind ≡ kind
    → marks ≡ front ++ q → is_ended front ≡ true → ((f : List Mark) → m ≡ f ++ q → is_ended f ≡ true → Extends f (next (lexemes f ++ rest)))
    → Extends front (word mark kind next (lexemes front ++ rest))
follow_word mark one kind next t marks m [] q rest is of parts ended second = takes_none (word mark kind next rest)
follow_word mark one kind next t marks m (n ∷ front) q rest is of parts ended second =
    let e = sym is ∙ parts in
    let here : mark t ≡ n = same_first (mark t) n m (front ++ q) e in
    subst (λ n. Extends (n ∷ front) (word mark kind next (lexemes (n ∷ front) ++ rest))) here
    (subst (λ (l : List Lexeme). Extends (mark t ∷ front) (word mark kind next (l ++ rest))) (sym (one t front))
    (subst (λ b. Extends (mark t ∷ front) (if b then put (mark t ∷ []) (next (lexemes front ++ rest)) else Err ([], t ∷ lexemes front ++ rest))) (sym (is_of_kind kind t of))
    (extends_put (mark t ∷ []) front (next (lexemes front ++ rest)) (second front (same_rest (mark t) n m (front ++ q) e) (ended_tail n front ended)))))

follow_chosen : {A : Type 0} (P Q : A → Phrase) (r s : Reader A) → Follows P r → Follows Q s → (test : Bool) → Follows (chosen test P Q) (λ rest. if test then r rest else s rest)
follow_chosen P Q r s h g true x marks front q rest p is ended = h x marks front q rest p is ended
follow_chosen P Q r s h g false x marks front q rest p is ended = g x marks front q rest p is ended

-- where a front of what begins so has a lexeme, it begins so
front_begun : (kinds : List TokenKind) (empty : Bool) (marks : List Mark) (m : Mark) (front q : List Mark) (rest : List Lexeme) → IsBegun kinds empty marks → marks ≡ m ∷ front ++ q
    → is_ended (m ∷ front) ≡ true → Starts kinds (lexemes (m ∷ front) ++ rest)
front_begun kinds empty marks m front q rest (inl s) is ended = front_starts kinds m front q rest ended (subst (λ l. Starts kinds (lexemes l)) is s)
front_begun kinds empty marks m front q rest (inr s) is ended = absurd (let bad : [] ≡ m ∷ front ++ q = sym s.0 ∙ is in cc)

module _ {A B : Type 0} (kinds ends : List TokenKind) (Part : B → A → Phrase) (part : B → Reader A) (join : B → A → B) (each : (value : B) → Reaches (Part value) ends (part value))
    (starts : (value : B) (x : A) (marks : List Mark) → Part value x marks → Starts kinds (lexemes marks)) (clear : apart ends kinds ≡ true) (along : (value : B) → Follows (Part value) (part value)) where
  follow_gather : (n : ℕ) (value : B) (parts : List A) (marks front q : List Mark) (rest : List Lexeme) → Parts Part join value parts marks → marks ≡ front ++ q → is_ended front ≡ true
      → length (lexemes front ++ rest) ≤ n → Extends front (gather kinds part join n value (lexemes front ++ rest))
  follow_gather n value [] marks [] q rest h is ended enough = takes_none (gather kinds part join n value rest)
  follow_gather n value [] marks (m ∷ front) q rest h is ended enough = absurd (let bad : [] ≡ m ∷ front ++ q = sym h ∙ is in cc)
  follow_gather n value (x ∷ xs) marks [] q rest h is ended enough = takes_none (gather kinds part join n value rest)
  follow_gather zero value (x ∷ xs) marks (m ∷ front) q rest h is ended enough =
      absurd (let l = ended_lexeme m front ended in omega (arith, enough, ap (λ (t : List Lexeme). length (t ++ rest)) l.is))
  follow_gather (suc n) value (x ∷ xs) marks (m ∷ front) q rest h is ended enough =
      let here : Starts kinds (lexemes (m ∷ front) ++ rest) =
      front_begun kinds true marks m front q rest (parts_begun kinds Part join starts value (x ∷ xs) marks h) is ended in
      subst (λ b. Extends (m ∷ front) (if b then and_then (part value (lexemes (m ∷ front) ++ rest)) (λ y. gather kinds part join n (join value y)) else Ok (value, [], lexemes (m ∷ front) ++ rest))) (sym here)
      (follow_then (part value) (λ y. gather kinds part join n (join value y)) x marks h.0 h.1 (m ∷ front) q rest is h.2 ended
      (λ f p e. along value x h.0 f p rest h.3 e)
      (λ k f e l. each value x h.0 (lexemes (k ∷ f) ++ rest) h.3
      (starts_apart ends kinds (lexemes (k ∷ f) ++ rest) clear (front_begun kinds true h.1 k f q rest (parts_begun kinds Part join starts (join value x) xs h.1 h.4) e l)))
      (λ f i e l. follow_gather n (join value x) xs h.1 f q rest h.4 e l (shorter h.0 (m ∷ front) f rest n (starts value x h.0 h.3) i enough)))
    where
      shorter : (one front f : List Mark) (rest : List Lexeme) (n : ℕ) → Starts kinds (lexemes one) → front ≡ one ++ f → length (lexemes front ++ rest) ≤ suc n → length (lexemes f ++ rest) ≤ n
      shorter one front f rest n s i enough =
          let l = starts_lexeme kinds (lexemes one) s in
          let is : lexemes front ++ rest ≡ lexemes one ++ (lexemes f ++ rest) = ap (λ m. lexemes m ++ rest) i ∙ lexemes-before one f rest in
          omega (arith, enough, ap length is, ap length l.is, length-append (lexemes one) (lexemes f ++ rest))

-- a first value and its parts
follow_chain : {A B : Type 0} (kinds first_ends ends : List TokenKind) (Start : B → Phrase) (start : Reader B) (Part : B → A → Phrase) (part : B → Reader A) (join : B → A → B)
    → Reaches Start first_ends start → Follows Start start → ((value : B) → Reaches (Part value) ends (part value)) → ((value : B) → Follows (Part value) (part value))
    → ((value : B) (x : A) (marks : List Mark) → Part value x marks → Starts kinds (lexemes marks)) → apart (first_ends ++ ends) kinds ≡ true
    → Follows (Chained Start Part join) (λ tokens. chain (start tokens) kinds part join)
follow_chain kinds first_ends ends Start start Part part join begin first each along starts clear x marks front q rest h is ended =
    let parts = apart_parts first_ends ends kinds clear in
    follow_then start (λ value tokens. gather kinds part join (length tokens) value tokens) h.0 marks h.3.0 h.3.1 front q rest is h.3.2 ended
    (λ f p e. first h.0 h.3.0 f p rest h.3.3 e)
    (λ k f e l. begin h.0 h.3.0 (lexemes (k ∷ f) ++ rest) h.3.3
    (starts_apart first_ends kinds (lexemes (k ∷ f) ++ rest) parts.0 (front_begun kinds true h.3.1 k f q rest (parts_begun kinds Part join starts h.0 h.1 h.3.1 h.3.4) e l)))
    (λ f i e l. follow_gather kinds ends Part part join each starts parts.1 along (length (lexemes f ++ rest)) h.0 h.1 h.3.1 f q rest h.3.4 e l (omega arith))

module _ (W : (A : Type 0) → Place A → A → Phrase) (R : (A : Type 0) → Place A → Reader A)
    (begun_place : (A : Type 0) (place : Place A) (x : A) (marks : List Mark) → W A place x marks → Starts (place_first place) (lexemes marks))
    (reached : (A : Type 0) (place : Place A) → Reaches (W A place) (place_ends place) (R A place)) (placed : (A : Type 0) (place : Place A) → Follows (W A place) (R A place)) where
  pub follows : {A : Type 0} (g : Grammar A) → is_clear_by_one g ≡ true → Follows (has W g) (read R g)
  unfolding has read
  follows (Nothing y) clear x marks [] q rest h is ended = takes_none (Ok (y, [], rest))
  follows (Nothing y) clear x marks (m ∷ front) q rest h is ended = absurd (let bad : [] ≡ m ∷ front ++ q = sym h.0 ∙ is in cc)
  follows (One label terminal) clear x marks [] q rest h is ended = takes_none (one label (value_of terminal) rest)
  follows (One label terminal) clear x marks (m ∷ front) q rest h is ended =
      let e = sym h.1 ∙ is in
      let none : [] ≡ front ++ q = same_rest (At label h.0) m [] (front ++ q) e in
      let here : At label h.0 ≡ m = same_first (At label h.0) m [] (front ++ q) e in
      subst (λ f. Extends f (one label (value_of terminal) (lexemes f ++ rest))) (ap (λ n. n ∷ []) here ∙ ap (λ (l : List Mark). m ∷ l) (empty_front front q none))
      (subst (λ o. Extends (At label h.0 ∷ []) (got label h.0 rest o)) (sym (value_is terminal h.0 x clear h.2)) ([], refl))
    where
      empty_front : (front q : List Mark) → [] ≡ front ++ q → [] ≡ front
      empty_front [] q e = refl
      empty_front (m ∷ front) q e = absurd (cc)
  follows (Word label kind g) clear x marks front q rest h is ended =
      let parts = and_parts (is_plain kind) (is_clear_by_one g) clear in
      follow_word (At label) (λ t m. refl) kind (read R g) h.0 marks h.1 front q rest h.2 h.3 is ended (λ f e l. follows g parts.1 x h.1 f q rest h.4 e l)
  follows (Level kind g) clear x marks front q rest h is ended =
      let parts = and_parts (is_plain kind) (is_clear_by_one g) clear in
      follow_word Opens (λ t m. refl) kind (λ tokens. closed (read R g tokens)) h.0 marks (h.1 ++ Closes ∷ []) front q rest h.2 h.3 is ended
      (λ f e l. inner f l (λ p i. follows g parts.1 x h.1 f p rest h.4 i l) (split h.1 (Closes ∷ []) f q e))
    where
      no_lexeme : (m : Mark) (f q : List Mark) → Closes ∷ [] ≡ m ∷ f ++ q → is_ended (m ∷ f) ≡ true → ⊥
      no_lexeme (At l t) f q e i = let bad = same_first Closes (At l t) [] (f ++ q) e in cc
      no_lexeme (Opens t) f q e i = let bad = same_first Closes (Opens t) [] (f ++ q) e in cc
      no_lexeme Begins f q e i = let bad = same_first Closes Begins [] (f ++ q) e in cc
      no_lexeme Closes [] q e i = cc
      no_lexeme Closes (n ∷ f) q e i = let bad = same_rest Closes Closes [] (n ∷ f ++ q) e in cc

      inner : (f : List Mark) → is_ended f ≡ true → ((p : List Mark) → h.1 ≡ f ++ p → Extends f (read R g (lexemes f ++ rest))) → IsWithin h.1 (Closes ∷ []) f q ⊎ IsBeyond h.1 (Closes ∷ []) f q
          → Extends f (closed (read R g (lexemes f ++ rest)))
      inner f l along (inl w) = extends_closed f (read R g (lexemes f ++ rest)) (along w.more w.is)
      inner f l along (inr b) =
          absurd (let tail : is_ended (b.next ∷ b.more) ≡ true = ended_back h.1 b.next b.more (ap is_ended (sym b.is) ∙ l) in
          no_lexeme b.next b.more q b.rest tail)
  follows (Both {A = P} {B = V} {C = C} f g h) clear x marks front q rest s is ended =
      let one = and_parts (is_clear_by_one g) _ clear in
      let two = and_parts (is_clear_by_one h) _ one.1 in
      follow_then (read R g) (λ a tokens. made (f a) (read R h tokens)) s.0 marks s.3.0 s.3.1 front q rest is s.3.2 ended
      (λ r p e l. follows g one.0 s.0 s.3.0 r p rest s.3.3 e l)
      (λ k r e l. reaches W R begun_place reached g one.0 s.0 s.3.0 (lexemes (k ∷ r) ++ rest) s.3.3
      (starts_apart (ends g) (first h) (lexemes (k ∷ r) ++ rest) two.1 (front_begun (first h) (nullable h) s.3.1 k r q rest (begins W begun_place h s.1 s.3.1 two.0 s.3.4) e l)))
      (λ r i e l. extends_made (f s.0) r (read R h (lexemes r ++ rest)) (follows h two.0 s.1 s.3.1 r q rest s.3.4 e l))
  follows (Depending {A = P} {B = V} {C = C} f g test h k) clear x marks front q rest s is ended =
      let one = and_parts (is_clear_by_one g) _ clear in
      let two = and_parts (is_clear_by_one h) _ one.1 in
      let three = and_parts (is_clear_by_one k) _ two.1 in
      follow_then (read R g) (λ a tokens. made (f a) (if test a then read R h tokens else read R k tokens)) s.0 marks s.3.0 s.3.1 front q rest is s.3.2 ended
      (λ r p e l. follows g one.0 s.0 s.3.0 r p rest s.3.3 e l)
      (λ j r e l. reaches W R begun_place reached g one.0 s.0 s.3.0 (lexemes (j ∷ r) ++ rest) s.3.3
      (starts_apart (ends g) (first h ++ first k) (lexemes (j ∷ r) ++ rest) three.1
      (front_begun (first h ++ first k) (nullable h || nullable k) s.3.1 j r q rest (begun_chosen W R begun_place reached h k two.0 three.0 (test s.0) s.1 s.3.1 s.3.4) e l)))
      (λ r i e l. extends_made (f s.0) r (if test s.0 then read R h (lexemes r ++ rest) else read R k (lexemes r ++ rest))
      (follow_chosen (has W h) (has W k) (read R h) (read R k) (follows h two.0) (follows k three.0) (test s.0) s.1 s.3.1 r q rest s.3.4 e l))
  follows (Made f g) clear x marks front q rest h is ended = extends_made f front (read R g (lexemes front ++ rest)) (follows g clear h.0 marks front q rest h.2 is ended)
  follows (Choice g h) clear x marks [] q rest s is ended = takes_none (read R (Choice g h) rest)
  follows (Choice g h) clear x marks (m ∷ front) q rest s is ended =
      let one = and_parts (is_clear_by_one g) _ clear in
      let two = and_parts (is_clear_by_one h) _ one.1 in
      let three = and_parts (not (nullable g)) _ two.1 in
      let tokens = lexemes (m ∷ front) ++ rest in
      ⊎_elim
      (λ i. subst (λ b. Extends (m ∷ front) (if b then read R g tokens else read R h tokens))
      (sym (front_begun (first g) (nullable g) marks m front q rest (begins W begun_place g x marks one.0 i) is ended))
      (follows g one.0 x marks (m ∷ front) q rest i is ended))
      (λ i. subst (λ b. Extends (m ∷ front) (if b then read R g tokens else read R h tokens))
      (sym (starts_apart (first g) (first h) tokens three.1 (front_begun (first h) (nullable h) marks m front q rest (begins W begun_place h x marks two.0 i) is ended)))
      (follows h two.0 x marks (m ∷ front) q rest i is ended)) s
  follows (Chain g h join) clear x marks front q rest s is ended =
      let one = and_parts (is_clear_by_one g) _ clear in
      let two = and_parts (is_clear_by_one h) _ one.1 in
      let three = and_parts (not (nullable h)) _ two.1 in
      follow_chain (first h) (ends g) (ends h) (has W g) (read R g) (λ value. has W h) (λ value. read R h) join (reaches W R begun_place reached g one.0) (follows g one.0)
      (λ value. reaches W R begun_place reached h two.0) (λ value. follows h two.0) (λ value. starts_of W R begun_place reached h two.0 three.0) three.1 x marks front q rest s is ended
  follows (Phased g test h k join) clear x marks front q rest s is ended =
      let one = and_parts (is_clear_by_one g) _ clear in
      let two = and_parts (is_clear_by_one h) _ one.1 in
      let three = and_parts (is_clear_by_one k) _ two.1 in
      let four = and_parts (not (nullable h)) _ three.1 in
      let five = and_parts (not (nullable k)) _ four.1 in
      follow_chain (first h ++ first k) (ends g) (ends h ++ ends k) (has W g) (read R g) (λ value. chosen (test value) (has W h) (has W k))
      (λ value tokens. if test value then read R h tokens else read R k tokens) join (reaches W R begun_place reached g one.0) (follows g one.0)
      (λ value. reach_chosen (has W h) (has W k) (ends h) (ends k) (read R h) (read R k) (reaches W R begun_place reached h two.0) (reaches W R begun_place reached k three.0) (test value))
      (λ value. follow_chosen (has W h) (has W k) (read R h) (read R k) (follows h two.0) (follows k three.0) (test value))
      (λ value. starts_chosen W R begun_place reached h k two.0 three.0 four.0 five.0 (test value)) five.1 x marks front q rest s is ended
  follows (Within {A} place) clear x marks front q rest h is ended = placed A place x marks front q rest h is ended
  follows (Begin g) clear x marks [] q rest h is ended = takes_none (put (Begins ∷ []) (read R g rest))
  follows (Begin g) clear x marks (m ∷ front) q rest h is ended =
      let one = and_parts (is_clear_by_one g) _ clear in
      let e = sym h.1 ∙ is in
      subst (λ n. Extends (n ∷ front) (put (Begins ∷ []) (read R g (lexemes (n ∷ front) ++ rest)))) (same_first Begins m h.0 (front ++ q) e)
      (extends_put (Begins ∷ []) front (read R g (lexemes front ++ rest)) (follows g one.0 x h.0 front q rest h.2 (same_rest Begins m h.0 (front ++ q) e) (ended_tail m front ended)))
