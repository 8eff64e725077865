-- What is read, the grammar has; and where a reader stops, what it has read begins something that the grammar has.
use Rattle.std.proofs.Common.{◌≡◌, inl, inr, ap, ◌∙◌, ℕ, zero, suc, Bool, true, false, List, [], ◌∷◌, ◌++◌, length, Option, Some, None, Ok, Err, refl, sym, subst, append_assoc, append-nil}
use Rattle.std.specs.Prelude.{if◌then◌else◌}
use Rattle.std.proofs.lemmas.Bool.{and_parts}
use Rattle.hc_lex.specs.declared.token.TokenKind.{TokenKind}
use Rattle.hc_grammar.specs.Lexemes.{Lexeme}
use Rattle.hc_grammar.specs.Kinds.{is, among, head_is}
use Rattle.hc_grammar.specs.Marks.{Label, Mark, At, Opens, Closes, Begins, lexemes}
use Rattle.hc_grammar.specs.Terminals.{Means, value_of}
use Rattle.hc_grammar.specs.Grammar.{Grammar, Nothing, One, Word, Level, Both, Depending, Made, Choice, Chain, Phased, Within, Begin, Place}
use Rattle.hc_grammar.specs.First.{first, is_plain, is_clear_by_one}
use Rattle.hc_grammar.specs.Has.{Phrase, Parts, Chained, folded, chosen, has}
use Rattle.hc_grammar.specs.Reads.{Read, Reader, put, and_then, made, closed, got, one, word, gather, chain, read}
use Rattle.hc_grammar.proofs.Terminals.Numbers.{kind_is}
use Rattle.hc_grammar.proofs.Terminals.Values.{value_has}
use Rattle.hc_grammar.proofs.Meanings.Marks.{lexemes-append, lexemes-before}
use Rattle.hc_grammar.proofs.Meanings.Some.{HasSome, some, some_chosen}

-- what was read is at the front of the tokens, and is of the phrase or begins one
abbrev pub IsSound : {A : Type 0} → (A → Phrase) → List Lexeme → Read A → Type 0
IsSound P tokens (Ok x) = (tokens ≡ lexemes x.1 ++ x.2) × P x.0 x.1
IsSound {A} P tokens (Err stop) = (tokens ≡ lexemes stop.0 ++ stop.1) × ((more : List Mark) × (x : A) × P x (stop.0 ++ more))

-- a stop at once
stops_here : {A : Type 0} (P : A → Phrase) (tokens : List Lexeme) → HasSome P → IsSound P tokens (Err ([], tokens))
stops_here P tokens s = (refl, (s.marks, s.value, s.is))

-- what is read is of another phrase, with a value made of it
sound_made : {A B : Type 0} (P : A → Phrase) (Q : B → Phrase) (f : A → B) (to : (x : A) (m : List Mark) → P x m → Q (f x) m) (tokens : List Lexeme) (r : Read A) → IsSound P tokens r
    → IsSound Q tokens (made f r)
sound_made P Q f to tokens (Ok x) h = (h.0, to x.0 x.1 h.1)
sound_made P Q f to tokens (Err stop) h = (h.0, (h.1.0, f h.1.1, to h.1.1 (stop.0 ++ h.1.0) h.1.2))

pub sound_as : {A : Type 0} (P Q : A → Phrase) (to : (x : A) (m : List Mark) → P x m → Q x m) (tokens : List Lexeme) (r : Read A) → IsSound P tokens r → IsSound Q tokens r
sound_as P Q to tokens (Ok x) h = (h.0, to x.0 x.1 h.1)
sound_as P Q to tokens (Err stop) h = (h.0, (h.1.0, h.1.1, to h.1.1 (stop.0 ++ h.1.0) h.1.2))

-- marks before what is read
sound_put : {A : Type 0} (Q S : A → Phrase) (front : List Mark) (join : (y : A) (m : List Mark) → Q y m → S y (front ++ m)) (tokens rest : List Lexeme) → tokens ≡ lexemes front ++ rest
    → (r : Read A) → IsSound Q rest r → IsSound S tokens (put front r)
sound_put Q S front join tokens rest is (Ok y) h =
    (is ∙ ap (λ (l : List Lexeme). lexemes front ++ l) h.0 ∙ sym (lexemes-before front y.1 y.2), join y.0 y.1 h.1)
sound_put Q S front join tokens rest is (Err stop) h = (
  is ∙ ap (λ (l : List Lexeme). lexemes front ++ l) h.0 ∙ sym (lexemes-before front stop.0 stop.1),
  (h.1.0, h.1.1, subst (S h.1.1) (sym (append_assoc front stop.0 h.1.0)) (join h.1.1 (stop.0 ++ h.1.0) h.1.2)),
)

-- one after the other
sound_then : {A C : Type 0} (P : A → Phrase) (Q : A → C → Phrase) (S : C → Phrase) (join : (a : A) (c : C) (m n : List Mark) → P a m → Q a c n → S c (m ++ n)) (more : (a : A) → HasSome (Q a))
    (tokens : List Lexeme) (r : Read A) (next : A → Reader C) → IsSound P tokens r → ((a : A) (rest : List Lexeme) → IsSound (Q a) rest (next a rest)) → IsSound S tokens (and_then r next)
sound_then P Q S join more tokens (Ok x) next h each =
    sound_put (Q x.0) S x.1 (λ c n q. join x.0 c x.1 n h.1 q) tokens x.2 h.0 (next x.0 x.2) (each x.0 x.2)
sound_then P Q S join more tokens (Err stop) next h each =
    let s = more h.1.1 in
    (h.0, (h.1.0 ++ s.marks, s.value, subst (S s.value) (append_assoc stop.0 h.1.0 s.marks) (join h.1.1 s.value (stop.0 ++ h.1.0) s.marks h.1.2 s.is)))

-- at whose end a level ends
abbrev IsClosed : {A : Type 0} → (A → Phrase) → A → Phrase
IsClosed P x marks = (inner : List Mark) × (marks ≡ inner ++ Closes ∷ []) × P x inner

sound_closed : {A : Type 0} (P : A → Phrase) (tokens : List Lexeme) (r : Read A) → IsSound P tokens r → IsSound (IsClosed P) tokens (closed r)
sound_closed P tokens (Ok x) h =
    (h.0 ∙ ap (λ (l : List Lexeme). l ++ x.2) (sym (lexemes-append x.1 (Closes ∷ []) ∙ append-nil (lexemes x.1))), (x.1, refl, h.1))
sound_closed P tokens (Err stop) h = (h.0, (h.1.0 ++ Closes ∷ [], h.1.1, (stop.0 ++ h.1.0, sym (append_assoc stop.0 h.1.0 (Closes ∷ [])), h.1.2)))

-- one lexeme
sound_got : {A : Type 0} (label : Label) (P : A → Lexeme → Type 0) (t : Lexeme) (rest : List Lexeme) (o : Option A) → ((x : A) → o ≡ Some x → P x t)
    → HasSome (λ x marks. (t : Lexeme) × (marks ≡ At label t ∷ []) × P x t) → IsSound (λ x marks. (t : Lexeme) × (marks ≡ At label t ∷ []) × P x t) (t ∷ rest) (got label t rest o)
sound_got label P t rest None means s = stops_here (λ x marks. (t : Lexeme) × (marks ≡ At label t ∷ []) × P x t) (t ∷ rest) s
sound_got label P t rest (Some x) means s = (refl, (t, refl, means x refl))

sound_one : {A : Type 0} (label : Label) (P : A → Lexeme → Type 0) (get : Lexeme → Option A) → ((t : Lexeme) (x : A) → get t ≡ Some x → P x t)
    → HasSome (λ x marks. (t : Lexeme) × (marks ≡ At label t ∷ []) × P x t) → (tokens : List Lexeme)
    → IsSound (λ x marks. (t : Lexeme) × (marks ≡ At label t ∷ []) × P x t) tokens (one label get tokens)
sound_one label P get means s [] = stops_here (λ x marks. (t : Lexeme) × (marks ≡ At label t ∷ []) × P x t) [] s
sound_one label P get means s (t ∷ rest) = sound_got label P t rest (get t) (means t) s

-- a lexeme of a kind, and what follows
sound_word : {A : Type 0} (mark : Lexeme → Mark) (one : (t : Lexeme) → lexemes (mark t ∷ []) ≡ t ∷ []) (kind : TokenKind) (plain : is_plain kind ≡ true) (Q S : A → Phrase)
    (join : (y : A) (t : Lexeme) (m : List Mark) → t.kind ≡ kind → Q y m → S y (mark t ∷ m)) (s : HasSome S) (next : Reader A) → ((rest : List Lexeme) → IsSound Q rest (next rest))
    → (tokens : List Lexeme) → IsSound S tokens (word mark kind next tokens)
sound_word mark one kind plain Q S join s next each [] = stops_here S [] s
sound_word mark one kind plain Q S join s next each (t ∷ rest) = by (is kind t) refl
  where
    by : (test : Bool) → is kind t ≡ test → IsSound S (t ∷ rest) (if test then put (mark t ∷ []) (next rest) else Err ([], t ∷ rest))
    by true h = sound_put Q S (mark t ∷ []) (λ y m q. join y t m (kind_is kind t plain h) q) (t ∷ rest) rest (ap (λ (l : List Lexeme). l ++ rest) (sym (one t))) (next rest) (each rest)
    by false h = stops_here S (t ∷ rest) s

-- one or the other, by a test
pub sound_by : {A : Type 0} (P Q S : A → Phrase) (tokens : List Lexeme) (one other : Read A) (to : (x : A) (m : List Mark) → P x m → S x m) (too : (x : A) (m : List Mark) → Q x m → S x m) (test : Bool)
    → IsSound P tokens one → IsSound Q tokens other → IsSound S tokens (if test then one else other)
sound_by P Q S tokens one other to too true h g = sound_as P S to tokens one h
sound_by P Q S tokens one other to too false h g = sound_as Q S too tokens other g

pub sound_chosen : {A : Type 0} (P Q : A → Phrase) (tokens : List Lexeme) (one other : Read A) (test : Bool) → IsSound P tokens one → IsSound Q tokens other
    → IsSound (chosen test P Q) tokens (if test then one else other)
sound_chosen P Q tokens one other true h g = sound_as P (chosen true P Q) (λ x m p. p) tokens one h
sound_chosen P Q tokens one other false h g = sound_as Q (chosen false P Q) (λ x m p. p) tokens other g

-- parts joined to a value
abbrev pub IsGathered : {A B : Type 0} → (B → A → Phrase) → (B → A → B) → B → B → Phrase
IsGathered {A} Part join value y marks = (parts : List A) × (y ≡ folded join value parts) × Parts Part join value parts marks

none_gathered : {A B : Type 0} (Part : B → A → Phrase) (join : B → A → B) (value : B) → HasSome (IsGathered Part join value)
none_gathered Part join value = record { value = value; marks = []; is = ([], refl, refl) }

pub sound_gather : {A B : Type 0} (kinds : List TokenKind) (Part : B → A → Phrase) (part : B → Reader A) (join : B → A → B) → ((value : B) (rest : List Lexeme) → IsSound (Part value) rest (part value rest))
    → (n : ℕ) (value : B) (tokens : List Lexeme) → IsSound (IsGathered Part join value) tokens (gather kinds part join n value tokens)
sound_gather kinds Part part join each zero value tokens = (refl, ([], refl, refl))
sound_gather {A} {B} kinds Part part join each (suc n) value tokens = by (head_is (among kinds) tokens) (λ x rest. sound_gather kinds Part part join each n (join value x) rest)
  where
    more : (x : A) (y : B) (m r : List Mark) → Part value x m → IsGathered Part join (join value x) y r → IsGathered Part join value y (m ++ r)
    more x y m r p g = (x ∷ g.0, g.1, (m, r, refl, p, g.2))

    by : (test : Bool) → ((x : A) (rest : List Lexeme) → IsSound (IsGathered Part join (join value x)) rest (gather kinds part join n (join value x) rest))
        → IsSound (IsGathered Part join value) tokens (if test then and_then (part value tokens) (λ x. gather kinds part join n (join value x)) else Ok (value, [], tokens))
    by true ih =
        sound_then (Part value) (λ x. IsGathered Part join (join value x)) (IsGathered Part join value) more (λ x. none_gathered Part join (join value x)) tokens (part value tokens)
        (λ x. gather kinds part join n (join value x)) (each value tokens) ih
    by false ih = (refl, ([], refl, refl))

sound_chain : {A B : Type 0} (kinds : List TokenKind) (Start : B → Phrase) (Part : B → A → Phrase) (part : B → Reader A) (join : B → A → B) (tokens : List Lexeme) (start : Read B)
    → IsSound Start tokens start → ((value : B) (rest : List Lexeme) → IsSound (Part value) rest (part value rest)) → IsSound (Chained Start Part join) tokens (chain start kinds part join)
sound_chain kinds Start Part part join tokens start first each =
    sound_then Start (IsGathered Part join) (Chained Start Part join) (λ value y m n p g. (value, g.0, g.1, (m, n, refl, p, g.2))) (none_gathered Part join) tokens start
    (λ value rest. gather kinds part join (length rest) value rest) first (λ value rest. sound_gather kinds Part part join each (length rest) value rest)

module _ (W : (A : Type 0) → Place A → A → Phrase) (R : (A : Type 0) → Place A → Reader A) (something : (A : Type 0) (place : Place A) → HasSome (W A place))
    (placed : (A : Type 0) (place : Place A) (tokens : List Lexeme) → IsSound (W A place) tokens (R A place tokens)) where
  pub sound : {A : Type 0} (g : Grammar A) → is_clear_by_one g ≡ true → (tokens : List Lexeme) → IsSound (has W g) tokens (read R g tokens)
  unfolding has read
  sound (Nothing x) clear tokens = (refl, (refl, refl))
  sound (One label terminal) clear tokens =
      sound_one label (Means terminal) (value_of terminal) (λ t x. value_has terminal t x clear) (some W something (One label terminal) clear) tokens
  sound (Word label kind g) clear tokens =
      let parts = and_parts (is_plain kind) (is_clear_by_one g) clear in
      sound_word (At label) (λ t. refl) kind parts.0 (has W g) (has W (Word label kind g)) (λ y t m k p. (t, m, refl, k, p)) (some W something (Word label kind g) clear) (read R g) (sound g parts.1) tokens
  sound (Level kind g) clear tokens =
      let parts = and_parts (is_plain kind) (is_clear_by_one g) clear in
      sound_word Opens (λ t. refl) kind parts.0 (IsClosed (has W g)) (has W (Level kind g)) (λ y t m k p. (t, p.0, ap (λ (l : List Mark). Opens t ∷ l) p.1, k, p.2))
      (some W something (Level kind g) clear) (λ rest. closed (read R g rest)) (λ rest. sound_closed (has W g) rest (read R g rest) (sound g parts.1 rest)) tokens
  sound (Both {A = P} {B = V} {C = C} f g h) clear tokens =
      let one = and_parts (is_clear_by_one g) _ clear in
      let two = and_parts (is_clear_by_one h) _ one.1 in
      let s = some W something h two.0 in
      sound_then (has W g) (λ a c m. (b : V) × (c ≡ f a b) × has W h b m) (has W (Both f g h)) (λ a c m n p q. (a, q.0, q.1, (m, n, refl, p, q.2)))
      (λ a. record { value = f a s.value; marks = s.marks; is = (s.value, refl, s.is) }) tokens (read R g tokens) (λ x rest. made (f x) (read R h rest)) (sound g one.0 tokens)
      (λ a rest. sound_made (has W h) (λ c m. (b : V) × (c ≡ f a b) × has W h b m) (f a) (λ b m p. (b, refl, p)) rest (read R h rest) (sound h two.0 rest))
  sound (Depending {A = P} {B = V} {C = C} f g test h k) clear tokens =
      let one = and_parts (is_clear_by_one g) _ clear in
      let two = and_parts (is_clear_by_one h) _ one.1 in
      let three = and_parts (is_clear_by_one k) _ two.1 in
      let s = λ (a : P). some_chosen (test a) (has W h) (has W k) (some W something h two.0) (some W something k three.0) in
      sound_then (has W g) (λ a c m. (b : V) × (c ≡ f a b) × chosen (test a) (has W h) (has W k) b m) (has W (Depending f g test h k)) (λ a c m n p q. (a, q.0, q.1, (m, n, refl, p, q.2)))
      (λ a. record { value = f a (s a).value; marks = (s a).marks; is = ((s a).value, refl, (s a).is) }) tokens (read R g tokens)
      (λ x rest. made (f x) (if test x then read R h rest else read R k rest)) (sound g one.0 tokens)
      (λ a rest. sound_made (chosen (test a) (has W h) (has W k)) (λ c m. (b : V) × (c ≡ f a b) × chosen (test a) (has W h) (has W k) b m) (f a) (λ b m p. (b, refl, p)) rest
      (if test a then read R h rest else read R k rest)
      (sound_chosen (has W h) (has W k) rest (read R h rest) (read R k rest) (test a) (sound h two.0 rest) (sound k three.0 rest)))
  sound (Made f g) clear tokens = sound_made (has W g) (has W (Made f g)) f (λ x m p. (x, refl, p)) tokens (read R g tokens) (sound g clear tokens)
  sound (Choice g h) clear tokens =
      let one = and_parts (is_clear_by_one g) _ clear in
      let two = and_parts (is_clear_by_one h) _ one.1 in
      sound_by (has W g) (has W h) (has W (Choice g h)) tokens (read R g tokens) (read R h tokens) (λ x m p. inl p) (λ x m p. inr p) (head_is (among (first g)) tokens) (sound g one.0 tokens)
      (sound h two.0 tokens)
  sound (Chain g h join) clear tokens =
      let one = and_parts (is_clear_by_one g) _ clear in
      let two = and_parts (is_clear_by_one h) _ one.1 in
      sound_chain (first h) (has W g) (λ value. has W h) (λ value. read R h) join tokens (read R g tokens) (sound g one.0 tokens) (λ value rest. sound h two.0 rest)
  sound (Phased g test h k join) clear tokens =
      let one = and_parts (is_clear_by_one g) _ clear in
      let two = and_parts (is_clear_by_one h) _ one.1 in
      let three = and_parts (is_clear_by_one k) _ two.1 in
      sound_chain (first h ++ first k) (has W g) (λ value. chosen (test value) (has W h) (has W k)) (λ value rest. if test value then read R h rest else read R k rest) join tokens
      (read R g tokens) (sound g one.0 tokens)
      (λ value rest. sound_chosen (has W h) (has W k) rest (read R h rest) (read R k rest) (test value) (sound h two.0 rest) (sound k three.0 rest))
  sound (Within {A} place) clear tokens = placed A place tokens
  sound (Begin g) clear tokens =
      let one = and_parts (is_clear_by_one g) _ clear in
      sound_put (has W g) (has W (Begin g)) (Begins ∷ []) (λ y m p. (m, refl, p)) tokens tokens refl (read R g tokens) (sound g one.0 tokens)
