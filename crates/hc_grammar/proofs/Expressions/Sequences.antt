-- Operators of one precedence after the other, from the tightest on, are operators of which none is tighter than the one
-- before.
use Rattle.std.proofs.Common.{◌≡◌, ◌≢◌, ◌⊎◌, inl, inr, ap, ◌∙◌, ℕ, zero, suc, ◌<◌, ◌≤◌, nat_le, Bool, true, false, List, [], ◌∷◌, length, Ok, Err, refl, sym, subst, arith}
use Rattle.std.specs.Prelude.{if◌then◌else◌}
use Rattle.std.proofs.lemmas.Bool.{leb-true, le-leb, and_parts}
use Rattle.hc_lex.specs.declared.token.TokenKind.{TokenKind}
use Rattle.hc_grammar.specs.Lexemes.{Lexeme}
use Rattle.hc_grammar.specs.Kinds.{among, head_is}
use Rattle.hc_grammar.specs.Runs.{Budget, Run, Runner, and_then, gather}
use Rattle.hc_grammar.specs.Climbing.{is_between}
use Rattle.hc_grammar.proofs.Terminals.Lists.{differ, both_true, false_unless}

-- what is done with an answer may be known for what is answered alone
pub then_same : {A B : Type 0} (r : Run A) (f g : A → Runner B) → ((x : A) (b : Budget) (t : List Lexeme) → r ≡ Ok (x, b, t) → f x b t ≡ g x b t) → and_then r f ≡ and_then r g
then_same (Ok x) f g h = h x.0 x.1 x.2 refl
then_same (Err stop) f g h = refl

pub then_assoc : {A B C : Type 0} (r : Run A) (f : A → Runner B) (g : B → Runner C) → and_then (and_then r f) g ≡ and_then r (λ x b t. and_then (f x b t) g)
then_assoc (Ok x) f g = refl
then_assoc (Err stop) f g = refl

-- one of a list of numbers
abbrev pub IsIn : ℕ → List ℕ → Type 0
IsIn p [] = ⊥
IsIn p (q ∷ qs) = (p ≡ q) ⊎ IsIn p qs

-- each is less than those after it
abbrev pub Ascend : List ℕ → Type 0
Ascend [] = Unit {0}
Ascend (p ∷ ps) = ((q : ℕ) → IsIn q ps → p < q) × Ascend ps

module _ {A T : Type 0} (kinds : ℕ → List TokenKind) (tail : ℕ → Runner T) (join : A → T → A)
    (shorter : (p : ℕ) (b left : Budget) (t rest : List Lexeme) (x : T) → tail p b t ≡ Ok (x, left, rest) → length rest < length t) where
  abbrev pub gather_at : ℕ → ℕ → A → Runner A
  gather_at p n v b t = gather (kinds p) (λ left. tail p) join n v b t

  -- the bound does not matter where it is enough
  gather_same : (p n m : ℕ) (v : A) (b : Budget) (t : List Lexeme) → length t ≤ n → length t ≤ m → gather_at p n v b t ≡ gather_at p m v b t
  gather_same p zero zero v b t h g = refl
  gather_same p zero (suc m) v b [] h g = refl
  gather_same p zero (suc m) v b (x ∷ t) h g = absurd (omega (arith, h))
  gather_same p (suc n) zero v b [] h g = refl
  gather_same p (suc n) zero v b (x ∷ t) h g = absurd (omega (arith, g))
  gather_same p (suc n) (suc m) v b t h g =
      ap (λ r. if head_is (among (kinds p)) t then r else Ok (v, b, t))
      (then_same (tail p b t) (λ x. gather_at p n (join v x)) (λ x. gather_at p m (join v x))
      (λ x left rest e. let s = shorter p b left t rest x e in gather_same p n m (join v x) left rest (omega (arith, s, h)) (omega (arith, s, g))))

  -- operators of these precedences, each after the tighter ones
  unfoldable pub sequence : ℕ → ℕ → List ℕ → A → Runner A
  sequence least most [] v b t = Ok (v, b, t)
  sequence least most (p ∷ ps) v b t =
      if is_between least p most then and_then (sequence least most ps v b t) (λ w left rest. gather_at p (length rest) w left rest) else sequence least most ps v b t

  gather_none : (p n : ℕ) (v : A) (b : Budget) (t : List Lexeme) → head_is (among (kinds p)) t ≡ false → gather_at p n v b t ≡ Ok (v, b, t)
  gather_none p zero v b t h = refl
  gather_none p (suc n) v b t h = ap (λ c. if c then and_then (tail p b t) (λ x. gather_at p n (join v x)) else Ok (v, b, t)) h

  -- `next` says of which precedence the next operator is, and 0 where none of `all` is next
  module _ (next : List Lexeme → ℕ) (all : List ℕ) (hit : (p : ℕ) (t : List Lexeme) → IsIn p all → head_is (among (kinds p)) t ≡ true → next t ≡ p)
      (here : (p : ℕ) (t : List Lexeme) → IsIn p all → next t ≡ p → head_is (among (kinds p)) t ≡ true) where
    -- where no operator of these precedences is next, none is read
    nothing_read : (least most : ℕ) (ps : List ℕ) (v : A) (b : Budget) (t : List Lexeme) → ((p : ℕ) → IsIn p ps → IsIn p all) → ((p : ℕ) → IsIn p ps → is_between least p most ≡ true → next t ≢ p)
        → sequence least most ps v b t ≡ Ok (v, b, t)
    unfolding sequence
    nothing_read least most [] v b t sub none = refl
    nothing_read least most (p ∷ ps) v b t sub none =
        by (is_between least p most) refl (nothing_read least most ps v b t (λ q i. sub q (inr i)) (λ q i. none q (inr i)))
      where
        by : (test : Bool) → is_between least p most ≡ test → sequence least most ps v b t ≡ Ok (v, b, t)
            → (if test then and_then (sequence least most ps v b t) (λ w left rest. gather_at p (length rest) w left rest) else sequence least most ps v b t) ≡ Ok (v, b, t)
        by true e ih =
            ap (λ r. and_then r (λ w left rest. gather_at p (length rest) w left rest)) ih
            ∙ gather_none p (length t) v b t (false_unless (head_is (among (kinds p)) t) (λ h. none p (inl refl) e (hit p t (sub p (inl refl)) h)))
        by false e ih = ih

    between_parts : (least p most : ℕ) → is_between least p most ≡ true → (least ≤ p) × (p ≤ most)
    between_parts least p most h = let s = and_parts (nat_le least p) (nat_le p most) h in (leb-true least p s.0, leb-true p most s.1)

    between_is : (least p most : ℕ) → least ≤ p → p ≤ most → is_between least p most ≡ true
    between_is least p most h g = both_true (le-leb least p h) (le-leb p most g)

    same_test : (a b : Bool) → (a ≡ true → b ≡ true) → (b ≡ true → a ≡ true) → a ≡ b
    same_test true b h g = sym (h refl)
    same_test false true h g = g refl
    same_test false false h g = refl

    -- the loosest of some precedences
    after_one : ℕ → A → Runner A
    after_one p w left rest = gather_at p (length rest) w left rest

    with_first : (least most p : ℕ) (ps : List ℕ) (v : A) (b : Budget) (t : List Lexeme) → is_between least p most ≡ true
        → sequence least most (p ∷ ps) v b t ≡ and_then (sequence least most ps v b t) (after_one p)
    unfolding sequence after_one
    with_first least most p ps v b t h = ap (λ c. if c then and_then (sequence least most ps v b t) (after_one p) else sequence least most ps v b t) h

    without_first : (least most p : ℕ) (ps : List ℕ) (v : A) (b : Budget) (t : List Lexeme) → is_between least p most ≡ false → sequence least most (p ∷ ps) v b t ≡ sequence least most ps v b t
    unfolding sequence after_one
    without_first least most p ps v b t h = ap (λ c. if c then and_then (sequence least most ps v b t) (after_one p) else sequence least most ps v b t) h

    -- one of the precedence is next
    this_gathered : (p : ℕ) (v : A) (b : Budget) (t : List Lexeme) → IsIn p all → next t ≡ p
        → gather_at p (length t) v b t ≡ and_then (tail p b t) (λ x left rest. gather_at p (length rest) (join v x) left rest)
    this_gathered p v b [] i e = absurd (let bad = here p [] i e in cc)
    this_gathered p v b (l ∷ t) i e =
        ap (λ c. if c then and_then (tail p b (l ∷ t)) (λ x. gather_at p (length t) (join v x)) else Ok (v, b, l ∷ t)) (here p (l ∷ t) i e)
        ∙ then_same (tail p b (l ∷ t)) (λ x. gather_at p (length t) (join v x)) (λ x left rest. gather_at p (length rest) (join v x) left rest)
        (λ x left rest f. let s = shorter p b left (l ∷ t) rest x f in gather_same p (length t) (length rest) (join v x) left rest (omega (arith, s)) (omega arith))

    -- of those that are not tighter than the loosest it is the only one
    only_one : (least p : ℕ) (ps : List ℕ) (w : A) (left : Budget) (rest : List Lexeme) → ((q : ℕ) → IsIn q ps → p < q) → ((q : ℕ) → IsIn q (p ∷ ps) → IsIn q all) → least ≤ p
        → sequence least p (p ∷ ps) w left rest ≡ gather_at p (length rest) w left rest
    unfolding sequence after_one
    only_one least p ps w left rest above sub low =
        with_first least p p ps w left rest (between_is least p p low (omega arith))
        ∙ ap (λ r. and_then r (after_one p)) (nothing_read least p ps w left rest (λ q i. sub q (inr i)) (λ q i h. absurd (omega (arith, (between_parts least q p h).1, above q i))))

    -- where one is next, it is read, and then those that are not tighter
    one_read : (least most p0 : ℕ) (ps : List ℕ) (v : A) (b : Budget) (t : List Lexeme) → Ascend ps → ((p : ℕ) → IsIn p ps → IsIn p all) → next t ≡ p0 → IsIn p0 ps → is_between least p0 most ≡ true
        → sequence least most ps v b t ≡ and_then (tail p0 b t) (λ x. sequence least p0 ps (join v x))
    unfolding sequence after_one
    one_read least most p0 [] v b t up sub e i between = absurd i
    one_read least most p0 (p ∷ ps) v b t up sub e (inl same) between =
        let low = (between_parts least p0 most between).0 in
        let is : next t ≡ p = e ∙ same in
        with_first least most p ps v b t (subst (λ n. is_between least n most ≡ true) same between)
        ∙ ap (λ r. and_then r (after_one p)) (nothing_read least most ps v b t (λ q j. sub q (inr j)) (λ q j h f. absurd (omega (arith, up.0 q j, ap (λ n. n) (sym f ∙ is)))))
        ∙ this_gathered p v b t (sub p (inl refl)) is
        ∙ then_same (tail p b t) (λ x left rest. gather_at p (length rest) (join v x) left rest) (λ x. sequence least p (p ∷ ps) (join v x))
        (λ x left rest f. sym (only_one least p ps (join v x) left rest up.0 sub (subst (λ n. least ≤ n) same low)))
        ∙ ap (λ n. and_then (tail n b t) (λ x. sequence least n (p ∷ ps) (join v x))) (sym same)
    one_read least most p0 (p ∷ ps) v b t up sub e (inr i) between = by (is_between least p most) refl (one_read least most p0 ps v b t up.1 (λ q j. sub q (inr j)) e i between)
      where
        parts : (least ≤ p0) × (p0 ≤ most)
        parts = between_parts least p0 most between

        by : (test : Bool) → is_between least p most ≡ test → sequence least most ps v b t ≡ and_then (tail p0 b t) (λ x. sequence least p0 ps (join v x))
            → sequence least most (p ∷ ps) v b t ≡ and_then (tail p0 b t) (λ x. sequence least p0 (p ∷ ps) (join v x))
        by true h ih =
            let low : is_between least p p0 ≡ true = between_is least p p0 (between_parts least p most h).0 (omega (arith, up.0 p0 i)) in
            with_first least most p ps v b t h ∙ ap (λ r. and_then r (after_one p)) ih ∙ then_assoc (tail p0 b t) (λ x. sequence least p0 ps (join v x)) (after_one p)
            ∙ then_same (tail p0 b t) (λ x left rest. and_then (sequence least p0 ps (join v x) left rest) (after_one p)) (λ x. sequence least p0 (p ∷ ps) (join v x))
            (λ x left rest f. sym (with_first least p0 p ps (join v x) left rest low))
        by false h ih =
            let high : is_between least p p0 ≡ false =
            false_unless (is_between least p p0) (λ g. differ (is_between least p most) (between_is least p most (between_parts least p p0 g).0 (omega (arith, up.0 p0 i, parts.1))) h) in
            without_first least most p ps v b t h ∙ ih
            ∙ then_same (tail p0 b t) (λ x. sequence least p0 ps (join v x)) (λ x. sequence least p0 (p ∷ ps) (join v x))
            (λ x left rest f. sym (without_first least p0 p ps (join v x) left rest high))

    abbrev pub climb_by : ℕ → ℕ → ℕ → A → Runner A
    climb_by least zero most v b t = Ok (v, b, t)
    climb_by least (suc n) most v b t =
        if is_between least (next t) most then and_then (tail (next t) b t) (λ x. climb_by least n (next t) (join v x)) else Ok (v, b, t)

    -- the next one, of a precedence at most that of the one before, is what the sequence reads
    pub climbs : Ascend all → (known : (t : List Lexeme) → (next t ≡ 0) ⊎ IsIn (next t) all) → next [] ≡ 0 → ((p : ℕ) → IsIn p all → p ≢ 0) → (least : ℕ) → 1 ≤ least
        → (n most : ℕ) (v : A) (b : Budget) (t : List Lexeme) → length t ≤ n → climb_by least n most v b t ≡ sequence least most all v b t
    climbs up known none filled least low zero most v b [] fits =
        sym (nothing_read least most all v b [] (λ q i. i) (λ q i h e. filled q i (sym e ∙ none)))
    climbs up known none filled least low zero most v b (l ∷ t) fits = absurd (omega (arith, fits))
    climbs up known none filled least low (suc n) most v b t fits =
        by (is_between least (next t) most) refl (known t) (λ x left rest f.
        let s = shorter (next t) b left t rest x f in climbs up known none filled least low n (next t) (join v x) left rest (omega (arith, s, fits)))
      where
        by : (test : Bool) → is_between least (next t) most ≡ test → (next t ≡ 0) ⊎ IsIn (next t) all
            → ((x : T) (left : Budget) (rest : List Lexeme) → tail (next t) b t ≡ Ok (x, left, rest) → climb_by least n (next t) (join v x) left rest ≡ sequence least (next t) all (join v x) left rest)
            → (if test then and_then (tail (next t) b t) (λ x. climb_by least n (next t) (join v x)) else Ok (v, b, t)) ≡ sequence least most all v b t
        by true h (inl zero_next) ih = absurd (omega (arith, (between_parts least (next t) most h).0, zero_next, low))
        by true h (inr i) ih =
            then_same (tail (next t) b t) (λ x. climb_by least n (next t) (join v x)) (λ x. sequence least (next t) all (join v x)) ih
            ∙ sym (one_read least most (next t) all v b t up (λ q j. j) refl i h)
        by false h k ih =
            sym (nothing_read least most all v b t (λ q i. i) (λ q i g e. differ (is_between least q most) g (ap (λ m. is_between least m most) (sym e) ∙ h)))
