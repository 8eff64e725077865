-- Precedence climbing reads the same trees as the grammar's precedences.
use Rattle.std.proofs.Common.{Result, ◌≡◌, ◌≢◌, ◌⊎◌, inl, inr, ⊎_elim, ap, ◌∙◌, ℕ, zero, suc, ◌-◌, ◌<◌, ◌≤◌, ◌&&◌, Bool, true, false, List, [], ◌∷◌, ◌++◌, length, Ok, Err, refl, sym, subst, arith, length-append}
use Rattle.std.specs.Prelude.{if◌then◌else◌, nat_lt}
use Rattle.std.proofs.lemmas.Bool.{and_parts, ltb-true}
use Rattle.std.proofs.lemmas.Bool.Decides.{nat_tests}
use Rattle.hc_lex.specs.declared.token.TokenKind.{TokenKind}
use Rattle.hc_lex.specs.declared.token.TokenKind.TheVariants as kind
use Rattle.hc_lex.specs.declared.keyword.Keyword.TheVariants as word
use Rattle.hc_ast.specs.declared.expression.Expr.{Expr}
use Rattle.hc_grammar.specs.Lexemes.{Lexeme}
use Rattle.hc_grammar.specs.Kinds.{is, among, head_is, Starts}
use Rattle.hc_grammar.specs.Marks.{Mark, Limits, limits, lexemes}
use Rattle.hc_grammar.specs.Grammar.{Grammar}
use Rattle.hc_grammar.specs.First.{first, nullable, apart, is_clear_by_one}
use Rattle.hc_grammar.specs.Reads.{Read, read}
use Rattle.hc_grammar.specs.Has.{has}
use Rattle.hc_grammar.specs.Runs.{Budget, Run, Runner, Stop, Unexpected, and_then, chain}
use Rattle.hc_grammar.specs.Expressions.{Tail, Precedence, Conjunction, Order, Sum, Product, Concatenation, applied, tail_of, grouped, tight, loose, unary, negated}
use Rattle.hc_grammar.specs.Places.{placed, Placed, run_of}
use Rattle.hc_grammar.specs.Climbing.{operators_from, tail_at, precedences, precedence_among, next_precedence, is_between, climb, climbed, negation, begins_negation}
use Rattle.hc_grammar.proofs.Terminals.Lists.{apart_to, among_one}
use Rattle.hc_grammar.proofs.Meanings.Marks.{starts_lexeme}
use Rattle.hc_grammar.proofs.Meanings.Begins.{begins, begun}
use Rattle.hc_grammar.proofs.Meanings.Sound.{IsSound, sound}
use Rattle.hc_grammar.proofs.Meanings.Spending.{spend}
use Rattle.hc_grammar.proofs.Meanings.Limited.{room, cut, cut_at, budget_of}
use Rattle.hc_grammar.proofs.Places.Asked.{placed_begins, placed_some, placed_sound, runs}
use Rattle.hc_grammar.proofs.Expressions.Sequences.{IsIn, Ascend, then_same, sequence, climbs}

abbrev following_of : {A : Type 0} → List Lexeme → Run A → List Lexeme
following_of other (Ok x) = x.2
following_of other (Err stop) = other

-- what is left within limits is what is left
cut_rest : {A : Type 0} (s : Result Limits (List Mark)) (x y : A) (left : Budget) (rest following : List Lexeme)
    → (let r : Run A = cut_at s following (λ l. Ok (y, budget_of l, following)) in r ≡ Ok (x, left, rest)) → rest ≡ following
cut_rest (Ok l) x y left rest following e = sym (ap (following_of rest) e)
cut_rest (Err over) x y left rest following e = absurd (cc)

cut_stop : {A : Type 0} (s : Result Limits (List Mark)) (x : A) (left : Budget) (rest following : List Lexeme)
    → (let r : Run A = cut_at s following (λ l. Err (Unexpected, following)) in r ≡ Ok (x, left, rest)) → ⊥
cut_stop (Ok l) x left rest following e = cc
cut_stop (Err over) x left rest following e = cc

-- what is read takes a lexeme
pub run_shorter : {A : Type 0} (g : Grammar A) → is_clear_by_one g ≡ true → nullable g ≡ false → (levels : ℕ) (b left : Budget) (t rest : List Lexeme) (x : A)
    → run_of levels g b t ≡ Ok (x, left, rest) → length rest < length t
run_shorter {A} g clear filled levels b left t rest x e =
    by (read (placed (suc levels)) g t) (sound (Placed (suc (suc levels))) (placed (suc levels)) (placed_some (suc levels)) (placed_sound (suc levels)) g clear t)
    (sym (runs limits (suc levels) g clear levels (omega arith) b t) ∙ e)
  where
    shorter : (marks : List Mark) (following : List Lexeme) → Starts (first g) (lexemes marks) → t ≡ lexemes marks ++ following → rest ≡ following → length rest < length t
    shorter marks following s is same =
        let l = starts_lexeme (first g) (lexemes marks) s in
        omega (arith, ap length is, ap length l.is, ap length same, length-append (lexemes marks) following)

    by : (r : Read A) → IsSound (has (Placed (suc (suc levels))) g) t r → cut limits (room levels b) r ≡ Ok (x, left, rest) → length rest < length t
    by (Ok y) s e =
        shorter y.1 y.2 (begun (first g) (nullable g) y.1 filled (begins (Placed (suc (suc levels))) (placed_begins (suc (suc levels))) g y.0 y.1 clear s.1)) s.0
        (cut_rest (spend limits (room levels b) y.1) x y.0 left rest y.2 e)
    by (Err stop) s e = absurd (cut_stop (spend limits (room levels b) stop.0) x left rest stop.1 e)

-- each operator's first kinds
abbrev kinds_at : ℕ → List TokenKind
kinds_at p = first (tail_at p)

-- no kind begins operators of two precedences
abbrev all_apart : ℕ → List ℕ → Bool
all_apart p [] = true
all_apart p (q ∷ qs) = apart (kinds_at p) (kinds_at q) && all_apart p qs

abbrev are_apart : List ℕ → Bool
are_apart [] = true
are_apart (p ∷ ps) = all_apart p ps && are_apart ps

other_kind : (p q : ℕ) (qs : List ℕ) (t : List Lexeme) → all_apart p qs ≡ true → IsIn q qs → head_is (among (kinds_at q)) t ≡ true → head_is (among (kinds_at p)) t ≡ false
other_kind p q [] t h i e = absurd i
other_kind p q (r ∷ qs) [] h i e = refl
other_kind p q (r ∷ qs) (l ∷ t) h (inl same) e =
    let parts = and_parts (apart (kinds_at p) (kinds_at r)) (all_apart p qs) h in
    apart_to (kinds_at p) (kinds_at r) l parts.0 (subst (λ n. among (kinds_at n) l ≡ true) same e)
other_kind p q (r ∷ qs) (l ∷ t) h (inr i) e =
    let parts = and_parts (apart (kinds_at p) (kinds_at r)) (all_apart p qs) h in other_kind p q qs (l ∷ t) parts.1 i e

-- the precedence whose operators begin so is found
hit : (ps : List ℕ) (p : ℕ) (t : List Lexeme) → are_apart ps ≡ true → IsIn p ps → head_is (among (kinds_at p)) t ≡ true → precedence_among ps t ≡ p
hit [] p t h i e = absurd i
hit (q ∷ ps) p t h (inl same) e = ap (λ b. if b then q else precedence_among ps t) (subst (λ n. head_is (among (kinds_at n)) t ≡ true) same e) ∙ sym same
hit (q ∷ ps) p t h (inr i) e =
    let parts = and_parts (all_apart q ps) (are_apart ps) h in
    ap (λ b. if b then q else precedence_among ps t) (other_kind q p ps t parts.0 i e) ∙ hit ps p t parts.1 i e

-- the one that is found begins so
found : (ps : List ℕ) (t : List Lexeme) → (precedence_among ps t ≡ 0) ⊎ (IsIn (precedence_among ps t) ps × (head_is (among (kinds_at (precedence_among ps t))) t ≡ true))
found [] t = inl refl
found (p ∷ ps) t = by (head_is (among (kinds_at p)) t) refl (found ps t)
  where
    IsFound : ℕ → Type 0
    IsFound n = (n ≡ 0) ⊎ (IsIn n (p ∷ ps) × (head_is (among (kinds_at n)) t ≡ true))

    by : (test : Bool) → head_is (among (kinds_at p)) t ≡ test → (precedence_among ps t ≡ 0) ⊎ (IsIn (precedence_among ps t) ps × (head_is (among (kinds_at (precedence_among ps t))) t ≡ true))
        → (let n : ℕ = if test then p else precedence_among ps t in (n ≡ 0) ⊎ (IsIn n (p ∷ ps) × (head_is (among (kinds_at n)) t ≡ true)))
    by true e f = inr (inl refl, e)
    by false e (inl z) = inl z
    by false e (inr h) = inr (inr h.0, h.1)

abbrev all_above : ℕ → List ℕ → Bool
all_above p [] = true
all_above p (q ∷ qs) = nat_lt p q && all_above p qs

-- each of these is more than a number
above : (p q : ℕ) (qs : List ℕ) → all_above p qs ≡ true → IsIn q qs → p < q
above p q [] h i = absurd i
above p q (r ∷ qs) h (inl same) = let parts = and_parts (nat_lt p r) (all_above p qs) h in omega (arith, ltb-true p r parts.0, same)
above p q (r ∷ qs) h (inr i) = let parts = and_parts (nat_lt p r) (all_above p qs) h in above p q qs parts.1 i

filled : (p : ℕ) → IsIn p precedences → p ≢ 0
filled p (inl e) z = omega (arith, e, z)
filled p (inr (inl e)) z = omega (arith, e, z)
filled p (inr (inr (inl e))) z = omega (arith, e, z)
filled p (inr (inr (inr (inl e)))) z = omega (arith, e, z)
filled p (inr (inr (inr (inr (inl e))))) z = omega (arith, e, z)
filled p (inr (inr (inr (inr (inr (inl e)))))) z = omega (arith, e, z)
filled p (inr (inr (inr (inr (inr (inr (inl e))))))) z = omega (arith, e, z)
filled p (inr (inr (inr (inr (inr (inr (inr i))))))) z = absurd i

-- a tail takes a lexeme
tail_clear : (p : ℕ) → is_clear_by_one (tail_at p) ≡ true
tail_clear zero = refl
tail_clear (suc zero) = refl
tail_clear (suc (suc zero)) = refl
tail_clear (suc (suc (suc zero))) = refl
tail_clear (suc (suc (suc (suc zero)))) = refl
tail_clear (suc (suc (suc (suc (suc zero))))) = refl
tail_clear (suc (suc (suc (suc (suc (suc zero)))))) = refl
tail_clear (suc (suc (suc (suc (suc (suc (suc zero))))))) = refl
tail_clear (suc (suc (suc (suc (suc (suc (suc (suc n)))))))) = refl

tail_filled : (p : ℕ) → nullable (tail_at p) ≡ false
tail_filled zero = refl
tail_filled (suc zero) = refl
tail_filled (suc (suc zero)) = refl
tail_filled (suc (suc (suc zero))) = refl
tail_filled (suc (suc (suc (suc zero)))) = refl
tail_filled (suc (suc (suc (suc (suc zero))))) = refl
tail_filled (suc (suc (suc (suc (suc (suc zero)))))) = refl
tail_filled (suc (suc (suc (suc (suc (suc (suc zero))))))) = refl
tail_filled (suc (suc (suc (suc (suc (suc (suc (suc n)))))))) = refl

ascend : Ascend precedences
ascend = (
  λ q i. above 1 q (2 ∷ 4 ∷ 5 ∷ 6 ∷ 7 ∷ 8 ∷ []) refl i,
  (
    λ q i. above 2 q (4 ∷ 5 ∷ 6 ∷ 7 ∷ 8 ∷ []) refl i,
    (
      λ q i. above 4 q (5 ∷ 6 ∷ 7 ∷ 8 ∷ []) refl i,
      (
        λ q i. above 5 q (6 ∷ 7 ∷ 8 ∷ []) refl i,
        (
          λ q i. above 6 q (7 ∷ 8 ∷ []) refl i,
          (
            λ q i. above 7 q (8 ∷ []) refl i,
            (λ q i. absurd i, tt {0}),
          ),
        ),
      ),
    ),
  ),
)

module _ (levels : ℕ) where
  -- the operators of all precedences between two, each after the tighter ones
  abbrev tails : ℕ → ℕ → Expr → Runner Expr
  tails least most =
      sequence kinds_at (λ p. run_of levels (tail_at p)) applied (λ p b left t rest x. run_shorter (tail_at p) (tail_clear p) (tail_filled p) levels b left t rest x) least most precedences

  climb_is : (least : ℕ) → 1 ≤ least → (n most : ℕ) (v : Expr) (b : Budget) (t : List Lexeme) → length t ≤ n → climb levels least n most v b t ≡ tails least most v b t
  climb_is least low n most v b t fits =
      climbs kinds_at (λ p. run_of levels (tail_at p)) applied (λ p b left t rest x. run_shorter (tail_at p) (tail_clear p) (tail_filled p) levels b left t rest x)
      next_precedence precedences (λ p t i e. hit precedences p t refl i e) begins_so ascend known refl filled least low n most v b t fits
    where
      begins_so : (p : ℕ) (t : List Lexeme) → IsIn p precedences → next_precedence t ≡ p → head_is (among (kinds_at p)) t ≡ true
      begins_so p t i e =
          ⊎_elim (λ z. absurd (filled p i (sym e ∙ z))) (λ h. subst (λ q. head_is (among (kinds_at q)) t ≡ true) e h.1) (found precedences t)

      known : (t : List Lexeme) → (next_precedence t ≡ 0) ⊎ IsIn (next_precedence t) precedences
      known t = ⊎_elim (λ z. inl z) (λ h. inr h.0) (found precedences t)

  -- what is read of operators after a first operand
  abbrev run_grouped : List Precedence → Grammar Expr → Run Expr → Run Expr
  run_grouped [] operand r = r
  run_grouped (p ∷ ps) operand r = chain (run_grouped ps operand r) (first (tail_of p (grouped ps operand))) (λ value. run_of levels (tail_of p (grouped ps operand))) applied

  grouped_is : (ps : List Precedence) (operand : Grammar Expr) (b : Budget) (t : List Lexeme) → run_of levels (grouped ps operand) b t ≡ run_grouped ps operand (run_of levels operand b t)
  grouped_is [] operand b t = refl
  grouped_is (p ∷ ps) operand b t =
      ap (λ r. chain r (first (tail_of p (grouped ps operand))) (λ value. run_of levels (tail_of p (grouped ps operand))) applied) (grouped_is ps operand b t)

  -- each precedence after an operand
  four : (r : Run Expr) → run_grouped tight unary r ≡ and_then r (tails 4 8)
  unfolding sequence
  four (Ok x) = refl
  four (Err stop) = refl

  five : (r : Run Expr) → run_grouped (Order ∷ Sum ∷ Product ∷ Concatenation ∷ []) unary r ≡ and_then r (tails 5 8)
  unfolding sequence
  five (Ok x) = refl
  five (Err stop) = refl

  six : (r : Run Expr) → run_grouped (Sum ∷ Product ∷ Concatenation ∷ []) unary r ≡ and_then r (tails 6 8)
  unfolding sequence
  six (Ok x) = refl
  six (Err stop) = refl

  seven : (r : Run Expr) → run_grouped (Product ∷ Concatenation ∷ []) unary r ≡ and_then r (tails 7 8)
  unfolding sequence
  seven (Ok x) = refl
  seven (Err stop) = refl

  eight : (r : Run Expr) → run_grouped (Concatenation ∷ []) unary r ≡ and_then r (tails 8 8)
  unfolding sequence
  eight (Ok x) = refl
  eight (Err stop) = refl

  nine : (r : Run Expr) → r ≡ and_then r (tails 9 8)
  unfolding sequence
  nine (Ok x) = refl
  nine (Err stop) = refl

  -- NOT with its operand, or an operand without it, and what follows
  one_after : (r : Run Expr) → run_grouped loose negated r ≡ and_then r (tails 1 2)
  unfolding sequence
  one_after (Ok x) = refl
  one_after (Err stop) = refl

  one : (r : Run Expr) → run_grouped loose negated (run_grouped tight unary r) ≡ and_then r (tails 1 8)
  unfolding sequence
  one (Ok x) = refl
  one (Err stop) = refl

  two_after : (r : Run Expr) → run_grouped (Conjunction ∷ []) negated r ≡ and_then r (tails 2 2)
  unfolding sequence
  two_after (Ok x) = refl
  two_after (Err stop) = refl

  two : (r : Run Expr) → run_grouped (Conjunction ∷ []) negated (run_grouped tight unary r) ≡ and_then r (tails 2 8)
  unfolding sequence
  two (Ok x) = refl
  two (Err stop) = refl

  three_after : (r : Run Expr) → r ≡ and_then r (tails 3 2)
  unfolding sequence
  three_after (Ok x) = refl
  three_after (Err stop) = refl

  three : (r : Run Expr) → run_grouped tight unary r ≡ and_then r (tails 3 8)
  unfolding sequence
  three (Ok x) = refl
  three (Err stop) = refl

  -- an operand, and the operators of all precedences after it
  abbrev followed : ℕ → Runner Expr
  followed least b t =
      if begins_negation least t then and_then (run_of levels negation b t) (tails least 2) else and_then (run_of levels unary b t) (tails least 8)

  abbrev not_next : List Lexeme → Bool
  not_next t = head_is (is (kind.Keyword word.Not)) t

  negated_is : (b : Budget) (t : List Lexeme) → run_of levels negated b t ≡ (if not_next t then run_of levels negation b t else run_grouped tight unary (run_of levels unary b t))
  negated_is b t = ap (λ c. if c then run_of levels negation b t else run_of levels (grouped tight unary) b t) (among_one (kind.Keyword word.Not) t) ∙ ap (λ r. if not_next t then run_of levels negation b t else r) (grouped_is tight unary b t)

  by_not : (least : ℕ) (f : Run Expr → Run Expr) (b : Budget) (t : List Lexeme) (test : Bool)
      → f (run_of levels negation b t) ≡ and_then (run_of levels negation b t) (tails least 2)
      → f (run_grouped tight unary (run_of levels unary b t)) ≡ and_then (run_of levels unary b t) (tails least 8)
      → f (if test then run_of levels negation b t else run_grouped tight unary (run_of levels unary b t))
      ≡ (if test then and_then (run_of levels negation b t) (tails least 2) else and_then (run_of levels unary b t) (tails least 8))
  by_not least f b t true h g = h
  by_not least f b t false h g = g

  followed_is : (least : ℕ) → 1 ≤ least → least ≤ 9 → (b : Budget) (t : List Lexeme) → run_of levels (operators_from least) b t ≡ followed least b t
  followed_is zero low high b t = absurd (omega (arith, low))
  followed_is (suc zero) low high b t =
      grouped_is loose negated b t ∙ ap (run_grouped loose negated) (negated_is b t)
      ∙ by_not 1 (run_grouped loose negated) b t (not_next t) (one_after (run_of levels negation b t)) (one (run_of levels unary b t))
  followed_is (suc (suc zero)) low high b t =
      grouped_is (Conjunction ∷ []) negated b t ∙ ap (run_grouped (Conjunction ∷ []) negated) (negated_is b t)
      ∙ by_not 2 (run_grouped (Conjunction ∷ []) negated) b t (not_next t) (two_after (run_of levels negation b t)) (two (run_of levels unary b t))
  followed_is (suc (suc (suc zero))) low high b t =
      negated_is b t ∙ by_not 3 (λ r. r) b t (not_next t) (three_after (run_of levels negation b t)) (three (run_of levels unary b t))
  followed_is (suc (suc (suc (suc zero)))) low high b t = grouped_is tight unary b t ∙ four (run_of levels unary b t)
  followed_is (suc (suc (suc (suc (suc zero))))) low high b t = grouped_is (Order ∷ Sum ∷ Product ∷ Concatenation ∷ []) unary b t ∙ five (run_of levels unary b t)
  followed_is (suc (suc (suc (suc (suc (suc zero)))))) low high b t = grouped_is (Sum ∷ Product ∷ Concatenation ∷ []) unary b t ∙ six (run_of levels unary b t)
  followed_is (suc (suc (suc (suc (suc (suc (suc zero))))))) low high b t = grouped_is (Product ∷ Concatenation ∷ []) unary b t ∙ seven (run_of levels unary b t)
  followed_is (suc (suc (suc (suc (suc (suc (suc (suc zero)))))))) low high b t = grouped_is (Concatenation ∷ []) unary b t ∙ eight (run_of levels unary b t)
  followed_is (suc (suc (suc (suc (suc (suc (suc (suc (suc zero))))))))) low high b t = nine (run_of levels unary b t)
  followed_is (suc (suc (suc (suc (suc (suc (suc (suc (suc (suc n)))))))))) low high b t = absurd (omega (arith, high))

  -- one operator is read, and then those that are no tighter
  pub climb_on : (least : ℕ) → 1 ≤ least → (p most : ℕ) (v : Expr) (tail : Tail) (b c : Budget) (t u : List Lexeme) → next_precedence t ≡ p → is_between least p most ≡ true
      → run_of levels (tail_at p) b t ≡ Ok (tail, c, u) → climb levels least (length t) most v b t ≡ climb levels least (length u) p (applied v tail) c u
  climb_on least low p most v tail b c t u next is e =
      let shorter : length u < length t = run_shorter (tail_at p) (tail_clear p) (tail_filled p) levels b c t u tail e in
      let some : length t ≡ suc (length t - 1) = omega arith in
      ap (λ n. climb levels least n most v b t) some
      ∙ ap (λ q. step q) next
      ∙ ap (λ test. if test then and_then (run_of levels (tail_at p) b t) (λ after. climb levels least (length t - 1) p (applied v after)) else Ok (v, b, t)) is
      ∙ ap (λ r. and_then r (λ after. climb levels least (length t - 1) p (applied v after))) e
      ∙ climb_is least low (length t - 1) p (applied v tail) c u (omega arith)
      ∙ sym (climb_is least low (length u) p (applied v tail) c u (omega arith))
    where
      step : ℕ → Run Expr
      step q =
          if is_between least q most
          then and_then (run_of levels (tail_at q) b t) (λ after. climb levels least (length t - 1) q (applied v after))
          else Ok (v, b, t)

  -- an operator that is at fault is so for the whole
  pub climb_stops : (least : ℕ) → 1 ≤ least → (p most : ℕ) (v : Expr) (b : Budget) (t : List Lexeme) (stop : Stop × List Lexeme) → next_precedence t ≡ p → is_between least p most ≡ true
      → run_of levels (tail_at p) b t ≡ Err stop → climb levels least (length t) most v b t ≡ Err stop
  climb_stops least low p most v b [] stop next is e = let high : least ≤ p = grind (arith, nat_tests, is) in absurd (omega (arith, low, high, next))
  climb_stops least low p most v b (first ∷ rest) stop next is e =
      ap (λ q. step q) next
      ∙ ap (λ test. if test then and_then (run_of levels (tail_at p) b (first ∷ rest)) (λ after. climb levels least (length rest) p (applied v after)) else Ok (v, b, first ∷ rest)) is
      ∙ ap (λ r. and_then r (λ after. climb levels least (length rest) p (applied v after))) e
    where
      step : ℕ → Run Expr
      step q =
          if is_between least q most
          then and_then (run_of levels (tail_at q) b (first ∷ rest)) (λ after. climb levels least (length rest) q (applied v after))
          else Ok (v, b, first ∷ rest)

  -- precedence climbing reads what the grammar's precedences read
  pub climbed_is : (least : ℕ) → 1 ≤ least → least ≤ 9 → (b : Budget) (t : List Lexeme) → run_of levels (operators_from least) b t ≡ climbed levels least b t
  climbed_is least low high b t =
      followed_is least low high b t
      ∙ by_both (begins_negation least t)
      (then_same (run_of levels negation b t) (tails least 2) (λ left more rest. climb levels least (length rest) 2 left more rest)
      (λ x left rest e. sym (climb_is least low (length rest) 2 x left rest (omega arith))))
      (then_same (run_of levels unary b t) (tails least 8) (λ left more rest. climb levels least (length rest) 8 left more rest)
      (λ x left rest e. sym (climb_is least low (length rest) 8 x left rest (omega arith))))
    where
      by_both : (test : Bool) {r s u v : Run Expr} → r ≡ s → u ≡ v → (if test then r else u) ≡ (if test then s else v)
      by_both true h g = h
      by_both false h g = g
