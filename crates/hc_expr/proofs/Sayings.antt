-- The test for LIKE is what LIKE says.
use Rattle.std.proofs.Common.{ℕ, List, [], ◌∷◌, ◌++◌, ◌≡◌, ◌⊎◌, inl, inr, Bool, true, false, nat_eq, refl, sym, ap, subst}
use Rattle.std.specs.Prelude.{if◌then◌else◌}
use Rattle.std.proofs.lemmas.Bool.{and_parts, or_cases, or_left, or_right, and_from, eqb-true, eq-eqb, false≢true}
use Rattle.std.specs.Bool.{MatchBool}
use Rattle.hc_expr.specs.Like.{is_like, some_rest, first_and_rest, passes, lower}
use Rattle.hc_expr.specs.Laws.{IsLike}

-- a rest that is good comes after some characters
some_split : (is_good : List ℕ → Bool) (text : List ℕ) → some_rest is_good text ≡ true → (any : List ℕ) × (rest : List ℕ) × (text ≡ any ++ rest) × (is_good rest ≡ true)
some_split is_good [] h = ([], [], refl, h)
some_split is_good (c ∷ text) h = elim (or_cases (is_good (c ∷ text)) (some_rest is_good text) h) [
  | inl now ↦ ([], c ∷ text, refl, now)
  | inr later ↦ let s = some_split is_good text later in (c ∷ s.0, s.1, ap (λ t. c ∷ t) s.2, s.3)
]

from_split : (is_good : List ℕ → Bool) (any rest : List ℕ) → is_good rest ≡ true → some_rest is_good (any ++ rest) ≡ true
from_split is_good [] [] h = h
from_split is_good [] (c ∷ rest) h = or_left (is_good (c ∷ rest)) (some_rest is_good rest) h
from_split is_good (c ∷ any) rest h = or_right (is_good (c ∷ any ++ rest)) (some_rest is_good (any ++ rest)) (from_split is_good any rest h)

-- a first character that passes
passing : (p c : ℕ) → passes p c ≡ true → (p ≡ 95) ⊎ (lower p ≡ lower c)
passing p c h = elim (or_cases (nat_eq p 95) (nat_eq (lower p) (lower c)) h) [
  | inl one ↦ inl (eqb-true p 95 one)
  | inr same ↦ inr (eqb-true (lower p) (lower c) same)
]

from_passing : (p c : ℕ) → (p ≡ 95) ⊎ (lower p ≡ lower c) → passes p c ≡ true
from_passing p c (inl one) = or_left (nat_eq p 95) (nat_eq (lower p) (lower c)) (eq-eqb p 95 one)
from_passing p c (inr same) = or_right (nat_eq p 95) (nat_eq (lower p) (lower c)) (eq-eqb (lower p) (lower c) same)

-- what a `%` says of a text, and what another character of the pattern does
abbrev Any : (List ℕ → Type 0) → List ℕ → Type 0
Any Good text = (any : List ℕ) × (rest : List ℕ) × (text ≡ any ++ rest) × Good rest

abbrev One : ℕ → (List ℕ → Type 0) → List ℕ → Type 0
One p Good text = (c : ℕ) × (rest : List ℕ) × (text ≡ c ∷ rest) × ((p ≡ 95) ⊎ (lower p ≡ lower c)) × Good rest

first_says : (p : ℕ) (pattern text : List ℕ) → ((rest : List ℕ) → is_like pattern rest ≡ true → IsLike pattern rest)
    → first_and_rest (passes p) (is_like pattern) text ≡ true → One p (IsLike pattern) text
first_says p pattern [] others h = elim (false≢true h) [ ]
first_says p pattern (c ∷ rest) others h = let both = and_parts (passes p c) (is_like pattern rest) h in (c, rest, refl, passing p c both.0, others rest both.1)

one_says : (p : ℕ) (pattern text : List ℕ) → ((rest : List ℕ) → is_like pattern rest ≡ true → IsLike pattern rest) → (star : Bool)
    → (if star then some_rest (is_like pattern) text else first_and_rest (passes p) (is_like pattern) text) ≡ true
    → MatchBool star (Any (IsLike pattern) text) (One p (IsLike pattern) text)
one_says p pattern text others true h = let s = some_split (is_like pattern) text h in (s.0, s.1, s.2, others s.1 s.3)
one_says p pattern text others false h = first_says p pattern text others h

one_said : (p : ℕ) (pattern text : List ℕ) → ((rest : List ℕ) → IsLike pattern rest → is_like pattern rest ≡ true) → (star : Bool)
    → MatchBool star (Any (IsLike pattern) text) (One p (IsLike pattern) text)
    → (if star then some_rest (is_like pattern) text else first_and_rest (passes p) (is_like pattern) text) ≡ true
one_said p pattern text others true h =
    subst (λ t. some_rest (is_like pattern) t ≡ true) (sym h.2) (from_split (is_like pattern) h.0 h.1 (others h.1 h.3))
one_said p pattern text others false h =
    subst (λ t. first_and_rest (passes p) (is_like pattern) t ≡ true) (sym h.2)
    (and_from (passes p h.0) (is_like pattern h.1) (from_passing p h.0 h.3) (others h.1 h.4))

pub says : (pattern text : List ℕ) → is_like pattern text ≡ true → IsLike pattern text
says [] [] h = refl
says [] (c ∷ text) h = elim (false≢true h) [ ]
says (p ∷ pattern) text h = one_says p pattern text (says pattern) (nat_eq p 37) h

pub is_said : (pattern text : List ℕ) → IsLike pattern text → is_like pattern text ≡ true
is_said [] text h = subst (λ t. is_like [] t ≡ true) (sym h) refl
is_said (p ∷ pattern) text h = one_said p pattern text (is_said pattern) (nat_eq p 37) h
