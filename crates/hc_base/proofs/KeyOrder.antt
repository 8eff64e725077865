-- Byte strings compare as their words do, and where all words are equal as their lengths do.
use Rattle.std.proofs.Common.{◌≡◌, ◌≢◌, ℕ, zero, suc, ◌+◌, ◌*◌, ◌^◌, ◌<◌, ◌≤◌, List, [], ◌∷◌, length, drop, get_or, refl, sym, ap, ◌∙◌, inl, inr, arith, mul-le-mul_right, suc-mul}
use Rattle.std.proofs.Math.Nat.{pow-suc}
use Rattle.std.specs.Cmp.{nat_cmp_is}
use Rattle.std.specs.declared.cmp.Ordering.{Ordering}
use Rattle.std.specs.declared.cmp.Ordering.TheVariants.{Less, Equal, Greater}
use Rattle.std.specs.Ordering.{nat_cmp, ordering_then}
use Rattle.std.specs.Cmp.Lexicographic.{slice_cmp}
use Rattle.std.proofs.lemmas.Bool.{cases_eq, cases_lt}
use Rattle.std.proofs.lemmas.List.{drop-drop, get_or-drop}
use Rattle.hc_base.specs.Layout.{word}

-- each is a byte
abbrev pub AreBytes : List ℕ → Type 0
AreBytes bytes = (i : ℕ) → get_or bytes i 0 < 256

pub AreBytes-drop : (n : ℕ) (bytes : List ℕ) → AreBytes bytes → AreBytes (drop n bytes)
AreBytes-drop n bytes fits i = rw get_or-drop (fits (n + i))

-- the order of the first k bytes, where bytes that are not there count as 0
abbrev pub first_bytes : ℕ → List ℕ → List ℕ → Ordering
first_bytes zero a b = Equal
first_bytes (suc k) a b = ordering_then (nat_cmp (get_or a 0 0) (get_or b 0 0)) (first_bytes k (drop 1 a) (drop 1 b))

-- a number that k bytes spell is below 256 ^ k
pub word-below : (k : ℕ) (a : List ℕ) → AreBytes a → word k a < 256 ^ k
word-below zero a fits = omega arith
word-below (suc k) a fits =
    let rest : word k (drop 1 a) < 256 ^ k = word-below k (drop 1 a) (AreBytes-drop 1 a fits) in
    let most : suc (get_or a 0 0) * 256 ^ k ≤ 256 * 256 ^ k = mul-le-mul_right (256 ^ k) (let h : suc (get_or a 0 0) ≤ 256 = fits 0 in h) in
    let power : 256 ^ suc k ≡ 256 ^ k * 256 = pow-suc 256 k in
    omega (arith, rest, most, power, suc-mul (get_or a 0 0) (256 ^ k))

-- what the order of two numbers is
less_is : (m n : ℕ) → m < n → nat_cmp m n ≡ Less
less_is m n below = sym (nat_cmp_is m n Less below)

equal_is : (m n : ℕ) → m ≡ n → nat_cmp m n ≡ Equal
equal_is m n same = sym (nat_cmp_is m n Equal same)

greater_is : (m n : ℕ) → n < m → nat_cmp m n ≡ Greater
greater_is m n above = sym (nat_cmp_is m n Greater above)

-- numbers that lie to each other as two others do are in their order
alike : (m n p q : ℕ) → (m < n → p < q) → (n < m → q < p) → (m ≡ n → p ≡ q) → nat_cmp m n ≡ nat_cmp p q
alike m n p q less greater same =
    elim (cases_lt m n) [
      | inl below ↦ less_is m n below ∙ sym (less_is p q (less below))
      | inr at_most ↦
          elim (cases_eq m n) [
            | inl equal ↦ equal_is m n equal ∙ sym (equal_is p q (same equal))
            | inr differ ↦ greater_is m n (omega arith) ∙ sym (greater_is p q (greater (omega arith)))
          ]
    ]

-- a digit and what follows it below the base, against another such number
module _ (base x y r s : ℕ) (r_below : r < base) (s_below : s < base) where
  digit_less : (m n t u : ℕ) → m < n → t < base → m * base + t < n * base + u
  digit_less m n t u below within =
      let more : suc m * base ≤ n * base = mul-le-mul_right base below in omega (arith, more, suc-mul m base, within)

  same_digit : nat_cmp (x * base + r) (y * base + s) ≡ ordering_then (nat_cmp x y) (nat_cmp r s)
  same_digit =
      elim (cases_lt x y) [
        | inl below ↦
            less_is (x * base + r) (y * base + s) (digit_less x y r s below r_below) ∙ ap (λ o. ordering_then o (nat_cmp r s)) (sym (less_is x y below))
        | inr at_most ↦
            elim (cases_eq x y) [
              | inl same ↦
                  ap (λ z. nat_cmp (x * base + r) (z * base + s)) (sym same)
                  ∙ (alike (x * base + r) (x * base + s) r s (λ h. omega arith) (λ h. omega arith) (λ h. omega arith)
                  ∙ ap (λ o. ordering_then o (nat_cmp r s)) (sym (equal_is x y same)))
              | inr differ ↦
                  let above : y < x = omega arith in
                  greater_is (x * base + r) (y * base + s) (digit_less y x s r above s_below) ∙ ap (λ o. ordering_then o (nat_cmp r s)) (sym (greater_is x y above))
            ]
      ]

-- the order of two words is that of the bytes that they spell
pub word-order : (k : ℕ) (a b : List ℕ) → AreBytes a → AreBytes b → nat_cmp (word k a) (word k b) ≡ first_bytes k a b
word-order zero a b of_a of_b = refl
word-order (suc k) a b of_a of_b =
    let rest_a = AreBytes-drop 1 a of_a in
    let rest_b = AreBytes-drop 1 b of_b in
    same_digit (256 ^ k) (get_or a 0 0) (get_or b 0 0) (word k (drop 1 a)) (word k (drop 1 b)) (word-below k (drop 1 a) rest_a) (word-below k (drop 1 b) rest_b)
    ∙ ap (ordering_then (nat_cmp (get_or a 0 0) (get_or b 0 0))) (word-order k (drop 1 a) (drop 1 b) rest_a rest_b)

then-assoc : (o p q : Ordering) → ordering_then (ordering_then o p) q ≡ ordering_then o (ordering_then p q)
then-assoc Less p q = refl
then-assoc Equal p q = refl
then-assoc Greater p q = refl

-- the first k bytes decide, and then the next m
first_bytes-add : (k m : ℕ) (a b : List ℕ) → first_bytes (k + m) a b ≡ ordering_then (first_bytes k a b) (first_bytes m (drop k a) (drop k b))
first_bytes-add zero m a b = ap (λ n. first_bytes n a b) (let e : 0 + m ≡ m = omega arith in e)
first_bytes-add (suc k) m a b =
    let digit = nat_cmp (get_or a 0 0) (get_or b 0 0) in
    ap (λ n. first_bytes n a b) (let e : suc k + m ≡ suc (k + m) = omega arith in e)
    ∙ (ap (ordering_then digit) (first_bytes-add k m (drop 1 a) (drop 1 b))
    ∙ (ap (λ xs. ordering_then digit (ordering_then (first_bytes k (drop 1 a) (drop 1 b)) (first_bytes m xs (drop k (drop 1 b))))) (one_more k a)
    ∙ (ap (λ ys. ordering_then digit (ordering_then (first_bytes k (drop 1 a) (drop 1 b)) (first_bytes m (drop (suc k) a) ys))) (one_more k b)
    ∙ sym (then-assoc digit (first_bytes k (drop 1 a) (drop 1 b)) (first_bytes m (drop (suc k) a) (drop (suc k) b))))))
  where
    one_more : (k : ℕ) (xs : List ℕ) → drop k (drop 1 xs) ≡ drop (suc k) xs
    one_more k xs = drop-drop k 1 xs ∙ ap (λ n. drop n xs) (let e : 1 + k ≡ suc k = omega arith in e)

-- nothing comes before a byte string that is there
before_some : (k y : ℕ) (b : List ℕ) → ordering_then (first_bytes k [] b) Less ≡ Less
before_some zero y b = refl
before_some (suc k) y b =
    elim (cases_eq 0 (get_or b 0 0)) [
      | inl same ↦
          ap (λ o. ordering_then (ordering_then o (first_bytes k [] (drop 1 b))) Less) (equal_is 0 (get_or b 0 0) same) ∙ before_some k y (drop 1 b)
      | inr differ ↦
          ap (λ o. ordering_then (ordering_then o (first_bytes k [] (drop 1 b))) Less) (less_is 0 (get_or b 0 0) (omega arith))
    ]

after_none : (k : ℕ) (a : List ℕ) → ordering_then (first_bytes k a []) Greater ≡ Greater
after_none zero a = refl
after_none (suc k) a =
    elim (cases_eq (get_or a 0 0) 0) [
      | inl same ↦
          ap (λ o. ordering_then (ordering_then o (first_bytes k (drop 1 a) [])) Greater) (equal_is (get_or a 0 0) 0 same) ∙ after_none k (drop 1 a)
      | inr differ ↦
          ap (λ o. ordering_then (ordering_then o (first_bytes k (drop 1 a) [])) Greater) (greater_is (get_or a 0 0) 0 (omega arith))
    ]

none_alike : (k : ℕ) → ordering_then (first_bytes k [] []) Equal ≡ Equal
none_alike zero = refl
none_alike (suc k) = none_alike k

-- Byte strings of at most k bytes: the first k decide, where missing ones count as 0, and then the lengths.
pub bytes-order : (k : ℕ) (a b : List ℕ) → length a ≤ k → length b ≤ k → slice_cmp nat_cmp a b ≡ ordering_then (first_bytes k a b) (nat_cmp (length a) (length b))
bytes-order k [] [] of_a of_b = sym (none_alike k)
bytes-order k [] (y ∷ ys) of_a of_b =
    sym (ap (ordering_then (first_bytes k [] (y ∷ ys))) (less_is 0 (suc (length ys)) (omega arith)) ∙ before_some k y (y ∷ ys))
bytes-order k (x ∷ xs) [] of_a of_b =
    sym (ap (ordering_then (first_bytes k (x ∷ xs) [])) (greater_is (suc (length xs)) 0 (omega arith)) ∙ after_none k (x ∷ xs))
bytes-order zero (x ∷ xs) (y ∷ ys) of_a of_b = absurd (omega arith)
bytes-order (suc k) (x ∷ xs) (y ∷ ys) of_a of_b =
    ap (ordering_then (nat_cmp x y)) (bytes-order k xs ys (omega arith) (omega arith))
    ∙ (ap (λ o. ordering_then (nat_cmp x y) (ordering_then (first_bytes k xs ys) o))
    (alike (length xs) (length ys) (suc (length xs)) (suc (length ys)) (λ h. omega arith) (λ h. omega arith) (λ h. ap suc h))
    ∙ sym (then-assoc (nat_cmp x y) (first_bytes k xs ys) (nat_cmp (suc (length xs)) (suc (length ys)))))

-- where the first k bytes are equal and the words of the next eight are not, these words decide
pub words-decide : (k : ℕ) (a b : List ℕ) (o : Ordering) → AreBytes a → AreBytes b → first_bytes k a b ≡ Equal
    → nat_cmp (word 8 (drop k a)) (word 8 (drop k b)) ≡ o → o ≢ Equal → slice_cmp nat_cmp a b ≡ o
words-decide k a b o of_a of_b same words differ =
    let m = length a + length b in
    bytes-order (k + (8 + m)) a b (omega arith) (omega arith)
    ∙ (ap (λ p. ordering_then p (nat_cmp (length a) (length b)))
    (first_bytes-add k (8 + m) a b
    ∙ (ap (λ p. ordering_then p (first_bytes (8 + m) (drop k a) (drop k b))) same
    ∙ (first_bytes-add 8 m (drop k a) (drop k b)
    ∙ ap (λ p. ordering_then p (first_bytes m (drop 8 (drop k a)) (drop 8 (drop k b))))
    (sym (word-order 8 (drop k a) (drop k b) (AreBytes-drop k a of_a) (AreBytes-drop k b of_b)) ∙ words))))
    ∙ decided o (first_bytes m (drop 8 (drop k a)) (drop 8 (drop k b))) (nat_cmp (length a) (length b)) differ)
  where
    decided : (o p q : Ordering) → o ≢ Equal → ordering_then (ordering_then o p) q ≡ o
    decided Less p q differ = refl
    decided Equal p q differ = absurd (differ refl)
    decided Greater p q differ = refl

-- where these words are equal too, eight bytes more are
pub words-agree : (k : ℕ) (a b : List ℕ) → AreBytes a → AreBytes b → first_bytes k a b ≡ Equal
    → word 8 (drop k a) ≡ word 8 (drop k b) → first_bytes (k + 8) a b ≡ Equal
words-agree k a b of_a of_b same words =
    first_bytes-add k 8 a b
    ∙ (ap (λ p. ordering_then p (first_bytes 8 (drop k a) (drop k b))) same
    ∙ (sym (word-order 8 (drop k a) (drop k b) (AreBytes-drop k a of_a) (AreBytes-drop k b of_b))
    ∙ equal_is (word 8 (drop k a)) (word 8 (drop k b)) words))

-- where all bytes are equal as far as they go, the lengths decide
pub lengths-decide : (k : ℕ) (a b : List ℕ) → length a ≤ k → length b ≤ k → first_bytes k a b ≡ Equal → slice_cmp nat_cmp a b ≡ nat_cmp (length a) (length b)
lengths-decide k a b of_a of_b same = bytes-order k a b of_a of_b ∙ ap (λ p. ordering_then p (nat_cmp (length a) (length b))) same

-- only equal numbers are equal in their order
pub equal_only : (m n : ℕ) → nat_cmp m n ≡ Equal → m ≡ n
equal_only m n same =
    elim (cases_lt m n) [
      | inl below ↦ absurd (differ (sym (less_is m n below) ∙ same))
      | inr at_most ↦
          elim (cases_eq m n) [
            | inl equal ↦ equal
            | inr apart ↦ absurd (above (sym (greater_is m n (omega arith)) ∙ same))
          ]
    ]
  where
    differ : Less ≢ Equal
    differ e = cc

    above : Greater ≢ Equal
    above e = cc
