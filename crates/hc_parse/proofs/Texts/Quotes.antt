-- A text without its quotes is a text.
use Rattle.std.proofs.Common.{◌≡◌, ◌==◌, ◌+◌, ◌<◌, ℕ, Bool, true, false, if◌then◌else◌, List, [], ◌∷◌, ◌++◌, length, get_or, Option, Some, None, refl, sym, subst, arith, append_assoc, length-append}
use Rattle.std.specs.Str.{IsUtf8}
use Rattle.std.proofs.Math.Seq.{get_or-append_seam, take-append_seam, take-append-add, drop-append-add}
use Rattle.std.proofs.lemmas.Bool.{eqb-true}
use Rattle.std.proofs.lemmas.List.{append-nil}
use Rattle.std.proofs.lemmas.Str.{IsUtf8-append, IsUtf8-take, IsUtf8-drop, IsCharBoundary-before_ascii, IsCharBoundary-after_ascii}
use Rattle.hc_grammar.specs.Terminals.{also, undoubled, unquoted}

-- an option made of another has its value's
also_some : {A B : Type 0} (f : A → B) (o : Option A) (y : B) → also f o ≡ Some y → (x : A) × (o ≡ Some x) × (f x ≡ y)
also_some f None y e = absurd (let bad = e in cc)
also_some f (Some x) y e = (x, refl, (let q = e in cc))

at_seam : (xs rest : List ℕ) (q : ℕ) → (length xs < length (xs ++ q ∷ rest)) × (get_or (xs ++ q ∷ rest) (length xs) 0 ≡ q)
at_seam xs rest q = (omega (arith, length-append xs (q ∷ rest)), get_or-append_seam xs q rest 0)

-- what is before an ASCII byte, and what follows it
before_ascii : (xs rest : List ℕ) (q : ℕ) → q < 128 → IsUtf8 (xs ++ q ∷ rest) → IsUtf8 xs
before_ascii xs rest q small is =
    let here : get_or (xs ++ q ∷ rest) (length xs) 0 < 128 = subst (λ b. b < 128) (sym ((at_seam xs rest q).1)) small in
    subst IsUtf8 (take-append_seam xs (q ∷ rest))
    (IsUtf8-take (xs ++ q ∷ rest) (length xs) is (IsCharBoundary-before_ascii (xs ++ q ∷ rest) (length xs) ((at_seam xs rest q).0) here))

after_ascii : (xs rest : List ℕ) (q : ℕ) → q < 128 → IsUtf8 (xs ++ q ∷ rest) → IsUtf8 rest
after_ascii xs rest q small is =
    let here : get_or (xs ++ q ∷ rest) (length xs) 0 < 128 = subst (λ b. b < 128) (sym ((at_seam xs rest q).1)) small in
    subst IsUtf8 (drop-append-add xs (q ∷ rest) 1)
    (IsUtf8-drop (xs ++ q ∷ rest) (length xs + 1) is (IsCharBoundary-after_ascii (xs ++ q ∷ rest) (length xs) is ((at_seam xs rest q).0) here))

-- and what is up to it
through_ascii : (xs rest : List ℕ) (q : ℕ) → q < 128 → IsUtf8 (xs ++ q ∷ rest) → IsUtf8 (xs ++ q ∷ [])
through_ascii xs rest q small is =
    let here : get_or (xs ++ q ∷ rest) (length xs) 0 < 128 = subst (λ b. b < 128) (sym ((at_seam xs rest q).1)) small in
    subst IsUtf8 (take-append-add xs (q ∷ rest) 1)
    (IsUtf8-take (xs ++ q ∷ rest) (length xs + 1) is (IsCharBoundary-after_ascii (xs ++ q ∷ rest) (length xs) is ((at_seam xs rest q).0) here))

joined : (xs i inner : List ℕ) (b : ℕ) → b ∷ i ≡ inner → IsUtf8 ((xs ++ b ∷ []) ++ i) → IsUtf8 (xs ++ inner)
joined xs i inner b made is = subst (λ j. IsUtf8 (xs ++ j)) made (subst IsUtf8 (append_assoc xs (b ∷ []) i) is)

-- a byte that is no quote, or a quote and its double, where what follows is a text
step_utf8 : (q : ℕ) → q < 128 → (xs rest inner : List ℕ) (b c : ℕ) → IsUtf8 (xs ++ b ∷ c ∷ rest)
    → ((i : List ℕ) → undoubled q (c ∷ rest) ≡ Some i → IsUtf8 ((xs ++ b ∷ []) ++ i))
    → ((i : List ℕ) → IsUtf8 rest → undoubled q rest ≡ Some i → IsUtf8 i)
    → undoubled q (b ∷ c ∷ rest) ≡ Some inner → IsUtf8 (xs ++ inner)
step_utf8 q small xs rest inner b c is one two e = on (b == q) refl e
  where
    other : ((i : List ℕ) × (undoubled q (c ∷ rest) ≡ Some i) × (b ∷ i ≡ inner)) → IsUtf8 (xs ++ inner)
    other (i, found, made) = joined xs i inner b made (one i found)

    double : b ≡ q → c ≡ q → ((i : List ℕ) × (undoubled q rest ≡ Some i) × (b ∷ i ≡ inner)) → IsUtf8 (xs ++ inner)
    double is_q is_too (i, found, made) =
        let front : IsUtf8 (xs ++ b ∷ []) = through_ascii xs (c ∷ rest) b (omega arith) is in
        let tail : IsUtf8 (c ∷ rest) = after_ascii xs (c ∷ rest) b (omega arith) is in
        let left : IsUtf8 rest = after_ascii [] rest c (omega arith) tail in
        joined xs i inner b made (IsUtf8-append (xs ++ b ∷ []) i front (two i left found))

    second : (t : Bool) → b ≡ q → (c == q) ≡ t → (if t then also (λ i. b ∷ i) (undoubled q rest) else None) ≡ Some inner → IsUtf8 (xs ++ inner)
    second false is_q same e = absurd (let bad = e in cc)
    second true is_q same e = double is_q (eqb-true c q same) (also_some (λ i. b ∷ i) (undoubled q rest) inner e)

    on : (t : Bool) → (b == q) ≡ t → (if t then (if c == q then also (λ i. b ∷ i) (undoubled q rest) else None) else also (λ i. b ∷ i) (undoubled q (c ∷ rest))) ≡ Some inner → IsUtf8 (xs ++ inner)
    on false same e = other (also_some (λ i. b ∷ i) (undoubled q (c ∷ rest)) inner e)
    on true same e = second (c == q) (eqb-true b q same) refl e

-- the closing quote
last_utf8 : (q : ℕ) → q < 128 → (xs inner : List ℕ) (b : ℕ) (t : Bool) → (b == q) ≡ t → IsUtf8 (xs ++ b ∷ []) → (if t then Some [] else None) ≡ Some inner → IsUtf8 (xs ++ inner)
last_utf8 q small xs inner b false same is e = absurd (let bad = e in cc)
last_utf8 q small xs inner b true same is e =
    let none : [] ≡ inner = (let f = e in cc) in
    let is_q : b ≡ q = eqb-true b q same in
    let front : IsUtf8 xs = before_ascii xs [] b (omega arith) is in
    subst (λ i. IsUtf8 (xs ++ i)) none (subst IsUtf8 (sym (append-nil xs)) front)

-- what is before the quotes and what they enclose are a text together
undoubled_utf8 : (q : ℕ) → q < 128 → (xs rest inner : List ℕ) → IsUtf8 (xs ++ rest) → undoubled q rest ≡ Some inner → IsUtf8 (xs ++ inner)
undoubled_utf8 q small xs [] inner is e = absurd (let bad = e in cc)
undoubled_utf8 q small xs (b ∷ []) inner is e = last_utf8 q small xs inner b (b == q) refl is e
undoubled_utf8 q small xs (b ∷ c ∷ rest) inner is e =
    step_utf8 q small xs rest inner b c is
    (λ i found. undoubled_utf8 q small (xs ++ b ∷ []) (c ∷ rest) i (subst IsUtf8 (sym (append_assoc xs (b ∷ []) (c ∷ rest))) is) found)
    (λ i left found. undoubled_utf8 q small [] rest i left found) e

-- what is found within the quotes of a text is a text
pub unquoted_utf8 : (q : ℕ) → q < 128 → (text inner : List ℕ) → IsUtf8 text → unquoted q text ≡ Some inner → IsUtf8 inner
unquoted_utf8 q small [] inner is e = absurd (let bad = e in cc)
unquoted_utf8 q small (b ∷ rest) inner is e = on (b == q) refl e
  where
    on : (t : Bool) → (b == q) ≡ t → (if t then undoubled q rest else None) ≡ Some inner → IsUtf8 inner
    on false same e = absurd (let bad = e in cc)
    on true same e =
        let is_q : b ≡ q = eqb-true b q same in
        undoubled_utf8 q small [] rest inner (after_ascii [] rest b (omega arith) is) e
