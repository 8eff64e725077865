-- What fits as numbers are put together from their bytes.
use Rattle.std.proofs.Common.{◌≡◌, ℕ, zero, suc, ◌+◌, ◌-◌, ◌*◌, ◌/◌, ◌%◌, ◌^◌, ◌<◌, ◌≤◌, List, [], ◌∷◌, ◌++◌, drop, refl, sym, ap, subst, ◌∙◌, arith, append_assoc}
use Rattle.std.specs.Int.{bytes_high_first}
use Rattle.std.proofs.Math.Nat.{pow-suc, pow-le-pow_right}
use Rattle.std.proofs.lemmas.Nat.{pow-add}
use Rattle.hc_record.specs.Varint.{marked, read_varint}
use Rattle.std.proofs.lemmas.Bool.{le-ltb}

-- ---- seven bits a byte

-- a number of at most eight groups of seven bits is below 2 ^ 56
pub groups_fit : (n k : ℕ) → k ≤ 8 → n < 2 ^ (7 * k) → n < 2 ^ 56
groups_fit n k most fits =
    let up : 2 ^ (7 * k) ≤ 2 ^ 56 = pow-le-pow_right {n = 2} (omega arith) {i = 7 * k} {j = 56} (omega arith) in
    omega (arith, up, fits)

-- with seven bits more, a number of k groups is one of k + 1
pub one_more_fits : (n k b : ℕ) → n < 2 ^ (7 * k) → b < 128 → n * 128 + b < 2 ^ (7 * (k + 1))
one_more_fits n k b fits small =
    let e : 2 ^ (7 * (k + 1)) ≡ 2 ^ (7 * k) * 2 ^ 7 = ap (λ (p : ℕ). 2 ^ p) (let q : 7 * (k + 1) ≡ 7 * k + 7 = omega arith in q) ∙ pow-add 2 (7 * k) 7 in
    rw e (omega (arith, fits, small))

-- after one marked byte more, the rest is read to the same number as all bytes
pub read_one_more : (n k b : ℕ) (rest after bytes : List ℕ) → k < 8 → 128 ≤ b → rest ≡ b ∷ after → read_varint (8 - k) n rest ≡ read_varint 8 0 bytes → read_varint (8 - (k + 1)) (n * 128 + (b - 128)) after ≡ read_varint 8 0 bytes
read_one_more n k b rest after bytes lt large parts so_far =
    let left : 8 - k ≡ suc (8 - (k + 1)) = omega arith in
    let one : read_varint (8 - k) n rest ≡ read_varint (8 - (k + 1)) (n * 128 + (b - 128)) after = rw (left, parts, le-ltb b 128 large) refl in
    sym one ∙ so_far

-- ---- eight bits a byte

-- with a byte more, a number of k bytes is one of k + 1
pub byte_fits : (n k b : ℕ) → n < 256 ^ k → b < 256 → n * 256 + b < 256 ^ (k + 1)
byte_fits n k b fits small =
    let e : 256 ^ (k + 1) ≡ 256 ^ k * 256 = ap (λ (p : ℕ). 256 ^ p) (let q : k + 1 ≡ suc k = omega arith in q) ∙ pow-suc 256 k in
    rw e (omega (arith, fits, small))

-- a number of at most eight bytes is one of 64 bits
pub bytes_fit : (n k : ℕ) → k ≤ 8 → n < 256 ^ k → n < 2 ^ 64
bytes_fit n k most fits =
    let up : 256 ^ k ≤ 256 ^ 8 = pow-le-pow_right {n = 256} (omega arith) {i = k} {j = 8} (omega arith) in
    omega (arith, up, fits)

-- the bits above so many bytes
pub ones_above : (w : ℕ) → w < 8 → (2 ^ 64 - 1) / 2 ^ (8 * w) ≡ 2 ^ (64 - 8 * w) - 1
ones_above zero lt = refl
ones_above (suc zero) lt = refl
ones_above (suc (suc zero)) lt = refl
ones_above (suc (suc (suc zero))) lt = refl
ones_above (suc (suc (suc (suc zero)))) lt = refl
ones_above (suc (suc (suc (suc (suc zero))))) lt = refl
ones_above (suc (suc (suc (suc (suc (suc zero)))))) lt = refl
ones_above (suc (suc (suc (suc (suc (suc (suc zero))))))) lt = refl
ones_above (suc (suc (suc (suc (suc (suc (suc (suc w)))))))) lt = absurd (omega arith)

-- the ones above w bytes are a number of the other bytes
pub ones_fit : (w : ℕ) → w ≤ 8 → 2 ^ (64 - 8 * w) - 1 < 256 ^ (8 - w)
ones_fit zero lt = omega arith
ones_fit (suc zero) lt = omega arith
ones_fit (suc (suc zero)) lt = omega arith
ones_fit (suc (suc (suc zero))) lt = omega arith
ones_fit (suc (suc (suc (suc zero)))) lt = omega arith
ones_fit (suc (suc (suc (suc (suc zero))))) lt = omega arith
ones_fit (suc (suc (suc (suc (suc (suc zero)))))) lt = omega arith
ones_fit (suc (suc (suc (suc (suc (suc (suc zero))))))) lt = omega arith
ones_fit (suc (suc (suc (suc (suc (suc (suc (suc zero)))))))) lt = omega arith
ones_fit (suc (suc (suc (suc (suc (suc (suc (suc (suc w))))))))) lt = absurd (omega arith)

-- 0 is a number of any count of bytes
pub none_fit : (w : ℕ) → 0 < 256 ^ w
none_fit w = omega (arith, (let up : 256 ^ 0 ≤ 256 ^ w = pow-le-pow_right {n = 256} (omega arith) {i = 0} {j = w} (omega arith) in up))

-- the low bytes of a number of eight
pub low_bytes : (w n : ℕ) → w ≤ 8 → drop (8 - w) (bytes_high_first 8 n) ≡ bytes_high_first w n
low_bytes zero n le = refl
low_bytes (suc zero) n le = refl
low_bytes (suc (suc zero)) n le = refl
low_bytes (suc (suc (suc zero))) n le = refl
low_bytes (suc (suc (suc (suc zero)))) n le = refl
low_bytes (suc (suc (suc (suc (suc zero))))) n le = refl
low_bytes (suc (suc (suc (suc (suc (suc zero)))))) n le = refl
low_bytes (suc (suc (suc (suc (suc (suc (suc zero))))))) n le = refl
low_bytes (suc (suc (suc (suc (suc (suc (suc (suc zero)))))))) n le = refl
low_bytes (suc (suc (suc (suc (suc (suc (suc (suc (suc w))))))))) n le = absurd (omega arith)

-- ---- writing

-- with the first of the marked groups written, those that are left give the same bytes
pub marked_one_more : (out new bytes : List ℕ) (left n b : ℕ) → 0 < left → new ≡ out ++ b ∷ [] → b ≡ 128 + n / 2 ^ (7 * (left - 1)) % 2 ^ 7 → out ++ marked left n ≡ bytes → new ++ marked (left - 1) n ≡ bytes
marked_one_more out new bytes zero n b some added is so_far = absurd (omega arith)
marked_one_more out new bytes (suc left) n b some added is so_far =
    let e : suc left - 1 ≡ left = omega arith in
    let is' : b ≡ 128 + n / 2 ^ (7 * left) % 2 ^ 7 = subst (λ (k : ℕ). b ≡ 128 + n / 2 ^ (7 * k) % 2 ^ 7) e is in
    rw (e, added) (append_assoc out (b ∷ []) (marked left n) ∙ ap (λ (c : ℕ). out ++ c ∷ marked left n) is' ∙ so_far)

-- what was written in two pieces was written whole
pub written : (out mid new a b bytes : List ℕ) → mid ≡ out ++ a → new ≡ mid ++ b → bytes ≡ a ++ b → new ≡ out ++ bytes
written out mid new a b bytes first second whole =
    second ∙ ap (λ (l : List ℕ). l ++ b) first ∙ append_assoc out a b ∙ ap (λ (l : List ℕ). out ++ l) (sym whole)
