-- Bytes in words: the word that a byte string has at each place.
use Rattle.std.proofs.Common.{◌≡◌, ℕ, zero, suc, ◌+◌, ◌-◌, ◌*◌, ◌^◌, ◌<◌, ◌≤◌, List, [], ◌∷◌, length, drop, get_or, refl, sym, ap, ◌∙◌, arith, length-drop, mul_assoc, pow-add, add-mul}
use Rattle.std.proofs.lemmas.List.{drop-drop}
use Rattle.hc_base.specs.Layout.{word, words_within, words_of}

words_within-read : (n j : ℕ) (bytes : List ℕ) → length bytes ≤ n → 8 * j < length bytes → get_or (words_within n bytes) j 0 ≡ word 8 (drop (8 * j) bytes)
words_within-read n j [] all within = absurd (omega arith)
words_within-read zero j (b ∷ bytes) all within = absurd (omega arith)
words_within-read (suc n) zero (b ∷ bytes) all within = refl
words_within-read (suc n) (suc j) (b ∷ bytes) all within =
    let rest = drop 7 bytes in
    let size : length rest ≡ length bytes - 7 = length-drop 7 bytes in
    words_within-read n j rest (omega arith) (omega arith)
    ∙ ap (λ xs. word 8 xs) (drop-drop (8 * j) 8 (b ∷ bytes) ∙ ap (λ k. drop k (b ∷ bytes)) (let e : 8 + 8 * j ≡ 8 * suc j = omega arith in e))

-- word j has the bytes from 8 j on
pub words_of-read : (j : ℕ) (bytes : List ℕ) → 8 * j < length bytes → get_or (words_of bytes) j 0 ≡ word 8 (drop (8 * j) bytes)
words_of-read j bytes within = words_within-read (length bytes) j bytes (omega arith) within

pub word-none : (k : ℕ) → word k [] ≡ 0
word-none zero = refl
word-none (suc k) = omega (arith, word-none k)

-- the first l bytes, and then m more
pub word-add : (l m : ℕ) (xs : List ℕ) → word (l + m) xs ≡ word l xs * 256 ^ m + word m (drop l xs)
word-add zero m xs = ap (λ n. word n xs) (let e : 0 + m ≡ m = omega arith in e) ∙ (let e : word m xs ≡ 0 * 256 ^ m + word m xs = omega arith in e)
word-add (suc l) m xs =
    let b = get_or xs 0 0 in
    let after : word (l + m) (drop 1 xs) ≡ word l (drop 1 xs) * 256 ^ m + word m (drop (suc l) xs) =
    word-add l m (drop 1 xs) ∙ ap (λ ys. word l (drop 1 xs) * 256 ^ m + word m ys) (drop-drop l 1 xs ∙ ap (λ n. drop n xs) (let e : 1 + l ≡ suc l = omega arith in e)) in
    ap (λ n. word n xs) (let e : suc l + m ≡ suc (l + m) = omega arith in e)
    ∙ (ap (λ p. b * p + word (l + m) (drop 1 xs)) (pow-add 256 l m)
    ∙ (ap (λ w. b * (256 ^ l * 256 ^ m) + w) after
    ∙ (let e : b * (256 ^ l * 256 ^ m) ≡ b * 256 ^ l * 256 ^ m = sym (mul_assoc b (256 ^ l) (256 ^ m)) in
    let d : (b * 256 ^ l + word l (drop 1 xs)) * 256 ^ m ≡ b * 256 ^ l * 256 ^ m + word l (drop 1 xs) * 256 ^ m = add-mul (b * 256 ^ l) (word l (drop 1 xs)) (256 ^ m) in
    omega (arith, e, d))))
