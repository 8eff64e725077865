-- The words of a key that has other bytes after it.
use Rattle.std.proofs.Common.{◌≡◌, ℕ, zero, suc, ◌+◌, ◌-◌, ◌*◌, ◌/◌, ◌%◌, ◌^◌, ◌<◌, ◌≤◌, List, [], ◌∷◌, ◌++◌, length, drop, get_or, refl, sym, ap, subst, ◌∙◌, inl, inr, arith, length-drop, nat_lt, true, false, if◌then◌else◌, slice_index}
use Rattle.std.proofs.Math.Nat.{mul-add-div_right, div-eq_of_lt}
use Rattle.std.proofs.Math.ListN.{drop_of_length-le}
use Rattle.std.proofs.Math.Seq.{drop-append_seam}
use Rattle.std.proofs.lemmas.List.{drop-append-le, get_or_append_left, get_or-append-add, get_or_past, get_or-drop}
use Rattle.hc_base.specs.Layout.{word}
use Rattle.hc_base.proofs.ByteWords.{word-add, word-none}
use Rattle.hc_base.proofs.KeyOrder.{AreBytes, AreBytes-drop, word-below}
use Rattle.std.proofs.lemmas.Bool.{cases_lt}
use Rattle.std.proofs.lemmas.Bool.Decides.{nat_tests}
use Rattle.hc_page.specs.Reading.{top_bytes, key_word, digit, IsKeyAt}

-- the first bytes of a longer byte string
pub word-front : (k : ℕ) (xs ys : List ℕ) → k ≤ length xs → word k (xs ++ ys) ≡ word k xs
word-front zero xs ys within = refl
word-front (suc k) [] ys within = absurd (omega arith)
word-front (suc k) (x ∷ xs) ys within = ap (λ w. x * 256 ^ k + w) (word-front k xs ys (omega arith))

-- a word of two byte strings, one after the other
word-whole : (xs ys : List ℕ) → length xs ≤ 8 → word 8 (xs ++ ys) ≡ word (length xs) xs * 256 ^ (8 - length xs) + word (8 - length xs) ys
word-whole xs ys within =
    let l = length xs in
    let m = 8 - l in
    ap (λ n. word n (xs ++ ys)) (let e : 8 ≡ l + m = omega arith in e)
    ∙ (word-add l m (xs ++ ys)
    ∙ (ap (λ w. w * 256 ^ m + word m (drop l (xs ++ ys))) (word-front l xs ys (omega arith))
    ∙ ap (λ zs. word l xs * 256 ^ m + word m zs) (drop-append_seam xs ys)))

word-alone : (xs : List ℕ) → length xs ≤ 8 → word 8 xs ≡ word (length xs) xs * 256 ^ (8 - length xs)
word-alone xs within =
    let l = length xs in
    let m = 8 - l in
    ap (λ n. word n xs) (let e : 8 ≡ l + m = omega arith in e)
    ∙ (word-add l m xs
    ∙ (ap (λ zs. word l xs * 256 ^ m + word m zs) (drop_of_length-le xs (omega arith))
    ∙ (let e : word l xs * 256 ^ m + word m [] ≡ word l xs * 256 ^ m = omega (arith, word-none m) in e)))

-- the top bytes of a word that goes on are the word of these bytes alone
pub top_bytes-is : (xs ys : List ℕ) → length xs ≤ 8 → AreBytes ys → top_bytes (length xs) (word 8 (xs ++ ys)) ≡ word 8 xs
top_bytes-is xs ys within of_ys =
    let l = length xs in
    let m = 8 - l in
    let positive : 0 < 256 ^ m = omega (arith, word-below m ys of_ys) in
    ap (λ w. w / 256 ^ m * 256 ^ m) (word-whole xs ys within)
    ∙ (ap (λ q. q * 256 ^ m) (mul-add-div_right positive (word l xs) (word m ys) ∙ ap (λ r. word l xs + r) (div-eq_of_lt (word-below m ys of_ys)))
    ∙ ((let e : (word l xs + 0) * 256 ^ m ≡ word l xs * 256 ^ m = ap (λ n. n * 256 ^ m) (omega arith) in e) ∙ sym (word-alone xs within)))

-- the first bytes of another string fill up a word
pub word-joined : (xs ys : List ℕ) → length xs ≤ 8 → AreBytes ys → word 8 (xs ++ ys) ≡ word 8 xs + word 8 ys / 256 ^ length xs
word-joined xs ys within of_ys =
    let l = length xs in
    let m = 8 - l in
    let below : word l (drop m ys) < 256 ^ l = word-below l (drop m ys) (AreBytes-drop m ys of_ys) in
    let positive : 0 < 256 ^ l = omega (arith, below) in
    let split : word 8 ys ≡ word m ys * 256 ^ l + word l (drop m ys) = ap (λ n. word n ys) (let e : 8 ≡ m + l = omega arith in e) ∙ word-add m l ys in
    let cut : word 8 ys / 256 ^ l ≡ word m ys =
    ap (λ w. w / 256 ^ l) split ∙ (mul-add-div_right positive (word m ys) (word l (drop m ys)) ∙ (ap (λ r. word m ys + r) (div-eq_of_lt below) ∙ (let e : word m ys + 0 ≡ word m ys = omega arith in e))) in
    word-whole xs ys within ∙ (ap (λ w. word l xs * 256 ^ m + w) (sym cut) ∙ ap (λ w. w + word 8 ys / 256 ^ l) (sym (word-alone xs within)))

AreBytes-front : (xs ys : List ℕ) → AreBytes (xs ++ ys) → AreBytes xs
AreBytes-front xs ys all i =
    elim (cases_lt i (length xs)) [
      | inl within ↦ subst (λ b. b < 256) (get_or_append_left xs ys 0 i within) (all i)
      | inr past ↦ subst (λ b. b < 256) (sym (get_or_past xs i 0 past)) (omega arith)
    ]

AreBytes-after : (xs ys : List ℕ) → AreBytes (xs ++ ys) → AreBytes ys
AreBytes-after xs ys all i = subst (λ b. b < 256) (get_or-append-add xs ys i 0) (all (length xs + i))

-- the bytes of a key are bytes
pub key_bytes : (words : List ℕ) (at len : ℕ) (bytes : List ℕ) → IsKeyAt words at len bytes → AreBytes bytes
key_bytes words at len bytes key = AreBytes-front bytes key.after key.are_bytes

-- word j of a key is the word of its bytes from 8 j on
pub key_word-is : (words : List ℕ) (at len j : ℕ) (bytes : List ℕ) → IsKeyAt words at len bytes → key_word words at len j ≡ word 8 (drop (8 * j) bytes)
key_word-is words at len j bytes key =
    let xs = drop (8 * j) bytes in
    let after = key.after in
    let size : length xs ≡ len - 8 * j = length-drop (8 * j) bytes ∙ ap (λ n. n - 8 * j) key.len_is in
    elim (cases_lt (8 * j) len) [
      | inl within ↦
          let inside : nat_lt (8 * j) len ≡ true = grind (arith, nat_tests) in
          let here : slice_index words (at + j) ≡ word 8 (xs ++ after) =
          key.words_are j within ∙ ap (λ ys. word 8 ys) (drop-append-le (8 * j) bytes after (let h : 8 * j ≤ length bytes = omega (arith, key.len_is) in h)) in
          let cut : top_bytes (len - 8 * j) (word 8 (xs ++ after)) ≡ word 8 xs =
          elim (cases_lt (length xs) 9) [
            | inl short ↦ ap (λ n. top_bytes n (word 8 (xs ++ after))) (sym size) ∙ top_bytes-is xs after (omega arith) (AreBytes-after bytes after key.are_bytes)
            | inr long ↦ whole (len - 8 * j) (word 8 (xs ++ after)) (omega arith) ∙ word-front 8 xs after (omega arith)
          ] in
          ap (λ b. if b then top_bytes (len - 8 * j) (slice_index words (at + j)) else 0) inside ∙ (ap (λ w. top_bytes (len - 8 * j) w) here ∙ cut)
      | inr past ↦
          let outside : nat_lt (8 * j) len ≡ false = grind (arith, nat_tests) in
          ap (λ b. if b then top_bytes (len - 8 * j) (slice_index words (at + j)) else 0) outside
          ∙ sym (ap (λ ys. word 8 ys) (drop_of_length-le bytes (let h : length bytes ≤ 8 * j = omega (arith, key.len_is) in h)) ∙ word-none 8)
    ]
  where
    whole : (count w : ℕ) → 8 ≤ count → top_bytes count w ≡ w
    whole count w enough = ap (λ k. w / 256 ^ k * 256 ^ k) (let e : 8 - count ≡ 0 = omega arith in e) ∙ (let e : w / 1 * 1 ≡ w = omega arith in e)

-- byte i of the word of some bytes is byte i of these
word-digit : (bs : List ℕ) (i : ℕ) → AreBytes bs → i < 8 → digit (word 8 bs) i ≡ get_or bs i 0
word-digit bs i of small =
    let m = 7 - i in
    let whole : word 8 bs ≡ word (suc i) bs * 256 ^ m + word m (drop (suc i) bs) =
    ap (λ n. word n bs) (let e : 8 ≡ suc i + m = omega arith in e) ∙ word-add (suc i) m bs in
    let below : word m (drop (suc i) bs) < 256 ^ m = word-below m (drop (suc i) bs) (AreBytes-drop (suc i) bs of) in
    let positive : 0 < 256 ^ m = omega (arith, below) in
    let front : word (suc i) bs ≡ word i bs * 256 + get_or bs i 0 =
    ap (λ n. word n bs) (let e : suc i ≡ i + 1 = omega arith in e)
    ∙ (word-add i 1 bs ∙ (let first : get_or (drop i bs) 0 0 ≡ get_or bs i 0 = get_or-drop i bs 0 0 ∙ ap (λ n. get_or bs n 0) (let e : i + 0 ≡ i = omega arith in e) in omega (arith, first))) in
    ap (λ w. w / 256 ^ m % 256) whole
    ∙ (ap (λ q. q % 256) (mul-add-div_right positive (word (suc i) bs) (word m (drop (suc i) bs)) ∙ ap (λ r. word (suc i) bs + r) (div-eq_of_lt below))
    ∙ (let e : (word (suc i) bs + 0) % 256 ≡ get_or bs i 0 = omega (arith, front, of i) in e))

-- byte k of a key, in the word that has it
pub key_digit : (words : List ℕ) (at len k : ℕ) (bytes : List ℕ) → IsKeyAt words at len bytes → k < len → digit (slice_index words (at + k / 8)) (k % 8) ≡ get_or bytes k 0
key_digit words at len k bytes key within =
    let all = bytes ++ key.after in
    ap (λ w. digit w (k % 8)) (key.words_are (k / 8) (omega arith))
    ∙ (word-digit (drop (8 * (k / 8)) all) (k % 8) (AreBytes-drop (8 * (k / 8)) all key.are_bytes) (omega arith)
    ∙ (get_or-drop (8 * (k / 8)) all (k % 8) 0
    ∙ (ap (λ n. get_or all n 0) (let e : 8 * (k / 8) + k % 8 ≡ k = omega arith in e)
    ∙ get_or_append_left bytes key.after 0 k (omega (arith, key.len_is)))))

-- byte strings of one length with the same bytes are the same
pub same_bytes : (xs ys : List ℕ) → length xs ≡ length ys → ((i : ℕ) → i < length xs → get_or xs i 0 ≡ get_or ys i 0) → xs ≡ ys
same_bytes [] [] long each = refl
same_bytes [] (y ∷ ys) long each = absurd (omega arith)
same_bytes (x ∷ xs) [] long each = absurd (omega arith)
same_bytes (x ∷ xs) (y ∷ ys) long each =
    let rest : xs ≡ ys = same_bytes xs ys (omega arith) (λ i within. each (suc i) (omega arith)) in
    ap (λ b. b ∷ xs) (each 0 (omega arith)) ∙ ap (λ bs. y ∷ bs) rest
