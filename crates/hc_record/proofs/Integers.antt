-- An integer is read as it was written, and what is read as one is how it is written.
use Rattle.std.proofs.Common.{◌≡◌, ℕ, zero, suc, ◌+◌, ◌-◌, ◌*◌, ◌/◌, ◌%◌, ◌^◌, ◌<◌, ◌≤◌, ℤ, pos, negsuc, Bool, true, false, cond, List, [], ◌∷◌, length, get_or, refl, ap, subst, ◌∙◌, arith, inl, inr, ◌⊎◌, w64, FitsSigned}
use Rattle.std.specs.Prelude.{fold, ◌==◌}
use Rattle.std.specs.Int.{cast_unsigned, cast_signed, bytes_high_first, byte_at}
use Rattle.std.proofs.lemmas.Bool.{lt-ltb, le-ltb}
use Rattle.std.proofs.lemmas.Nat.{shr_split}
use Rattle.std.proofs.lemmas.Int.{to_z-of_z, of_z-to_z}
use Rattle.hc_record.specs.Record.{body_len, type_of_magnitude, type_of_int}
use Rattle.hc_record.specs.Reading.{bits_above, integer_of}
use Rattle.hc_text.proofs.ByteStrings.{IsBytes, IsBytes-rest, one_byte_more, byte_at-is}
use Rattle.hc_record.proofs.Steps.{either_way}
use Rattle.hc_record.proofs.Bounds.{byte_fits, bytes_fit, ones_fit, none_fit}

-- a number with one byte more after it
abbrev pub with_byte : ℕ → ℕ → ℕ
with_byte = λ high byte. high * 256 + byte

-- ---- bytes and their number

-- the low w bytes of a number, read after what is above them, give the number
number_again : (w n : ℕ) → fold with_byte (n / 256 ^ w) (bytes_high_first w n) ≡ n
number_again zero n = omega arith
number_again (suc k) n =
    let next : n / 256 ^ suc k * 256 + byte_at k n ≡ n / 256 ^ k = rw (one_byte_more n k, byte_at-is k n) (shr_split (n / 256 ^ k) 8) in
    ap (λ (a : ℕ). fold with_byte a (bytes_high_first k n)) next ∙ number_again k n

-- above the bytes of what was read is what was there before them
above_again : (above : ℕ) (bytes : List ℕ) → IsBytes bytes → fold with_byte above bytes / 256 ^ length bytes ≡ above
above_again above [] fits = omega arith
above_again above (b ∷ bytes) fits =
    one_byte_more (fold with_byte (above * 256 + b) bytes) (length bytes)
    ∙ ap (λ (n : ℕ). n / 256) (above_again (above * 256 + b) bytes (IsBytes-rest b bytes fits))
    ∙ (let e : (above * 256 + b) / 256 ≡ above = omega (arith, fits 0) in e)

-- what was read from some bytes has these bytes
bytes_again : (above : ℕ) (bytes : List ℕ) → IsBytes bytes → bytes_high_first (length bytes) (fold with_byte above bytes) ≡ bytes
bytes_again above [] fits = refl
bytes_again above (b ∷ bytes) fits =
    let first : byte_at (length bytes) (fold with_byte (above * 256 + b) bytes) ≡ b =
    byte_at-is (length bytes) (fold with_byte (above * 256 + b) bytes)
    ∙ ap (λ (n : ℕ). n % 256) (above_again (above * 256 + b) bytes (IsBytes-rest b bytes fits))
    ∙ (let e : (above * 256 + b) % 256 ≡ b = omega (arith, fits 0) in e) in
    ap (λ (c : ℕ). c ∷ bytes_high_first (length bytes) (fold with_byte (above * 256 + b) bytes)) first
    ∙ ap (λ (l : List ℕ). b ∷ l) (bytes_again (above * 256 + b) bytes (IsBytes-rest b bytes fits))

-- what k bytes hold, with more bytes after it, is held in so many more
number_fits : (k above : ℕ) (bytes : List ℕ) → IsBytes bytes → above < 256 ^ k → fold with_byte above bytes < 256 ^ (k + length bytes)
number_fits k above [] fits lt = subst (λ (e : ℕ). above < 256 ^ e) (let e : k ≡ k + 0 = omega arith in e) lt
number_fits k above (b ∷ bytes) fits lt =
    subst (λ (e : ℕ). fold with_byte (above * 256 + b) bytes < 256 ^ e) (let e : k + 1 + length bytes ≡ k + suc (length bytes) = omega arith in e)
    (number_fits (k + 1) (above * 256 + b) bytes (IsBytes-rest b bytes fits) (byte_fits above k b lt (fits 0)))

-- a number in w bytes takes w bytes
pub length-high_first : (w n : ℕ) → length (bytes_high_first w n) ≡ w
length-high_first zero n = refl
length-high_first (suc k) n = ap suc (length-high_first k n)

-- the bits above at most eight bytes are a number of the other bytes
above_fits : (bytes : List ℕ) → length bytes ≤ 8 → bits_above bytes < 256 ^ (8 - length bytes)
above_fits bytes short = either_way (λ (n : ℕ). n < 256 ^ (8 - length bytes)) (get_or bytes 0 0) 128 0 (2 ^ (64 - 8 * length bytes) - 1) (λ _. none_fit (8 - length bytes)) (λ _. ones_fit (length bytes) short)

-- at most eight bytes and the bits above them are a number of 64 bits
pub bits_fit : (bytes : List ℕ) → IsBytes bytes → length bytes ≤ 8 → fold with_byte (bits_above bytes) bytes < 2 ^ 64
bits_fit bytes fits short =
    bytes_fit (fold with_byte (bits_above bytes) bytes) (8 - length bytes + length bytes) (omega (arith, short)) (number_fits (8 - length bytes) (bits_above bytes) bytes fits (above_fits bytes short))

-- what is read as an integer has these bytes
pub integer_found : (bytes : List ℕ) → IsBytes bytes → length bytes ≤ 8 → bytes_high_first (length bytes) (cast_unsigned w64 (integer_of bytes)) ≡ bytes
integer_found bytes fits short =
    ap (bytes_high_first (length bytes)) (of_z-to_z w64 (fold with_byte (bits_above bytes) bytes) (bits_fit bytes fits short))
    ∙ bytes_again (bits_above bytes) bytes fits

-- ---- the type of an integer

-- so many bytes hold the number, with a bit for its sign
abbrev pub IsTypeOf : ℕ → ℕ → Type 0
IsTypeOf steps t = (1 ≤ t) × (t ≤ 6) × (1 ≤ body_len t) × (body_len t ≤ 8) × (steps < 2 ^ 63 → steps < 2 ^ (8 * body_len t - 1))

-- the type of an integer of so many steps from 0 has room for it and its sign
pub type_of_magnitude_is : (steps : ℕ) → IsTypeOf steps (type_of_magnitude steps)
unfolding type_of_magnitude body_len
type_of_magnitude_is steps =
    let P : ℕ → Type 0 = IsTypeOf steps in
    either_way P steps (2 ^ 7) 1 _ (λ lt. (omega arith, omega arith, omega arith, omega arith, λ _. lt)) (λ _.
    either_way P steps (2 ^ 15) 2 _ (λ lt. (omega arith, omega arith, omega arith, omega arith, λ _. lt)) (λ _.
    either_way P steps (2 ^ 23) 3 _ (λ lt. (omega arith, omega arith, omega arith, omega arith, λ _. lt)) (λ _.
    either_way P steps (2 ^ 31) 4 _ (λ lt. (omega arith, omega arith, omega arith, omega arith, λ _. lt)) (λ _.
    either_way P steps (2 ^ 47) 5 6 (λ lt. (omega arith, omega arith, omega arith, omega arith, λ _. lt)) (λ _. (omega arith, omega arith, omega arith, omega arith, λ lt. lt))))))

-- the type of an integer is one of six with a body, or one of two without
pub int_types : (z : ℤ) → ((1 ≤ type_of_int z) × (type_of_int z ≤ 6)) ⊎ ((z ≡ pos (type_of_int z - 8)) × (8 ≤ type_of_int z) × (type_of_int z ≤ 9))
int_types (pos n) =
    either_way (λ (t : ℕ). ((1 ≤ t) × (t ≤ 6)) ⊎ ((pos n ≡ pos (t - 8)) × (8 ≤ t) × (t ≤ 9))) n 2 (8 + n) (type_of_magnitude n)
    (λ lt. inr (ap pos (omega arith), omega arith, omega (arith, lt)))
    (λ le. inl ((type_of_magnitude_is n).0, (type_of_magnitude_is n).1))
int_types (negsuc n) = inl ((type_of_magnitude_is n).0, (type_of_magnitude_is n).1)

-- a choice of two that are at most 8 is at most 8
at_most_8 : (b : Bool) (x y : ℕ) → x ≤ 8 → y ≤ 8 → cond b x y ≤ 8
at_most_8 true x y p q = p
at_most_8 false x y p q = q

-- a type up to 9 has a body of at most eight bytes
pub small_body : (t : ℕ) → t ≤ 9 → body_len t ≤ 8
unfolding body_len
small_body t small =
    either_way (λ (n : ℕ). n ≤ 8) t 5 t _ (λ lt. omega (arith, lt)) (λ _.
    at_most_8 (t == 5) 6 _ (omega arith) (at_most_8 (t == 6) 8 _ (omega arith) (either_way (λ (n : ℕ). n ≤ 8) t 12 0 ((t - 12) / 2) (λ _. omega arith) (λ _. omega arith))))

-- an integer has a body of at most eight bytes
pub int_body_len : (z : ℤ) → body_len (type_of_int z) ≤ 8
int_body_len z = small_body (type_of_int z) (elim (int_types z) [ inl some ↦ omega (arith, some.1) | inr none ↦ none.2 ])

-- ---- what is written is read again

-- the bits above so many bytes, and the bit that tells them, of a number that the bytes hold with its sign
positive_top : (w n : ℕ) → 1 ≤ w → w ≤ 8 → n < 2 ^ (8 * w - 1) → (n / 256 ^ w ≡ 0) × (byte_at (w - 1) n < 128)
positive_top zero n one most lt = absurd (omega arith)
positive_top (suc zero) n one most lt = (omega arith, omega arith)
positive_top (suc (suc zero)) n one most lt = (omega arith, omega arith)
positive_top (suc (suc (suc zero))) n one most lt = (omega arith, omega arith)
positive_top (suc (suc (suc (suc zero)))) n one most lt = (omega arith, omega arith)
positive_top (suc (suc (suc (suc (suc zero))))) n one most lt = (omega arith, omega arith)
positive_top (suc (suc (suc (suc (suc (suc zero)))))) n one most lt = (omega arith, omega arith)
positive_top (suc (suc (suc (suc (suc (suc (suc zero))))))) n one most lt = (omega arith, omega arith)
positive_top (suc (suc (suc (suc (suc (suc (suc (suc zero)))))))) n one most lt = (omega arith, omega arith)
positive_top (suc (suc (suc (suc (suc (suc (suc (suc (suc w))))))))) n one most lt = absurd (omega arith)

-- the same of a negative number: the bits above are ones
negative_top : (w n m : ℕ) → 1 ≤ w → w ≤ 8 → m < 2 ^ (8 * w - 1) → n + m + 1 ≡ 2 ^ 64 → (n / 256 ^ w ≡ 2 ^ (64 - 8 * w) - 1) × (128 ≤ byte_at (w - 1) n)
negative_top zero n m one most lt e = absurd (omega arith)
negative_top (suc zero) n m one most lt e = (omega arith, omega arith)
negative_top (suc (suc zero)) n m one most lt e = (omega arith, omega arith)
negative_top (suc (suc (suc zero))) n m one most lt e = (omega arith, omega arith)
negative_top (suc (suc (suc (suc zero)))) n m one most lt e = (omega arith, omega arith)
negative_top (suc (suc (suc (suc (suc zero))))) n m one most lt e = (omega arith, omega arith)
negative_top (suc (suc (suc (suc (suc (suc zero)))))) n m one most lt e = (omega arith, omega arith)
negative_top (suc (suc (suc (suc (suc (suc (suc zero))))))) n m one most lt e = (omega arith, omega arith)
negative_top (suc (suc (suc (suc (suc (suc (suc (suc zero)))))))) n m one most lt e = (omega arith, omega arith)
negative_top (suc (suc (suc (suc (suc (suc (suc (suc (suc w))))))))) n m one most lt e = absurd (omega arith)

-- the first of w bytes is the highest of them
first_byte : (w n : ℕ) → 1 ≤ w → get_or (bytes_high_first w n) 0 0 ≡ byte_at (w - 1) n
first_byte zero n one = absurd (omega arith)
first_byte (suc k) n one = ap (λ (i : ℕ). byte_at i n) (let e : k ≡ suc k - 1 = omega arith in e)

-- the bits above the body of a number that it holds
above_is : (w n above : ℕ) → 1 ≤ w → (((n / 256 ^ w ≡ 0) × (byte_at (w - 1) n < 128)) ⊎ ((n / 256 ^ w ≡ 2 ^ (64 - 8 * w) - 1) × (128 ≤ byte_at (w - 1) n))) → bits_above (bytes_high_first w n) ≡ n / 256 ^ w
above_is w n above one which =
    let first = first_byte w n one in
    elim which [
      | inl low ↦ rw (first, lt-ltb _ _ low.1, low.0) refl
      | inr high ↦ rw (first, le-ltb _ _ high.1, high.0, length-high_first w n) refl
    ]

-- a number that w bytes hold with its sign is read from them again
bits_again : (w n : ℕ) → 1 ≤ w → (((n / 256 ^ w ≡ 0) × (byte_at (w - 1) n < 128)) ⊎ ((n / 256 ^ w ≡ 2 ^ (64 - 8 * w) - 1) × (128 ≤ byte_at (w - 1) n))) → fold with_byte (bits_above (bytes_high_first w n)) (bytes_high_first w n) ≡ n
bits_again w n one which = ap (λ (a : ℕ). fold with_byte a (bytes_high_first w n)) (above_is w n 0 one which) ∙ number_again w n

-- an integer that has a body is read from it
pub integer_again : (z : ℤ) → FitsSigned w64 z → type_of_int z ≤ 6 → integer_of (bytes_high_first (body_len (type_of_int z)) (cast_unsigned w64 z)) ≡ z
integer_again (pos n) fits small =
    let steps : (1 ≤ body_len (type_of_int (pos n))) × (n < 2 ^ (8 * body_len (type_of_int (pos n)) - 1)) =
    with_body n fits.sfits small in
    ap (cast_signed w64) (bits_again (body_len (type_of_int (pos n))) n steps.0 (inl (positive_top (body_len (type_of_int (pos n))) n steps.0 (int_body_len (pos n)) steps.1)))
    ∙ to_z-of_z w64 (pos n) fits
  where
    with_body : (n : ℕ) → n < 2 ^ 63 → type_of_int (pos n) ≤ 6 → (1 ≤ body_len (type_of_int (pos n))) × (n < 2 ^ (8 * body_len (type_of_int (pos n)) - 1))
    with_body n fits =
        either_way (λ (t : ℕ). t ≤ 6 → (1 ≤ body_len t) × (n < 2 ^ (8 * body_len t - 1))) n 2 (8 + n) (type_of_magnitude n) (λ _ bad. absurd (omega (arith, bad))) (λ _ _. ((type_of_magnitude_is n).2, (type_of_magnitude_is n).4 fits))
integer_again (negsuc m) fits small =
    let t = type_of_magnitude_is m in
    let n : ℕ = cast_unsigned w64 (negsuc m) in
    ap (cast_signed w64) (bits_again (body_len (type_of_magnitude m)) (cast_unsigned w64 (negsuc m)) t.2 (inr (negative_top (body_len (type_of_magnitude m)) (cast_unsigned w64 (negsuc m)) m t.2 t.3 (t.4 fits.sfits) (omega (arith, fits.sfits)))))
    ∙ to_z-of_z w64 (negsuc m) fits
