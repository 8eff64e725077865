-- Byte strings as lists of numbers below 256, and the bytes of a number.
use Rattle.std.proofs.Common.{◌≡◌, ℕ, zero, suc, ◌+◌, ◌/◌, ◌%◌, ◌^◌, ◌<◌, List, [], ◌∷◌, ◌++◌, get_or, take, drop, refl, sym, ap, ◌∙◌, arith, inl, inr}
use Rattle.std.specs.Prelude.{replicate}
use Rattle.std.specs.Int.{byte_at}
use Rattle.std.proofs.Math.Nat.{pow-suc, div-div-eq-div-mul}
use Rattle.std.proofs.lemmas.Bool.{cases_lt}
use Rattle.std.proofs.lemmas.List.{length-take, get_or-drop, get_or-take, get_or_past}

-- each number of the list is a byte
abbrev pub IsBytes : List ℕ → Type 0
IsBytes bytes = (i : ℕ) → get_or bytes i 0 < 256

-- what follows the first of some bytes is bytes
pub IsBytes-rest : (b : ℕ) (bytes : List ℕ) → IsBytes (b ∷ bytes) → IsBytes bytes
IsBytes-rest b bytes fits i = fits (suc i)

-- what follows the first n of some bytes is bytes
pub IsBytes-drop : (n : ℕ) (bytes : List ℕ) → IsBytes bytes → IsBytes (drop n bytes)
IsBytes-drop n bytes fits i = rw get_or-drop (fits (n + i))

-- the first n of some bytes are bytes
pub IsBytes-take : (n : ℕ) (bytes : List ℕ) → IsBytes bytes → IsBytes (take n bytes)
IsBytes-take n bytes fits i =
    elim (cases_lt i n) [
      | inl lt ↦ rw (get_or-take n bytes i 0 lt) (fits i)
      | inr le ↦ rw (get_or_past (take n bytes) i 0 (omega (arith, length-take n bytes))) (omega arith)
    ]

-- zeros are bytes
IsBytes-zeros : (k : ℕ) → IsBytes (replicate k 0)
IsBytes-zeros zero i = omega arith
IsBytes-zeros (suc k) zero = omega arith
IsBytes-zeros (suc k) (suc i) = IsBytes-zeros k i

-- bytes with zeros after them are bytes
pub IsBytes-padded : (bytes : List ℕ) (k : ℕ) → IsBytes bytes → IsBytes (bytes ++ replicate k 0)
IsBytes-padded [] k fits i = IsBytes-zeros k i
IsBytes-padded (b ∷ bytes) k fits zero = fits 0
IsBytes-padded (b ∷ bytes) k fits (suc i) = IsBytes-padded bytes k (IsBytes-rest b bytes fits) i

-- a number without its low k + 1 bytes is that without its low k bytes, without the lowest of them
pub one_byte_more : (n k : ℕ) → n / 256 ^ suc k ≡ n / 256 ^ k / 256
one_byte_more n k = ap (λ (p : ℕ). n / p) (pow-suc 256 k) ∙ sym (div-div-eq-div-mul n (256 ^ k) 256)

-- byte k of a number is the lowest of the number without its low k bytes
pub byte_at-is : (k n : ℕ) → byte_at k n ≡ n / 256 ^ k % 256
byte_at-is zero n = ap (λ (m : ℕ). m % 256) (let e : n ≡ n / 1 = omega arith in e)
byte_at-is (suc k) n = refl
