-- An integer, read after its minus or without one.
use Rattle.std.proofs.Common.{◌≡◌, ◌∙◌, ap, ℕ, zero, suc, ◌-◌, ◌^◌, ◌<◌, ◌≤◌, ℤ, pos, negsuc, List, [], ◌∷◌, ◌++◌, length, refl, sym, subst, arith, w64, FitsSigned}
use Rattle.std.specs.Prelude.{decimal}
use Rattle.std.specs.Fmt.{signed_decimal}
use Rattle.std.proofs.lemmas.Fmt.{decimal_nonempty}
use Rattle.hc_reply.specs.Numbers.{IsWithin}
use Rattle.hc_reply.specs.Mismatches.{NoDigit, NoMinus, SameFirst, IsMismatch}
use Rattle.hc_reply.proofs.FirstBytes.{IsPrefixFree, same_ends, same_after}
use Rattle.hc_reply.proofs.Digits.{AreDigits, decimal_digits, number_free}

-- the first byte of a number is a digit
pub decimal_head : (n : ℕ) (following : List ℕ) (b : ℕ) (o : List ℕ) → n < 2 ^ 64 → decimal n ++ following ≡ b ∷ o → (48 ≤ b) × (b < 58)
decimal_head n following b o small e = by (decimal n) (decimal_digits n small) (decimal_nonempty n small) e
  where
    by : (ds : List ℕ) → AreDigits ds → 0 < length ds → ds ++ following ≡ b ∷ o → (48 ≤ b) × (b < 58)
    by [] are some e = absurd (omega (arith, some))
    by (d ∷ ds) are some e = let first : d ≡ b = cc in (omega (arith, are.0, first), omega (arith, are.0, first))

-- where no minus comes first, none does in what goes on with the same byte
no_minus_there : (bytes before rest other : List ℕ) → bytes ≡ before ++ rest → SameFirst rest other → NoMinus bytes → NoMinus (before ++ other)
no_minus_there bytes before rest other splits same none =
    same_ends NoMinus (λ b rest other none. none) (before ++ rest) (before ++ other) (same_after before rest other same) (subst NoMinus splits none)

-- a mismatch in an integer of 64 bits
abbrev Mismatched : List ℕ → List ℕ → Type 0
Mismatched bytes rest = IsMismatch NoDigit (FitsSigned w64) signed_decimal bytes rest

-- no integer begins another, where no digit follows
pub integer_free : IsPrefixFree NoDigit (FitsSigned w64) signed_decimal
integer_free (pos m) (pos n) r s p q nr ns e =
    let both = number_free 0 (2 ^ 63 - 1) (omega arith) (omega arith) m n r s (omega arith, omega (arith, p)) (omega arith, omega (arith, q)) nr ns e in
    (ap pos both.0, both.1)
integer_free (pos m) (negsuc n) r s p q nr ns e = absurd (let d = decimal_head m r 45 (decimal (suc n) ++ s) (omega (arith, p)) e in omega (arith, d.0))
integer_free (negsuc m) (pos n) r s p q nr ns e = absurd (let d = decimal_head n s 45 (decimal (suc m) ++ r) (omega (arith, q)) (sym e) in omega (arith, d.0))
integer_free (negsuc m) (negsuc n) r s p q nr ns e =
    let inner : decimal (suc m) ++ r ≡ decimal (suc n) ++ s = cc in
    let both = number_free 1 (2 ^ 63) (omega arith) (omega arith) (suc m) (suc n) r s (omega arith, omega (arith, p)) (omega arith, omega (arith, q)) nr ns inner in
    (ap negsuc (omega (arith, both.0)), both.1)

-- where no minus comes first, a mismatch in the number is a mismatch in the integer
pub mismatch_without_minus : (bytes rest : List ℕ) → NoMinus bytes → IsMismatch NoDigit (IsWithin 0 (2 ^ 63 - 1)) decimal bytes rest → Mismatched bytes rest
mismatch_without_minus bytes rest none s = record {
  before = s.before;
  splits = s.splits;
  value = pos s.value;
  more = s.more;
  has = omega (arith, s.has.1);
  begins = s.begins;
  none = no_other;
}
  where
    no_other : (z : ℤ) (following other : List ℕ) → FitsSigned w64 z → NoDigit following → SameFirst rest other → signed_decimal z ++ following ≡ s.before ++ other → ⊥
    no_other (pos n) following other fits ends same e = s.none n following other (omega arith, omega (arith, fits)) ends same e
    no_other (negsuc n) following other fits ends same e = subst NoMinus (sym e) (no_minus_there bytes s.before rest other s.splits same none) refl

-- and so is one in the number after a minus
pub mismatch_after_minus : (bytes digits rest : List ℕ) → bytes ≡ 45 ∷ digits → IsMismatch NoDigit (IsWithin 1 (2 ^ 63)) decimal digits rest → Mismatched bytes rest
mismatch_after_minus bytes digits rest minus s = by s.value refl
  where
    no_other : (z : ℤ) (following other : List ℕ) → FitsSigned w64 z → NoDigit following → SameFirst rest other → signed_decimal z ++ following ≡ (45 ∷ s.before) ++ other → ⊥
    no_other (pos n) following other fits ends same e = let d = decimal_head n following 45 (s.before ++ other) (omega (arith, fits)) e in omega (arith, d.0)
    no_other (negsuc n) following other fits ends same e = s.none (suc n) following other (omega arith, omega (arith, fits)) ends same (let h : decimal (suc n) ++ following ≡ s.before ++ other = cc in h)

    by : (v : ℕ) → v ≡ s.value → Mismatched bytes rest
    by zero v = absurd (omega (arith, v, s.has.0))
    by (suc n) v = record {
      before = 45 ∷ s.before;
      splits = minus ∙ ap (λ (l : List ℕ). 45 ∷ l) s.splits;
      value = negsuc n;
      more = s.more;
      has = omega (arith, v, s.has.1);
      begins = ap (λ (l : List ℕ). 45 ∷ l) (ap decimal v ∙ s.begins);
      none = no_other;
    }
