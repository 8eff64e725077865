-- A value, read by the class that its first byte tells.
use Rattle.std.proofs.Common.{◌≡◌, ◌≢◌, ◌∙◌, ap, ℕ, ◌<◌, ◌≤◌, ◌⊎◌, inl, inr, ℤ, pos, negsuc, List, [], ◌∷◌, ◌++◌, None, refl, sym, subst, arith, w64, FitsSigned, codes}
use Rattle.std.specs.Str.{IsUtf8}
use Rattle.std.specs.Fmt.{signed_decimal}
use Rattle.std.proofs.lemmas.List.{append_cancel_left}
use Rattle.hc_value.specs.declared.value.Value.{Value}
use Rattle.hc_value.specs.declared.value.Value.TheVariants.{Null, Int, Text, Blob}
use Rattle.hc_transcript.specs.Literals.{text_literal, blob_literal, value_text}
use Rattle.hc_transcript.specs.Literals.{IsPrintable}
use Rattle.hc_reply.specs.Blobs.{IsBlob}
use Rattle.hc_reply.specs.Mismatches.{NoDigit, NoQuote, EndsValue, EndsAfter, SameFirst, Anything, IsMismatch, NotFirst}
use Rattle.hc_reply.specs.Words.{IsWord, the_word}
use Rattle.hc_reply.proofs.Texts.{text_free}
use Rattle.hc_reply.proofs.Blobs.{blob_free}
use Rattle.hc_reply.proofs.Integers.{decimal_head, integer_free}
use Rattle.hc_reply.proofs.FirstBytes.{same_ends, same_after, head_there}

-- which byte a value begins with
abbrev HeadOf : Value → ℕ → Type 0
HeadOf Null b = b ≡ 78
HeadOf (Int n) b = (b ≡ 45) ⊎ ((48 ≤ b) × (b < 58))
HeadOf (Text text) b = b ≡ 39
HeadOf (Blob bytes) b = b ≡ 88

-- an integer begins with a minus or a digit
integer_head : (z : ℤ) (following : List ℕ) (b : ℕ) (o : List ℕ) → FitsSigned w64 z → signed_decimal z ++ following ≡ b ∷ o → (b ≡ 45) ⊎ ((48 ≤ b) × (b < 58))
integer_head (pos n) following b o fits e = inr (decimal_head n following b o (omega (arith, fits)) e)
integer_head (negsuc n) following b o fits e = inl (let h : 45 ≡ b = cc in sym h)

-- the first byte of a value tells its class
head_of : (v : Value) (following : List ℕ) (b : ℕ) (o : List ℕ) → IsPrintable v → value_text v ++ following ≡ b ∷ o → HeadOf v b
head_of Null following b o fits e = let h : 78 ≡ b = cc in sym h
head_of (Int n) following b o fits e = integer_head n following b o fits.0 e
head_of (Text text) following b o fits e = let h : 39 ≡ b = cc in sym h
head_of (Blob bytes) following b o fits e = let h : 88 ≡ b = cc in sym h

-- a mismatch in a value
abbrev Mismatched : List ℕ → List ℕ → Type 0
Mismatched bytes rest = IsMismatch EndsValue IsPrintable value_text bytes rest

-- where an N comes first, a mismatch in the word is a mismatch in the value
pub null_stuck : (bytes rest t : List ℕ) → bytes ≡ 78 ∷ t → IsMismatch Anything IsWord (the_word (codes "NULL")) bytes rest → Mismatched bytes rest
null_stuck bytes rest t first s = record {
  before = s.before;
  splits = s.splits;
  value = Null;
  more = s.more;
  has = (tt, tt);
  begins = s.begins;
  none = λ v following other fits ends same e.
      let o = head_there bytes s.before rest other t 78 s.splits first same in
      only v (head_of v following 78 o.0 fits (e ∙ o.1)) following other same e;
}
  where
    only : (v : Value) → HeadOf v 78 → (following other : List ℕ) → SameFirst rest other → value_text v ++ following ≡ s.before ++ other → ⊥
    only Null h following other same e = s.none tt following other tt tt same e
    only (Int n) (inl h) following other same e = omega (arith, h)
    only (Int n) (inr h) following other same e = omega (arith, h.1)
    only (Text text) h following other same e = omega (arith, h)
    only (Blob bytes) h following other same e = omega (arith, h)

-- where a quote comes first, a mismatch in the text is a mismatch in the value
pub text_stuck : (bytes rest t : List ℕ) → bytes ≡ 39 ∷ t → IsMismatch NoQuote IsUtf8 text_literal bytes rest → Mismatched bytes rest
text_stuck bytes rest t first s = record {
  before = s.before;
  splits = s.splits;
  value = Text s.value;
  more = s.more;
  has = (s.has, tt);
  begins = s.begins;
  none = λ v following other fits ends same e.
      let o = head_there bytes s.before rest other t 39 s.splits first same in
      only v fits (head_of v following 39 o.0 fits (e ∙ o.1)) following other ends same e;
}
  where
    only : (v : Value) → IsPrintable v → HeadOf v 39 → (following other : List ℕ) → EndsValue following → SameFirst rest other → value_text v ++ following ≡ s.before ++ other → ⊥
    only Null fits h following other ends same e = omega (arith, h)
    only (Int n) fits (inl h) following other ends same e = omega (arith, h)
    only (Int n) fits (inr h) following other ends same e = omega (arith, h.0)
    only (Text text) fits h following other ends same e = s.none text following other fits.0 ends.1 same e
    only (Blob bytes) fits h following other ends same e = omega (arith, h)

-- where an X comes first, a mismatch in the blob is a mismatch in the value
pub blob_stuck : (bytes rest t : List ℕ) → bytes ≡ 88 ∷ t → IsMismatch Anything (IsBlob None) blob_literal bytes rest → Mismatched bytes rest
blob_stuck bytes rest t first s = record {
  before = s.before;
  splits = s.splits;
  value = Blob s.value;
  more = s.more;
  has = (tt, s.has.0);
  begins = s.begins;
  none = λ v following other fits ends same e.
      let o = head_there bytes s.before rest other t 88 s.splits first same in
      only v fits (head_of v following 88 o.0 fits (e ∙ o.1)) following other same e;
}
  where
    only : (v : Value) → IsPrintable v → HeadOf v 88 → (following other : List ℕ) → SameFirst rest other → value_text v ++ following ≡ s.before ++ other → ⊥
    only Null fits h following other same e = omega (arith, h)
    only (Int n) fits (inl h) following other same e = omega (arith, h)
    only (Int n) fits (inr h) following other same e = omega (arith, h.1)
    only (Text text) fits h following other same e = omega (arith, h)
    only (Blob bytes) fits h following other same e = s.none bytes following other (fits.1, tt) tt same e

-- no value but an integer begins so
abbrev pub MayBeInteger : List ℕ → Type 0
MayBeInteger [] = Unit {0}
MayBeInteger (b ∷ rest) = (b ≢ 78) × (b ≢ 39) × (b ≢ 88)

-- what begins with no N, no quote and no X
pub may_be_integer : (bytes : List ℕ) → NotFirst 78 bytes → NotFirst 39 bytes → NotFirst 88 bytes → MayBeInteger bytes
may_be_integer [] n q x = tt
may_be_integer (b ∷ rest) n q x = (n, q, x)

-- where no other value begins so, a mismatch in the integer is a mismatch in the value
pub integer_stuck : (bytes rest : List ℕ) → MayBeInteger bytes → IsMismatch NoDigit (FitsSigned w64) signed_decimal bytes rest → Mismatched bytes rest
integer_stuck bytes rest may s = record {
  before = s.before;
  splits = s.splits;
  value = Int s.value;
  more = s.more;
  has = (s.has, tt);
  begins = s.begins;
  none = λ v following other fits ends same e. only v fits following other ends same e;
}
  where
    may_there : (before other : List ℕ) → bytes ≡ before ++ rest → SameFirst rest other → MayBeInteger (before ++ other)
    may_there before other splits same =
        same_ends MayBeInteger (λ b rest other none. none) (before ++ rest) (before ++ other) (same_after before rest other same) (subst MayBeInteger splits may)

    only : (v : Value) → IsPrintable v → (following other : List ℕ) → EndsValue following → SameFirst rest other → value_text v ++ following ≡ s.before ++ other → ⊥
    only Null fits following other ends same e = (subst MayBeInteger (sym e) (may_there s.before other s.splits same)).0 refl
    only (Int n) fits following other ends same e = s.none n following other fits.0 ends.0 same e
    only (Text text) fits following other ends same e = (subst MayBeInteger (sym e) (may_there s.before other s.splits same)).1 refl
    only (Blob bytes) fits following other ends same e = (subst MayBeInteger (sym e) (may_there s.before other s.splits same)).2 refl

-- two values at the front of the same bytes are the same
pub value_free : (v w : Value) (r s : List ℕ) → IsPrintable v → IsPrintable w → EndsAfter v r → EndsAfter w s → value_text v ++ r ≡ value_text w ++ s → (v ≡ w) × (r ≡ s)
value_free Null Null r s p q er es e = (refl, append_cancel_left (codes "NULL") r s e)
value_free Null (Int n) r s p q er es e = absurd (by (integer_head n s 78 (85 ∷ 76 ∷ 76 ∷ r) q.0 (sym e)))
  where
    by : (◌≡◌ {A = ℕ} 78 45) ⊎ ((48 ≤ 78) × (78 < 58)) → ⊥
    by (inl h) = omega (arith, h)
    by (inr h) = omega (arith, h.1)
value_free Null (Text text) r s p q er es e = absurd (let h : ◌≡◌ {A = ℕ} 78 39 = cc in omega (arith, h))
value_free Null (Blob bytes) r s p q er es e = absurd (let h : ◌≡◌ {A = ℕ} 78 88 = cc in omega (arith, h))
value_free (Int n) Null r s p q er es e = absurd (by (integer_head n r 78 (85 ∷ 76 ∷ 76 ∷ s) p.0 e))
  where
    by : (◌≡◌ {A = ℕ} 78 45) ⊎ ((48 ≤ 78) × (78 < 58)) → ⊥
    by (inl h) = omega (arith, h)
    by (inr h) = omega (arith, h.1)
value_free (Int m) (Int n) r s p q er es e = let both = integer_free m n r s p.0 q.0 er es e in (ap Int both.0, both.1)
value_free (Int n) (Text text) r s p q er es e = absurd (by (integer_head n r 39 _ p.0 e))
  where
    by : (◌≡◌ {A = ℕ} 39 45) ⊎ ((48 ≤ 39) × (39 < 58)) → ⊥
    by (inl h) = omega (arith, h)
    by (inr h) = omega (arith, h.0)
value_free (Int n) (Blob bytes) r s p q er es e = absurd (by (integer_head n r 88 _ p.0 e))
  where
    by : (◌≡◌ {A = ℕ} 88 45) ⊎ ((48 ≤ 88) × (88 < 58)) → ⊥
    by (inl h) = omega (arith, h)
    by (inr h) = omega (arith, h.1)
value_free (Text text) Null r s p q er es e = absurd (let h : ◌≡◌ {A = ℕ} 39 78 = cc in omega (arith, h))
value_free (Text text) (Int n) r s p q er es e = absurd (by (integer_head n s 39 _ q.0 (sym e)))
  where
    by : (◌≡◌ {A = ℕ} 39 45) ⊎ ((48 ≤ 39) × (39 < 58)) → ⊥
    by (inl h) = omega (arith, h)
    by (inr h) = omega (arith, h.0)
value_free (Text a) (Text b) r s p q er es e = let both = text_free a b r s p.0 q.0 er es e in (ap Text both.0, both.1)
value_free (Text text) (Blob bytes) r s p q er es e = absurd (let h : ◌≡◌ {A = ℕ} 39 88 = cc in omega (arith, h))
value_free (Blob bytes) Null r s p q er es e = absurd (let h : ◌≡◌ {A = ℕ} 88 78 = cc in omega (arith, h))
value_free (Blob bytes) (Int n) r s p q er es e = absurd (by (integer_head n s 88 _ q.0 (sym e)))
  where
    by : (◌≡◌ {A = ℕ} 88 45) ⊎ ((48 ≤ 88) × (88 < 58)) → ⊥
    by (inl h) = omega (arith, h)
    by (inr h) = omega (arith, h.1)
value_free (Blob bytes) (Text text) r s p q er es e = absurd (let h : ◌≡◌ {A = ℕ} 88 39 = cc in omega (arith, h))
value_free (Blob a) (Blob b) r s p q er es e = let both = blob_free None a b r s (p.1, tt) (q.1, tt) tt tt e in (ap Blob both.0, both.1)
