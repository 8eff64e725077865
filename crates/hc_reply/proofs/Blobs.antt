-- A blob literal, read up to its end or up to a fault.
use Rattle.std.proofs.Common.{◌≡◌, ◌∙◌, ap, ℕ, ◌+◌, ◌*◌, ◌/◌, ◌%◌, ◌<◌, ◌≤◌, ◌⊎◌, inl, inr, List, [], ◌∷◌, ◌++◌, Option, Some, None, length, refl, sym, subst, append_assoc, arith}
use Rattle.std.proofs.lemmas.Grind.{flat_map-append}
use Rattle.std.proofs.lemmas.List.{append-nil, length-append}
use Rattle.hc_text.specs.Digits.{hex_digit, byte_digits}
use Rattle.hc_text.proofs.HexDigits.{hex_digit_range, same_hex_digit}
use Rattle.hc_transcript.specs.Literals.{hex, blob_literal}
use Rattle.hc_text.specs.Bytes.{AreBytes}
use Rattle.hc_reply.specs.Blobs.{IsWithinLimit, IsBlob, NoHexDigit}
use Rattle.hc_reply.specs.Mismatches.{NoQuote, SameFirst, Anything, IsMismatch}
use Rattle.hc_reply.proofs.FirstBytes.{IsPrefixFree, same_ends, no_quote_there, same_byte}

-- no digit is a quote
no_quote_digit : (d : ℕ) → d < 16 → 39 ≡ hex_digit d → ⊥
no_quote_digit d small e = by (hex_digit_range d small)
  where
    by : ((48 ≤ hex_digit d) × (hex_digit d < 58)) ⊎ ((65 ≤ hex_digit d) × (hex_digit d < 71)) → ⊥
    by (inl low) = omega (arith, e, low.0)
    by (inr high) = omega (arith, e, high.0)

-- the bytes go on after `out` with others: y is the digits of those, the quote, and what is after
abbrev After : List ℕ → List ℕ → List ℕ → List ℕ → Type 0
After out v following y = (d : List ℕ) × (v ≡ out ++ d) × AreBytes d × (hex d ++ 39 ∷ following ≡ y)

-- bytes whose digits begin with those of `out` begin with `out`
goes_on_with : (out v following y : List ℕ) → AreBytes out → AreBytes v → hex v ++ 39 ∷ following ≡ hex out ++ y → After out v following y
goes_on_with [] v following y small fits e = (v, refl, fits, e)
goes_on_with (o ∷ out) [] following y small fits e =
    let first : 39 ≡ hex_digit (o / 16) = cc in
    let byte : o < 256 = small.0 in
    absurd (no_quote_digit (o / 16) (omega arith) first)
goes_on_with (o ∷ out) (x ∷ v) following y small fits e =
    let first : hex_digit (x / 16) ≡ hex_digit (o / 16) = cc in
    let second : hex_digit (x % 16) ≡ hex_digit (o % 16) = cc in
    let rest : hex v ++ 39 ∷ following ≡ hex out ++ y = cc in
    let byte : o < 256 = small.0 in
    let other : x < 256 = fits.0 in
    let highs = same_hex_digit (x / 16) (o / 16) (omega arith) (omega arith) first in
    let lows = same_hex_digit (x % 16) (o % 16) (omega arith) (omega arith) second in
    let same : x ≡ o = omega (arith, highs, lows) in
    let more = goes_on_with out v following y small.1 fits.1 rest in
    (more.0, (λ i. same i ∷ more.1 i), more.2, more.3)

-- what begins with these digits
abbrev pub begun : List ℕ → List ℕ
begun out = 88 ∷ 39 ∷ hex out

-- a literal and what is after it, by its quotes
blob_after : (v following : List ℕ) → blob_literal v ++ following ≡ 88 ∷ 39 ∷ (hex v ++ 39 ∷ following)
blob_after v following = ap (λ (l : List ℕ). 88 ∷ 39 ∷ l) (append_assoc (hex v) (39 ∷ []) following)

-- a literal that begins with these digits is one of bytes that begin with these
blobs_after : (out v following other : List ℕ) → AreBytes out → AreBytes v → blob_literal v ++ following ≡ begun out ++ other → After out v following other
blobs_after out v following other small fits e =
    let inner : hex v ++ 39 ∷ following ≡ hex out ++ other = let h : 88 ∷ 39 ∷ (hex v ++ 39 ∷ following) ≡ 88 ∷ 39 ∷ (hex out ++ other) = sym (blob_after v following) ∙ e in cc in
    goes_on_with out v following other small fits inner

module _ (limit : Option ℕ) where
  -- a mismatch in a literal of bytes within the limit
  abbrev Mismatched : List ℕ → List ℕ → Type 0
  Mismatched bytes rest = IsMismatch Anything (IsBlob limit) blob_literal bytes rest

  -- no literal begins another
  pub blob_free : IsPrefixFree Anything (IsBlob limit) blob_literal
  blob_free v w r s isv isw any more e =
      let b = blobs_after w v r (39 ∷ s) isw.0 isv.0 (e ∙ blob_after w s) in
      by b.0 b.1 b.2 b.3
    where
      by : (d : List ℕ) → v ≡ w ++ d → AreBytes d → hex d ++ 39 ∷ r ≡ 39 ∷ s → (v ≡ w) × (r ≡ s)
      by [] is fits same = let rest : r ≡ s = cc in (is ∙ append-nil w, rest)
      by (x ∷ d) is fits same =
          let first : 39 ≡ hex_digit (x / 16) = cc in
          let byte : x < 256 = fits.0 in
          absurd (no_quote_digit (x / 16) (omega arith) first)

  -- what comes after what was read: an end, or the digits of a byte
  comes : (P : Type 0) (d following other : List ℕ) → AreBytes d → hex d ++ 39 ∷ following ≡ other → (d ≡ [] → other ≡ 39 ∷ following → P)
      → ((x : ℕ) (e rest : List ℕ) → d ≡ x ∷ e → x < 256 → other ≡ hex_digit (x / 16) ∷ hex_digit (x % 16) ∷ rest → P) → P
  comes P [] following other fits e ends goes = ends refl (sym e)
  comes P (x ∷ d) following other fits e ends goes = goes x d (hex d ++ 39 ∷ following) refl fits.0 (sym e)

  -- where no digit is, none is in what begins with the same byte
  not_hex : (rest other : List ℕ) → SameFirst rest other → NoHexDigit rest → NoHexDigit other
  not_hex = same_ends NoHexDigit (λ b rest other none d left small e. none d rest small (let first : b ≡ hex_digit d = cc in ap (λ (k : ℕ). k ∷ rest) first))

  -- a mismatch after what was read, where no blob goes on
  mismatch_there : (out bytes rest : List ℕ) → IsBlob limit out → bytes ≡ begun out ++ rest
      → ((v following other : List ℕ) → IsBlob limit v → SameFirst rest other → After out v following other → ⊥) → Mismatched bytes rest
  mismatch_there out bytes rest is all none = record {
    before = begun out;
    splits = all;
    value = out;
    more = 39 ∷ [];
    has = is;
    begins = refl;
    none = λ v following other fits ends same e. none v following other fits same (blobs_after out v following other is.0 fits.0 e);
  }

  -- a mismatch where neither a digit nor the quote is
  pub mismatch_at_end : (out bytes rest : List ℕ) → IsBlob limit out → bytes ≡ begun out ++ rest → NoHexDigit rest → NoQuote rest → Mismatched bytes rest
  mismatch_at_end out bytes rest is all not_digit not_quote = mismatch_there out bytes rest is all (λ v following other fits same b.
      comes ⊥ b.0 following other b.2 b.3
      (λ nothing quote. subst NoQuote quote (no_quote_there rest other same not_quote) refl)
      (λ x d left some byte goes. not_hex rest other same not_digit (x / 16) (hex_digit (x % 16) ∷ left) (omega arith) goes))

  -- what is no longer than something within the limit is within it
  full_at : (n : ℕ) (m : Option ℕ) (k : ℕ) → IsWithinLimit m k → n ≤ k → IsWithinLimit m n
  full_at n None k is le = tt
  full_at n (Some most) k is le = omega (arith, is)

  -- a mismatch at a digit, where the limit has no room for its byte
  pub mismatch_when_full : (out bytes rest following : List ℕ) (d : ℕ) → IsBlob limit out → bytes ≡ begun out ++ rest → d < 16 → rest ≡ hex_digit d ∷ following
      → (IsWithinLimit limit (length out + 1) → ⊥) → Mismatched bytes rest
  mismatch_when_full out bytes rest following d is all small first full = mismatch_there out bytes rest is all (λ v after other fits same b.
      comes ⊥ b.0 after other b.2 b.3
      (λ nothing quote.
      let o = same_byte (hex_digit d) following other (subst (λ (l : List ℕ). SameFirst l other) first same) in
      let there : 39 ≡ hex_digit d = (let h : 39 ∷ after ≡ hex_digit d ∷ o.0 = sym quote ∙ o.1 in cc) in
      no_quote_digit d small there)
      (λ x e rest some byte goes.
      let long : length v ≡ length out + length (x ∷ e) = ap length (b.1 ∙ ap (λ (l : List ℕ). out ++ l) some) ∙ length-append out (x ∷ e) in
      full (full_at (length out + 1) limit (length v) fits.1 (omega (arith, long)))))

  -- bytes with one more after them are bytes
  bytes_more : (out : List ℕ) (b : ℕ) → AreBytes out → b < 256 → AreBytes (out ++ b ∷ [])
  bytes_more [] b are small = (small, tt)
  bytes_more (o ∷ out) b are small = (are.0, bytes_more out b are.1 small)

  -- a blob with one more byte is a blob, where the limit has room for it
  pub blob_more : (out : List ℕ) (b : ℕ) → IsBlob limit out → b < 256 → IsWithinLimit limit (length out + 1) → IsBlob limit (out ++ b ∷ [])
  blob_more out b is small room = (bytes_more out b is.0 small, subst (IsWithinLimit limit) (sym (length-append out (b ∷ []))) room)

  -- the digits of one byte more
  hex_more : (out : List ℕ) (high low : ℕ) → high < 16 → low < 16 → hex (out ++ (high * 16 + low) ∷ []) ≡ hex out ++ hex_digit high ∷ hex_digit low ∷ []
  hex_more out high low h l =
      let first : (high * 16 + low) / 16 ≡ high = omega arith in
      let second : (high * 16 + low) % 16 ≡ low = omega arith in
      flat_map-append byte_digits out ((high * 16 + low) ∷ []) ∙ (λ i. hex out ++ hex_digit (first i) ∷ hex_digit (second i) ∷ [])

  -- a mismatch after the first digit of a byte, where no second one is
  pub mismatch_in_byte : (out bytes rest following : List ℕ) (d : ℕ) → IsBlob limit out → bytes ≡ begun out ++ rest → d < 16 → rest ≡ hex_digit d ∷ following
      → IsWithinLimit limit (length out + 1) → NoHexDigit following → Mismatched bytes following
  mismatch_in_byte out bytes rest following d is all small first room not_digit = record {
    before = begun out ++ hex_digit d ∷ [];
    splits = all ∙ ap (λ (l : List ℕ). begun out ++ l) first ∙ sym (append_assoc (begun out) (hex_digit d ∷ []) following);
    value = out ++ (d * 16 + 0) ∷ [];
    more = hex_digit 0 ∷ 39 ∷ [];
    has = blob_more out (d * 16 + 0) is (omega arith) room;
    begins = ap (λ (l : List ℕ). 88 ∷ 39 ∷ (l ++ 39 ∷ [])) (hex_more out d 0 small (omega arith))
        ∙ ap (λ (l : List ℕ). 88 ∷ 39 ∷ l) (append_assoc (hex out) (hex_digit d ∷ hex_digit 0 ∷ []) (39 ∷ []) ∙ sym (append_assoc (hex out) (hex_digit d ∷ []) (hex_digit 0 ∷ 39 ∷ [])));
    none = λ v after other fits ends same e.
        let b = blobs_after out v after (hex_digit d ∷ other) is.0 fits.0 (e ∙ append_assoc (begun out) (hex_digit d ∷ []) other) in
        comes ⊥ b.0 after (hex_digit d ∷ other) b.2 b.3
        (λ nothing quote. no_quote_digit d small (let h : hex_digit d ≡ 39 = cc in sym h))
        (λ x e left some byte goes. not_hex following other same not_digit (x % 16) left (omega arith) (let h : other ≡ hex_digit (x % 16) ∷ left = cc in h));
  }

  -- with two digits more, one byte more was read
  pub written_further : (out bytes rest following left : List ℕ) (high low : ℕ) → bytes ≡ begun out ++ rest → high < 16 → low < 16 → rest ≡ hex_digit high ∷ following → following ≡ hex_digit low ∷ left
      → bytes ≡ begun (out ++ (high * 16 + low) ∷ []) ++ left
  written_further out bytes rest following left high low all h l first second =
      all ∙ ap (λ (k : List ℕ). begun out ++ k) (first ∙ ap (λ (k : List ℕ). hex_digit high ∷ k) second)
      ∙ sym (append_assoc (begun out) (hex_digit high ∷ hex_digit low ∷ []) left)
      ∙ ap (λ (k : List ℕ). 88 ∷ 39 ∷ (k ++ left)) (sym (hex_more out high low h l))

  -- where the quote is, the bytes begin with the whole literal
  pub ended_here : (out bytes rest left : List ℕ) → bytes ≡ begun out ++ rest → rest ≡ 39 ∷ left → bytes ≡ blob_literal out ++ left
  ended_here out bytes rest left all quote = all ∙ ap (λ (l : List ℕ). begun out ++ l) quote ∙ sym (blob_after out left)

  -- the empty blob is within any limit
  pub nothing_is : IsBlob limit []
  nothing_is = (tt, by limit)
    where
      by : (m : Option ℕ) → IsWithinLimit m 0
      by None = tt
      by (Some most) = omega arith
