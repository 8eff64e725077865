-- The bytes of a text or a blob, read up to their end or up to a fault.
use Rattle.std.proofs.Common.{◌≡◌, ℕ, zero, suc, ◌+◌, ◌-◌, ◌<◌, List, [], ◌∷◌, ◌++◌, length, refl, sym, ap, subst, ◌∙◌, arith, append_assoc}
use Rattle.std.proofs.lemmas.List.{append-nil, length-append}
use Rattle.std.proofs.lemmas.List.Concat.{flat_map-append}
use Rattle.hc_text.specs.declared.utf8.Expected.{Expected}
use Rattle.hc_key.specs.Keys.{escape, escaped, ended}
use Rattle.hc_key.specs.Reading.{IsContent, BeginsOne, NoneGoesOn, IsFaultOf, IsPartFault}
use Rattle.hc_text.specs.Utf8.{Completes, IsOpen, IsNext, IsRefused, HasRead}
use Rattle.hc_text.proofs.Ends.{some_completes}
use Rattle.hc_key.specs.declared.fault.KeyFault.{KeyFault}
use Rattle.hc_key.specs.declared.fault.KeyFault.TheVariants.{Bad}
use Rattle.hc_key.proofs.Bytes.{closed}

-- ---- one byte more

-- after one byte more, what is left to expect is what is expected after that byte
pub goes_further : (f e n : Expected) (out : List ℕ) (b : ℕ) → HasRead f out e → IsNext e b n → HasRead f (out ++ b ∷ []) n
goes_further f e n out b goes next x =
    let same : (out ++ b ∷ []) ++ x ≡ out ++ b ∷ x = append_assoc out (b ∷ []) x in (
      λ h. subst (Completes f) (sym same) ((goes (b ∷ x)).0 ((next.1 x).0 h)),
      λ h. (next.1 x).1 ((goes (b ∷ x)).1 (subst (Completes f) same h)),
    )

-- one byte more is escaped after the others
escaped_more : (out : List ℕ) (b : ℕ) (left : List ℕ) → escaped (out ++ b ∷ []) ++ left ≡ escaped out ++ (escape b ++ left)
escaped_more out b left =
    ap (λ (l : List ℕ). l ++ left) (flat_map-append escape out (b ∷ []) ∙ ap (λ (l : List ℕ). escaped out ++ l) (append-nil (escape b)))
    ∙ append_assoc (escaped out) (escape b) left

-- where a byte's escape is next, the bytes begin with what was read and that byte
pub written_further : (bytes out rest after left : List ℕ) (b : ℕ) → bytes ≡ escaped out ++ rest → rest ≡ b ∷ after → b ∷ after ≡ escape b ++ left → bytes ≡ escaped (out ++ b ∷ []) ++ left
written_further bytes out rest after left b all first next =
    all ∙ ap (λ (l : List ℕ). escaped out ++ l) (first ∙ next) ∙ sym (escaped_more out b left)

-- where the two zeros of the end are next, what was read is a whole content
pub all_read : (f e : Expected) (bytes out rest left : List ℕ) → HasRead f out e → Completes e [] → bytes ≡ escaped out ++ rest → rest ≡ 0 ∷ 0 ∷ left
    → (bytes ≡ ended out ++ left) × Completes f out
all_read f e bytes out rest left goes done all there = (
  all ∙ ap (λ (l : List ℕ). escaped out ++ l) there ∙ sym (append_assoc (escaped out) (0 ∷ 0 ∷ []) left),
  subst (Completes f) (append-nil out) ((goes []).0 done),
)

-- ---- faults

-- what was read so far begins a content, where more may come
begins_here : (f e : Expected) (out : List ℕ) → IsOpen e → HasRead f out e → BeginsOne (IsContent f) (escaped out)
begins_here f e out alive goes =
    let some = some_completes e alive in (
      ended some.0,
      (
        out ++ some.0,
        (goes some.0).0 some.1,
        ap (λ (l : List ℕ). l ++ 0 ∷ 0 ∷ []) (flat_map-append escape out some.0) ∙ append_assoc (escaped out) (escaped some.0) (0 ∷ 0 ∷ []),
      ),
    )

-- so does it with a 0 after it, where a byte of 0 may come
begins_zero : (f e n : Expected) (out : List ℕ) → HasRead f out e → IsNext e 0 n → BeginsOne (IsContent f) (escaped out ++ 0 ∷ [])
begins_zero f e n out goes next =
    let some = some_completes n next.0 in (
      255 ∷ ended some.0,
      (
        out ++ 0 ∷ some.0,
        (goes (0 ∷ some.0)).0 ((next.1 some.0).0 some.1),
        ap (λ (l : List ℕ). l ++ 0 ∷ 0 ∷ []) (flat_map-append escape out (0 ∷ some.0))
            ∙ append_assoc (escaped out) (0 ∷ 255 ∷ escaped some.0) (0 ∷ 0 ∷ [])
            ∙ sym (append_assoc (escaped out) (0 ∷ []) (255 ∷ ended some.0)),
      ),
    )

-- bytes that begin with what was read are those of a content that begins so
after_read : (out c r y : List ℕ) → escaped c ++ closed r ≡ escaped out ++ y → (d : List ℕ) × (c ≡ out ++ d) × (escaped d ++ closed r ≡ y)
after_read [] c r y e = (c, refl, e)
after_read (zero ∷ out) [] r y e = let h : ◌≡◌ {A = ℕ} 0 255 = cc in absurd (omega (arith, h))
after_read (zero ∷ out) (zero ∷ c) r y e =
    let h : escaped c ++ closed r ≡ escaped out ++ y = cc in
    let more = after_read out c r y h in
    (more.0, ap (λ (l : List ℕ). zero ∷ l) more.1, more.2)
after_read (zero ∷ out) (suc d ∷ c) r y e = let h : suc d ≡ 0 = cc in absurd (omega (arith, h))
after_read (suc o ∷ out) [] r y e = let h : 0 ≡ suc o = cc in absurd (omega (arith, h))
after_read (suc o ∷ out) (zero ∷ c) r y e = let h : 0 ≡ suc o = cc in absurd (omega (arith, h))
after_read (suc o ∷ out) (suc d ∷ c) r y e =
    let h : escaped c ++ closed r ≡ escaped out ++ y = cc in
    let first : suc d ≡ suc o = cc in
    let more = after_read out c r y h in
    (more.0, ap (λ (b : ℕ). b ∷ c) first ∙ ap (λ (l : List ℕ). suc o ∷ l) more.1, more.2)

-- what may come after what was read does not go on so
abbrev CannotGoOn : Expected → List ℕ → Type 0
CannotGoOn e y = (d r : List ℕ) → Completes e d → escaped d ++ closed r ≡ y → ⊥

-- where what is expected cannot go on as the bytes do, no content is at their front
none_goes_on : (f e : Expected) (out y before : List ℕ) → HasRead f out e → before ≡ escaped out ++ y → CannotGoOn e y → (one more : List ℕ) → IsContent f one → one ++ more ≡ before → ⊥
none_goes_on f e out y before goes split cannot one more content same =
    let start : escaped content.0 ++ closed more ≡ escaped out ++ y =
    sym (append_assoc (escaped content.0) (0 ∷ 0 ∷ []) more) ∙ ap (λ (l : List ℕ). l ++ more) content.2 ∙ same ∙ split in
    let found = after_read out content.0 more y start in
    cannot found.0 more ((goes found.0).1 (subst (Completes f) found.1 content.1)) found.2

-- no content ends where no bytes are left: two zeros end it
cannot_end : (e : Expected) → CannotGoOn e []
cannot_end e [] r c h = cc
cannot_end e (zero ∷ d) r c h = cc
cannot_end e (suc b ∷ d) r c h = cc

-- a refused byte cannot come there, and no content ends there for an escape or an end to begin with it
cannot_refused : (e : Expected) (b : ℕ) (s : List ℕ) → (b < 128 → Completes e [] → ⊥) → IsRefused e b → CannotGoOn e (b ∷ s)
cannot_refused e zero s no_end refused [] r c h = no_end (omega arith) c
cannot_refused e zero s no_end refused (zero ∷ d) r c h = refused d c
cannot_refused e zero s no_end refused (suc x ∷ d) r c h = let k : suc x ≡ 0 = cc in omega (arith, k)
cannot_refused e (suc b) s no_end refused [] r c h = let k : 0 ≡ suc b = cc in omega (arith, k)
cannot_refused e (suc b) s no_end refused (zero ∷ d) r c h = let k : 0 ≡ suc b = cc in omega (arith, k)
cannot_refused e (suc b) s no_end refused (suc x ∷ d) r c h =
    let k : suc x ≡ suc b = cc in refused d (subst (λ (a : ℕ). Completes e (a ∷ d)) k c)

-- nor where a single 0 is left
cannot_zero_end : (e : Expected) → CannotGoOn e (0 ∷ [])
cannot_zero_end e [] r c h = cc
cannot_zero_end e (zero ∷ d) r c h = cc
cannot_zero_end e (suc b ∷ d) r c h = let k : suc b ≡ 0 = cc in omega (arith, k)

-- nor does one go on where after a 0 there is neither 0 nor FF
cannot_zero_other : (e : Expected) (x : ℕ) (s : List ℕ) → (x ≡ 0 → ⊥) → (x ≡ 255 → ⊥) → CannotGoOn e (0 ∷ x ∷ s)
cannot_zero_other e x s p q [] r c h = p cc
cannot_zero_other e x s p q (zero ∷ d) r c h = q cc
cannot_zero_other e x s p q (suc b ∷ d) r c h = let k : suc b ≡ 0 = cc in omega (arith, k)

-- bytes that end within a content are at fault at their end
pub fault_at_end : (f e : Expected) (bytes out rest : List ℕ) → IsOpen e → HasRead f out e → bytes ≡ escaped out ++ rest → rest ≡ [] → IsFaultOf (IsContent f) bytes (length (escaped out))
fault_at_end f e bytes out rest alive goes all none = (
  escaped out,
  [],
  all ∙ ap (λ (l : List ℕ). escaped out ++ l) none,
  refl,
  begins_here f e out alive goes,
  none_goes_on f e out [] (escaped out) goes (sym (append-nil (escaped out))) (cannot_end e),
)

-- a refused byte is at fault where it is
pub fault_at_byte : (f e : Expected) (bytes out rest after : List ℕ) (b : ℕ) → IsOpen e → HasRead f out e → bytes ≡ escaped out ++ rest → rest ≡ b ∷ after → (b < 128 → Completes e [] → ⊥) → IsRefused e b → IsFaultOf (IsContent f) bytes (length (escaped out))
fault_at_byte f e bytes out rest after b alive goes all first no_end refused = (
  escaped out,
  b ∷ after,
  all ∙ ap (λ (l : List ℕ). escaped out ++ l) first,
  refl,
  begins_here f e out alive goes,
  λ one more s content same. none_goes_on f e out (b ∷ s) (escaped out ++ b ∷ s) goes refl (cannot_refused e b s no_end refused) one more content same,
)

-- a byte after a 0 that is neither 0 nor FF is at fault, and so is an end there
pub fault_after_zero : (f e n : Expected) (bytes out rest after : List ℕ) → HasRead f out e → IsNext e 0 n → bytes ≡ escaped out ++ rest → rest ≡ 0 ∷ after
    → ((l : List ℕ) → after ≡ 0 ∷ l → ⊥) → ((l : List ℕ) → after ≡ 255 ∷ l → ⊥) → IsFaultOf (IsContent f) bytes (length (escaped out) + 1)
fault_after_zero f e n bytes out rest after goes next all first p q = (
  escaped out ++ 0 ∷ [],
  after,
  all ∙ ap (λ (l : List ℕ). escaped out ++ l) first ∙ sym (append_assoc (escaped out) (0 ∷ []) after),
  length-append (escaped out) (0 ∷ []),
  begins_zero f e n out goes next,
  none after p q,
)
  where
    none : (l : List ℕ) → ((m : List ℕ) → l ≡ 0 ∷ m → ⊥) → ((m : List ℕ) → l ≡ 255 ∷ m → ⊥) → NoneGoesOn (IsContent f) (escaped out ++ 0 ∷ []) l
    none [] p q = none_goes_on f e out (0 ∷ []) (escaped out ++ 0 ∷ []) goes refl (cannot_zero_end e)
    none (x ∷ l) p q = λ one more s content same.
        none_goes_on f e out (0 ∷ x ∷ s) ((escaped out ++ 0 ∷ []) ++ x ∷ s) goes (append_assoc (escaped out) (0 ∷ []) (x ∷ s))
        (cannot_zero_other e x s (λ h. p l (ap (λ (b : ℕ). b ∷ l) h)) (λ h. q l (ap (λ (b : ℕ). b ∷ l) h))) one more content same

-- the place of a fault is told by how many bytes are left
pub placed : (f : Expected) (bytes left : List ℕ) (place step : ℕ) (fault : KeyFault) → fault ≡ Bad (place + (length bytes - length left)) → length bytes ≡ step + length left
    → IsFaultOf (IsContent f) bytes step → IsPartFault (IsContent f) bytes place fault
placed f bytes left place step fault is long there =
    let here : step ≡ length bytes - length left = omega arith in
    subst (IsPartFault (IsContent f) bytes place) (sym is) (length bytes - length left, refl, subst (IsFaultOf (IsContent f) bytes) here there)

-- the bytes are as many as those that were read and those that are left
pub length-read : (bytes out rest : List ℕ) → bytes ≡ escaped out ++ rest → length bytes ≡ length (escaped out) + length rest
length-read bytes out rest all = ap length all ∙ length-append (escaped out) rest

-- a list of no length is empty
pub empty : (l : List ℕ) → length l ≡ 0 → l ≡ []
empty [] none = refl
empty (x ∷ l) none = absurd (omega (arith, none))
