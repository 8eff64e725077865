-- What was read of a key and what is left, and the fault of a value in its key.
use Rattle.std.proofs.Common.{◌≡◌, ℕ, ◌+◌, ◌-◌, ◌^◌, ◌<◌, ◌≤◌, List, [], ◌∷◌, ◌++◌, length, take, drop, refl, sym, ap, subst, ◌∙◌, arith, append_assoc, Equal, Greater, nat_cmp, w32}
use Rattle.std.specs.Prelude.{replicate}
use Rattle.std.specs.Int.{bytes_high_first, from_be_bytes}
use Rattle.std.specs.FinMap.{nat_cmp-IsAntisymmetric, slice_cmp-IsAntisymmetric}
use Rattle.std.proofs.lemmas.Cmp.{nat_list_cmp_total, tied_itself}
use Rattle.std.proofs.lemmas.Nat.{be_bytes_4}
use Rattle.std.proofs.lemmas.List.{append-nil, length-append, length-take, take-append-drop}
use Rattle.std.proofs.lemmas.List.Concat.{flat_map-append}
use Rattle.hc_value.specs.declared.value.Value.{Value}
use Rattle.hc_value.specs.Values.{IsValue, AreValues}
use Rattle.hc_value.specs.Order.{value_order}
use Rattle.hc_key.specs.declared.fault.KeyFault.{KeyFault}
use Rattle.hc_key.specs.declared.fault.KeyFault.TheVariants.{Bad, NoMemory}
use Rattle.hc_key.specs.Keys.{value_bytes, list_bytes, key_bytes}
use Rattle.hc_key.specs.Reading.{BeginsKey, NoKeyGoesOn, IsFaultAt, IsKeyFault, IsValuePart, NoneGoesOn, IsFaultOf, IsPartFault}
use Rattle.hc_key.proofs.Bytes.{bytes_cmp, four_bytes}
use Rattle.hc_key.proofs.Order.{values_compare, nothing_second}
use Rattle.hc_key.proofs.Prefix.{TiesAreSame, both_tied}
use Rattle.hc_key.proofs.Parts.{number_fits_4, padded, length-padded}
use Rattle.hc_text.proofs.ByteStrings.{IsBytes, IsBytes-padded, IsBytes-take}

-- ---- bytes that begin with the same key

-- the same bytes tie, and bytes that tie are the same
tie_from_same : (a b : List ℕ) → a ≡ b → bytes_cmp a b ≡ Equal
tie_from_same a b e = subst (λ (k : List ℕ). bytes_cmp a k ≡ Equal) e (tied_itself nat_list_cmp_total a)

same_bytes : (a b : List ℕ) → bytes_cmp a b ≡ Equal → a ≡ b
same_bytes = slice_cmp-IsAntisymmetric nat_cmp-IsAntisymmetric

-- where the same bytes begin with two values, the values are one, and so are the rests
same_value : TiesAreSame → (v w : Value) (r s : List ℕ) → IsValue v → IsValue w → value_bytes v ++ r ≡ value_bytes w ++ s → (v ≡ w) × (r ≡ s)
same_value ties v w r s p q e =
    let both = both_tied (value_order v w) (bytes_cmp r s) (sym (values_compare v w r s p q) ∙ tie_from_same (value_bytes v ++ r) (value_bytes w ++ s) e) in
    ((ties v w).0 both.0, same_bytes r s both.1)

-- the list goes on after v with values whose bytes are y
abbrev After : List Value → List Value → List ℕ → Type 0
After w v y = (more : List Value) × (w ≡ v ++ more) × AreValues more × (list_bytes more ≡ y)

-- where the bytes of one list begin with those of another, so does the list
list_after : TiesAreSame → (v w : List Value) (y : List ℕ) → AreValues v → AreValues w → list_bytes w ≡ list_bytes v ++ y → After w v y
list_after ties [] w y p q e = (w, refl, q, e)
list_after ties (v ∷ vs) [] y p q e =
    let tie : bytes_cmp (value_bytes v ++ (list_bytes vs ++ y)) [] ≡ Equal = tie_from_same (value_bytes v ++ (list_bytes vs ++ y)) [] (sym (append_assoc (value_bytes v) (list_bytes vs) y) ∙ sym e) in
    absurd (unequal (sym (nothing_second v (list_bytes vs ++ y)) ∙ tie))
  where
    unequal : Greater ≡ Equal → ⊥
    unequal h = cc
list_after ties (v ∷ vs) (w ∷ ws) y p q e =
    let both = same_value ties w v (list_bytes ws) (list_bytes vs ++ y) q.0 p.0 (e ∙ append_assoc (value_bytes v) (list_bytes vs) y) in
    let rest : After ws vs y = list_after ties vs ws y p.1 q.1 both.1 in
    (rest.0, ap (λ (x : Value). x ∷ ws) both.0 ∙ ap (λ (l : List Value). v ∷ l) rest.1, rest.2, rest.3)

-- the same of the lists of two keys
key_after : TiesAreSame → (t u : ℕ) (v w : List Value) (y : List ℕ) → t < 2 ^ 32 → u < 2 ^ 32 → AreValues v → AreValues w → key_bytes u w ≡ key_bytes t v ++ y → After w v y
unfolding key_bytes
key_after ties t u v w y tf uf p q e =
    let both = both_tied (nat_cmp u t) (bytes_cmp (list_bytes w) (list_bytes v ++ y))
    (sym (four_bytes u t uf tf (list_bytes w) (list_bytes v ++ y))
    ∙ tie_from_same (bytes_high_first 4 u ++ list_bytes w) (bytes_high_first 4 t ++ (list_bytes v ++ y)) (e ∙ append_assoc (bytes_high_first 4 t) (list_bytes v) y)) in
    list_after ties v w y p q (same_bytes (list_bytes w) (list_bytes v ++ y) both.1)

-- ---- one value more

-- a key with one value more has that value's bytes after
key_push : (t : ℕ) (v : List Value) (w : Value) → key_bytes t (v ++ w ∷ []) ≡ key_bytes t v ++ value_bytes w
unfolding key_bytes
key_push t v w =
    ap (λ (l : List ℕ). bytes_high_first 4 t ++ l) (flat_map-append value_bytes v (w ∷ []) ∙ ap (λ (l : List ℕ). list_bytes v ++ l) (append-nil (value_bytes w)))
    ∙ sym (append_assoc (bytes_high_first 4 t) (list_bytes v) (value_bytes w))

-- values with one value more are values
pub are_more : (v : List Value) (w : Value) → AreValues v → IsValue w → AreValues (v ++ w ∷ [])
are_more [] w are is = (is, tt)
are_more (x ∷ v) w are is = (are.0, are_more v w are.1 is)

-- after one value more, the key was read that far
pub read_more : (t : ℕ) (v : List Value) (w : Value) (key left after : List ℕ) → key ≡ key_bytes t v ++ left → left ≡ value_bytes w ++ after → key ≡ key_bytes t (v ++ w ∷ []) ++ after
read_more t v w key left after all first =
    all ∙ ap (λ (l : List ℕ). key_bytes t v ++ l) first
    ∙ sym (ap (λ (l : List ℕ). l ++ after) (key_push t v w) ∙ append_assoc (key_bytes t v) (value_bytes w) after)

-- where nothing is left, the key is what was read
pub all_read : (t : ℕ) (v : List Value) (key left : List ℕ) → key ≡ key_bytes t v ++ left → length left ≡ 0 → key ≡ key_bytes t v
all_read t v key [] all none = all ∙ append-nil (key_bytes t v)
all_read t v key (b ∷ left) all none = absurd (omega (arith, none))

-- a key is as long as what was read and what is left
pub length-after : (t : ℕ) (v : List Value) (key left : List ℕ) → key ≡ key_bytes t v ++ left → length key ≡ length (key_bytes t v) + length left
length-after t v key left all = ap length all ∙ length-append (key_bytes t v) left

-- ---- the fault of a value in its key

-- where no value goes on as the bytes do, no key that begins with what was read does
none_in_key : TiesAreSame → (t : ℕ) (v : List Value) (before after : List ℕ) → t < 2 ^ 32 → AreValues v → 0 < length (before ++ after) → NoneGoesOn IsValuePart before after → NoKeyGoesOn (key_bytes t v ++ before) after
none_in_key ties t v before [] tf are some none = λ key.
    let found = key_after ties t key.0 v key.1 before tf key.2 are key.3 key.4 in
    by_list before some none found.0 found.2 found.3
  where
    by_list : (before : List ℕ) → 0 < length (before ++ []) → NoneGoesOn IsValuePart before [] → (more : List Value) → AreValues more → list_bytes more ≡ before → ⊥
    by_list before some none [] are e = omega (arith, some, ap length (append-nil before), ap length e)
    by_list before some none (w ∷ ws) are e = none (value_bytes w) (list_bytes ws) (w, are.0, refl) e
none_in_key ties t v before (b ∷ after) tf are some none = λ begins.
    let key = begins.1 in
    let found = key_after ties t key.0 v key.1 (before ++ b ∷ begins.0) tf key.2 are key.3
    (key.4 ∙ append_assoc (key_bytes t v ++ before) (b ∷ []) begins.0 ∙ append_assoc (key_bytes t v) before (b ∷ begins.0)) in
    by_list before b after begins.0 none found.0 found.2 found.3
  where
    by_list : (before : List ℕ) (b : ℕ) (after rest : List ℕ) → NoneGoesOn IsValuePart before (b ∷ after) → (more : List Value) → AreValues more → list_bytes more ≡ before ++ b ∷ rest → ⊥
    by_list before b after rest none [] are e = omega (arith, ap length e, length-append before (b ∷ rest))
    by_list before b after rest none (w ∷ ws) are e = none (value_bytes w) (list_bytes ws) rest (w, are.0, refl) e

-- a fault in the next value is one of the key, after what was read
value_fault : TiesAreSame → (t : ℕ) (v : List Value) (key left : List ℕ) (step : ℕ) → t < 2 ^ 32 → AreValues v → key ≡ key_bytes t v ++ left → 0 < length left → IsFaultOf IsValuePart left step → IsFaultAt key (length (key_bytes t v) + step)
value_fault ties t v key left step tf are all some fault =
    let begins = fault.4 in
    let part = begins.1 in (
      key_bytes t v ++ fault.0,
      fault.1,
      all ∙ ap (λ (l : List ℕ). key_bytes t v ++ l) fault.2 ∙ sym (append_assoc (key_bytes t v) fault.0 fault.1),
      length-append (key_bytes t v) fault.0 ∙ ap (λ (n : ℕ). length (key_bytes t v) + n) fault.3,
      (
        begins.0,
        (
          t,
          v ++ part.0 ∷ [],
          tf,
          are_more v part.0 are part.1,
          key_push t v part.0 ∙ ap (λ (l : List ℕ). key_bytes t v ++ l) part.2 ∙ sym (append_assoc (key_bytes t v) fault.0 begins.0),
        ),
      ),
      none_in_key ties t v fault.0 fault.1 tf are (subst (λ (l : List ℕ). 0 < length l) fault.2 some) fault.5,
    )

-- the same of a fault whose place is told from the beginning of the key
pub part_in_key : TiesAreSame → (t : ℕ) (v : List Value) (key left : List ℕ) (place : ℕ) (fault : KeyFault) → t < 2 ^ 32 → AreValues v → key ≡ key_bytes t v ++ left → 0 < length left
    → place ≡ length (key_bytes t v) → IsPartFault IsValuePart left place fault → IsKeyFault key fault
part_in_key ties t v key left place (Bad at) tf are all some here h =
    subst (IsFaultAt key) (sym (h.1 ∙ ap (λ (n : ℕ). n + h.0) here)) (value_fault ties t v key left h.0 tf are all some h.2)
part_in_key ties t v key left place NoMemory tf are all some here h = tt

-- ---- the number of the tree

-- a key whose first four bytes are a tree's number begins with the key of that tree and no values
pub tree_read : (t : ℕ) (key bytes rest : List ℕ) → IsBytes key → 4 ≤ length key → bytes ≡ take 4 key → rest ≡ drop 4 key → t ≡ from_be_bytes w32 bytes → key ≡ key_bytes t [] ++ rest
unfolding key_bytes
tree_read t key bytes rest are long first second number =
    let bytes_are : IsBytes bytes = subst IsBytes (sym first) (IsBytes-take 4 key are) in
    let four : length bytes ≡ 4 = omega (arith, ap length first, length-take 4 key, long) in
    let written : bytes_high_first 4 t ≡ bytes = be_bytes_4 bytes t four bytes_are number in
    sym (take-append-drop 4 key) ∙ sym (ap (λ (l : List ℕ). l ++ rest) (append-nil (bytes_high_first 4 t) ∙ written ∙ first) ∙ ap (λ (l : List ℕ). take 4 key ++ l) second)

-- a key has four bytes and those of its values
length-key : (t : ℕ) (v : List Value) → length (key_bytes t v) ≡ 4 + length (list_bytes v)
unfolding key_bytes
length-key t v = length-append (bytes_high_first 4 t) (list_bytes v)

-- fewer than four bytes begin a key
begins_short : (key : List ℕ) → IsBytes key → length key < 4 → BeginsKey key
unfolding key_bytes
begins_short key are short =
    let all : IsBytes (padded 4 key) = IsBytes-padded key (4 - length key) are in (
      replicate (4 - length key) 0,
      (
        from_be_bytes w32 (padded 4 key),
        [],
        number_fits_4 (padded 4 key) all,
        tt,
        append-nil (bytes_high_first 4 (from_be_bytes w32 (padded 4 key))) ∙ be_bytes_4 (padded 4 key) (from_be_bytes w32 (padded 4 key)) (length-padded 4 key (omega (arith, short))) all refl,
      ),
    )

-- fewer than four bytes are at fault at their end
pub short_fault : (key : List ℕ) → IsBytes key → length key < 4 → IsFaultAt key (length key)
short_fault key are short = (
  key,
  [],
  sym (append-nil key),
  refl,
  begins_short key are short,
  λ whole. omega (arith, short, ap length whole.4, length-key whole.0 whole.1),
)

-- a key has no fault
pub no_fault : (key : List ℕ) (t : ℕ) (v : List Value) → t < 2 ^ 32 → AreValues v → key ≡ key_bytes t v → (fault : KeyFault) → IsKeyFault key fault → fault ≡ NoMemory
no_fault key t v tf are e (Bad at) fault = absurd (by_rest fault.0 fault.1 fault.2 fault.5)
  where
    by_rest : (before after : List ℕ) → key ≡ before ++ after → NoKeyGoesOn before after → ⊥
    by_rest before [] all none = none (t, v, tf, are, sym e ∙ all ∙ append-nil before)
    by_rest before (b ∷ after) all none = none (after, (t, v, tf, are, sym e ∙ all ∙ sym (append_assoc before (b ∷ []) after)))
no_fault key t v tf are e NoMemory fault = refl
