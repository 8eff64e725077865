-- What is known of keys after one more is kept, and after an own write is put or undone.
use Rattle.std.proofs.Common.{◌≡◌, ◌∙◌, refl, sym, ap, subst, ℕ, Bool, true, false, cond, Option, Some, None, List, [], ◌∷◌, bytes_eq, inl, inr, ◌⊎◌, ◌↔◌, IsSome}
use Rattle.std.proofs.lemmas.Bool.{true≢false, cases_Bool, cond_both}
use Rattle.std.proofs.lemmas.Slice.Eq.{bytes_eq-Decides}
use Rattle.hc_range.specs.Order.{is_below}
use Rattle.hc_range.proofs.ByteOrder.{same_from_neither}
use Rattle.hc_core.specs.Account.{HoldsKey}
use Rattle.hc_base.specs.Lookup.{Among}
use Rattle.hc_core.specs.declared.cells.Write.{Write}
use Rattle.hc_txn.specs.Kept.{Known, find_known, own_of, now_at, with_known, with_now, records_before}
use Rattle.hc_txn.specs.Own.{changed}

-- keys that are equal have equal bytes
pub same_bytes : (a : List ℕ) → bytes_eq a a ≡ true
same_bytes a = (bytes_eq-Decides a a).1 refl

cond_true : {A : Type 0} (b : Bool) (x y : A) → b ≡ true → cond b x y ≡ x
cond_true true x y h = refl
cond_true false x y h = absurd (true≢false (sym h))

cond_false : {A : Type 0} (b : Bool) (x y : A) → b ≡ false → cond b x y ≡ y
cond_false true x y h = absurd (true≢false h)
cond_false false x y h = refl

-- an own write leaves the snapshot's records
pub records_with_now : (key : List ℕ) (now : Option (Option (List ℕ))) (ks : List Known) → records_before (with_now key now ks) ≡ records_before ks
records_with_now key now [] = refl
records_with_now key now (k ∷ ks) =
    cond_both (bytes_eq k.key key) (record k { now = now } ∷ ks) (k ∷ with_now key now ks) (λ (xs : List Known). records_before xs ≡ records_before (k ∷ ks))
    (λ _. refl) (λ _. ap (λ (ws : List Write). record { key = k.key; rec = k.before } ∷ ws) (records_with_now key now ks))

-- the first key is the one that is asked for, or the look-up goes on
pub find_head : (k : Known) (ks : List Known) (q : List ℕ) → bytes_eq k.key q ≡ true → find_known q (k ∷ ks) ≡ Some k
find_head k ks q h = cond_true (bytes_eq k.key q) (Some k) (find_known q ks) h

pub find_tail : (k : Known) (ks : List Known) (q : List ℕ) → bytes_eq k.key q ≡ false → find_known q (k ∷ ks) ≡ find_known q ks
find_tail k ks q h = cond_false (bytes_eq k.key q) (Some k) (find_known q ks) h

-- after an own write at a known key it stands there, and at other keys stands what stood
pub now_with_now : (key : List ℕ) (now : Option (Option (List ℕ))) (ks : List Known) (q : List ℕ) → IsSome (find_known key ks)
    → now_at (with_now key now ks) q ≡ changed (now_at ks) key now q
now_with_now key now [] q some = absurd (true≢false (sym some))
now_with_now key now (k ∷ ks) q some =
    elim (cases_Bool (bytes_eq k.key key)) [
      | inl here ↦
          ap (λ (xs : List Known). now_at xs q) (cond_true (bytes_eq k.key key) (record k { now = now } ∷ ks) (k ∷ with_now key now ks) here)
          ∙ elim (cases_Bool (bytes_eq key q)) [
            | inl same ↦
                ap own_of (find_head (record k { now = now }) ks q ((bytes_eq-Decides k.key q).1 ((bytes_eq-Decides k.key key).0 here ∙ (bytes_eq-Decides key q).0 same)))
                ∙ sym (cond_true (bytes_eq key q) now (now_at (k ∷ ks) q) same)
            | inr other ↦
                let apart : bytes_eq k.key q ≡ false = ap (λ (b : List ℕ). bytes_eq b q) ((bytes_eq-Decides k.key key).0 here) ∙ other in
                ap own_of (find_tail (record k { now = now }) ks q apart ∙ sym (find_tail k ks q apart))
                ∙ sym (cond_false (bytes_eq key q) now (now_at (k ∷ ks) q) other)
          ]
      | inr there ↦
          ap (λ (xs : List Known). now_at xs q) (cond_false (bytes_eq k.key key) (record k { now = now } ∷ ks) (k ∷ with_now key now ks) there)
          ∙ elim (cases_Bool (bytes_eq k.key q)) [
            | inl same ↦
                let apart : bytes_eq key q ≡ false =
                elim (cases_Bool (bytes_eq key q)) [
                  | inl both ↦ absurd (true≢false (sym ((bytes_eq-Decides k.key key).1 ((bytes_eq-Decides k.key q).0 same ∙ sym ((bytes_eq-Decides key q).0 both))) ∙ there))
                  | inr differ ↦ differ
                ] in
                ap own_of (find_head k (with_now key now ks) q same ∙ sym (find_head k ks q same))
                ∙ sym (cond_false (bytes_eq key q) now (now_at (k ∷ ks) q) apart)
            | inr other ↦
                ap own_of (find_tail k (with_now key now ks) q other)
                ∙ now_with_now key now ks q (subst (λ (f : Option Known). IsSome f) (find_tail k ks key there) some)
                ∙ ap (λ (n : Option (Option (List ℕ))). cond (bytes_eq key q) now n) (sym (ap own_of (find_tail k ks q other)))
          ]
    ]

none_known : (k : Known) → None ≡ Some k → ⊥
none_known k h = cc

-- what is known is among the snapshot's records
pub found_record : (ks : List Known) (q : List ℕ) (k : Known) → find_known q ks ≡ Some k → Among (record { key = q; rec = k.before }) (records_before ks)
found_record [] q k h = absurd (none_known k h)
found_record (x ∷ ks) q k h =
    elim (cases_Bool (bytes_eq x.key q)) [
      | inl here ↦
          let e : x ≡ k = some_known x k (sym (find_head x ks q here) ∙ h) in
          inl (λ i. record { key = sym ((bytes_eq-Decides x.key q).0 here) i; rec = ap (λ (y : Known). y.before) (sym e) i })
      | inr there ↦ inr (found_record ks q k (sym (find_tail x ks q there) ∙ h))
    ]
  where
    some_known : (x y : Known) → Some x ≡ Some y → x ≡ y
    some_known x y h = cc

-- a key that is among them is known
pub record_found : (ks : List Known) (q : List ℕ) → HoldsKey (records_before ks) q → IsSome (find_known q ks)
record_found [] q h = absurd h.1
record_found (k ∷ ks) q h =
    elim (cases_Bool (bytes_eq k.key q)) [
      | inl here ↦ subst (λ (f : Option Known). IsSome f) (sym (find_head k ks q here)) refl
      | inr there ↦ elim (h.1) [
        | inl e ↦ absurd (true≢false (sym ((bytes_eq-Decides k.key q).1 (sym (ap (λ (w : Write). w.key) e))) ∙ there))
        | inr more ↦ subst (λ (f : Option Known). IsSome f) (sym (find_tail k ks q there)) (record_found ks q (h.0, more))
      ]
    ]

-- a key that is not among them is not known
pub not_found : (ks : List Known) (q : List ℕ) → (HoldsKey (records_before ks) q → ⊥) → find_known q ks ≡ None
not_found ks q h = at (find_known q ks) refl
  where
    at : (f : Option Known) → find_known q ks ≡ f → find_known q ks ≡ None
    at None e = e
    at (Some k) e = absurd (h (k.before, found_record ks q k e))

pub found_not : (ks : List Known) (q : List ℕ) → find_known q ks ≡ None → HoldsKey (records_before ks) q → ⊥
found_not ks q e h = true≢false (sym (record_found ks q h) ∙ ap is_some_known e)
  where
    is_some_known : Option Known → Bool
    is_some_known None = false
    is_some_known (Some k) = true

module _ (new : Known) where
  abbrev record_of_new : Write
  record_of_new = record { key = new.key; rec = new.before }

  -- one more key has its record among the others
  pub among_with_known : (w : Write) (ks : List Known) → find_known new.key ks ≡ None
      → Among w (records_before (with_known new ks)) ↔ ((w ≡ record_of_new) ⊎ Among w (records_before ks))
  among_with_known w [] none = (λ h. h, λ h. h)
  among_with_known w (k ∷ ks) none =
      let there : bytes_eq k.key new.key ≡ false =
      elim (cases_Bool (bytes_eq k.key new.key)) [ inl here ↦ absurd (some_not_none k (sym (find_head k ks new.key here) ∙ none)) | inr differ ↦ differ ] in
      let rest = among_with_known w ks (sym (find_tail k ks new.key there) ∙ none) in
      elim (cases_Bool (is_below new.key k.key)) [
        | inl below ↦ subst (λ (xs : List Known). Among w (records_before xs) ↔ ((w ≡ record_of_new) ⊎ Among w (records_before (k ∷ ks))))
            (sym (cond_true (is_below new.key k.key) (new ∷ k ∷ ks) (cond (is_below k.key new.key) (k ∷ with_known new ks) (new ∷ ks)) below)) (λ h. h, λ h. h)
        | inr not_below ↦ elim (cases_Bool (is_below k.key new.key)) [
          | inl above ↦ subst (λ (xs : List Known). Among w (records_before xs) ↔ ((w ≡ record_of_new) ⊎ Among w (records_before (k ∷ ks))))
              (sym (cond_false (is_below new.key k.key) (new ∷ k ∷ ks) (cond (is_below k.key new.key) (k ∷ with_known new ks) (new ∷ ks)) not_below ∙ cond_true (is_below k.key new.key) (k ∷ with_known new ks) (new ∷ ks) above)) (
                λ h. elim h [ inl e ↦ inr (inl e) | inr a ↦ elim (rest.0 a) [ inl e ↦ inl e | inr b ↦ inr (inr b) ] ],
                λ h. elim h [ inl e ↦ inr (rest.1 (inl e)) | inr a ↦ elim a [ inl e ↦ inl e | inr b ↦ inr (rest.1 (inr b)) ] ],
              )
          | inr not_above ↦ absurd (true≢false (sym ((bytes_eq-Decides k.key new.key).1 (same_from_neither k.key new.key not_above not_below)) ∙ there))
        ]
      ]
    where
      some_not_none : (x : Known) → Some x ≡ None → ⊥
      some_not_none x h = cc

  -- the new key in front
  now_in_front : (ks : List Known) (q : List ℕ) → new.now ≡ None → find_known new.key ks ≡ None → now_at (new ∷ ks) q ≡ now_at ks q
  now_in_front ks q none absent =
      elim (cases_Bool (bytes_eq new.key q)) [
        | inl same ↦ ap own_of (find_head new ks q same) ∙ none ∙ sym (ap (now_at ks) (sym ((bytes_eq-Decides new.key q).0 same)) ∙ ap own_of absent)
        | inr other ↦ ap own_of (find_tail new ks q other)
      ]

  now_after : (k : Known) (ks more : List Known) (q : List ℕ) → now_at more q ≡ now_at ks q → now_at (k ∷ more) q ≡ now_at (k ∷ ks) q
  now_after k ks more q same =
      elim (cases_Bool (bytes_eq k.key q)) [
        | inl here ↦ ap own_of (find_head k more q here ∙ sym (find_head k ks q here))
        | inr there ↦ ap own_of (find_tail k more q there) ∙ same ∙ sym (ap own_of (find_tail k ks q there))
      ]

  -- one more key, at which no own write stands, leaves the own writes
  pub now_with_known : (ks : List Known) (q : List ℕ) → new.now ≡ None → find_known new.key ks ≡ None → now_at (with_known new ks) q ≡ now_at ks q
  now_with_known [] q none absent = now_in_front [] q none absent
  now_with_known (k ∷ ks) q none absent =
      let there : bytes_eq k.key new.key ≡ false =
      elim (cases_Bool (bytes_eq k.key new.key)) [ inl here ↦ absurd (known_none k (sym (find_head k ks new.key here) ∙ absent)) | inr differ ↦ differ ] in
      elim (cases_Bool (is_below new.key k.key)) [
        | inl below ↦ ap (λ (xs : List Known). now_at xs q) (cond_true (is_below new.key k.key) (new ∷ k ∷ ks) (cond (is_below k.key new.key) (k ∷ with_known new ks) (new ∷ ks)) below)
            ∙ now_in_front (k ∷ ks) q none absent
        | inr not_below ↦ elim (cases_Bool (is_below k.key new.key)) [
          | inl above ↦
              ap (λ (xs : List Known). now_at xs q) (cond_false (is_below new.key k.key) (new ∷ k ∷ ks) (cond (is_below k.key new.key) (k ∷ with_known new ks) (new ∷ ks)) not_below
              ∙ cond_true (is_below k.key new.key) (k ∷ with_known new ks) (new ∷ ks) above)
              ∙ now_after k ks (with_known new ks) q (now_with_known ks q none (sym (find_tail k ks new.key there) ∙ absent))
          | inr not_above ↦ absurd (true≢false (sym ((bytes_eq-Decides k.key new.key).1 (same_from_neither k.key new.key not_above not_below)) ∙ there))
        ]
      ]
    where
      known_none : (x : Known) → Some x ≡ None → ⊥
      known_none x h = cc
