-- The own writes that change what the snapshot has.
use Rattle.std.proofs.Common.{◌≡◌, ◌∙◌, refl, sym, ap, subst, ℕ, Bool, true, false, cond, Option, Some, None, List, [], ◌∷◌, bytes_eq, inl, inr, ◌↔◌}
use Rattle.std.proofs.lemmas.Bool.{true≢false, false≢true, cases_Bool}
use Rattle.std.proofs.lemmas.Slice.Eq.{bytes_eq-Decides}
use Rattle.hc_core.specs.Desk.{AreAscendingWrites, IsBelowEachWrite}
use Rattle.hc_base.specs.Lookup.{Among}
use Rattle.hc_core.specs.declared.cells.Write.{Write}
use Rattle.hc_txn.specs.Kept.{Known, AreAbove, AreOrdered, find_known}
use Rattle.hc_txn.specs.Net.{net, same_record, with_net}
use Rattle.hc_txn.proofs.KnownKeys.{find_head, find_tail}
use Rattle.hc_txn.proofs.StandingWrites.{above_absent}

-- records that are told to be the same are, and the other way round
pub same_is : (a b : Option (List ℕ)) → same_record a b ≡ true → a ≡ b
same_is None None h = refl
same_is None (Some b) h = absurd (false≢true h)
same_is (Some a) None h = absurd (false≢true h)
same_is (Some a) (Some b) h = ap (λ (r : List ℕ). Some r) ((bytes_eq-Decides a b).0 h)

pub is_same : (a b : Option (List ℕ)) → a ≡ b → same_record a b ≡ true
is_same a b h = subst (λ (r : Option (List ℕ)). same_record a r ≡ true) h (itself a)
  where
    itself : (r : Option (List ℕ)) → same_record r r ≡ true
    itself None = refl
    itself (Some r) = (bytes_eq-Decides r r).1 refl

none_known : (k : Known) → None ≡ Some k → ⊥
none_known k e = cc

module _ (key : List ℕ) (rec : Option (List ℕ)) where
  abbrev this : Write
  this = record { key = key; rec = rec }

  -- a write is net: it stands at a kept key, whose record in the snapshot is another
  abbrev pub IsNet : List Known → Type 0
  IsNet ks = (k : Known) × (find_known key ks ≡ Some k) × (k.now ≡ Some rec) × (same_record k.before rec ≡ false)

  tail_net : (k : Known) (ks : List Known) → bytes_eq k.key key ≡ false → IsNet ks → IsNet (k ∷ ks)
  tail_net k ks apart h = (h.0, find_tail k ks key apart ∙ h.1, h.2, h.3)

  apart_in : (k : Known) (ks : List Known) → AreAbove k.key ks → IsNet ks → bytes_eq k.key key ≡ false
  apart_in k ks above h = elim (cases_Bool (bytes_eq k.key key)) [
    | inl same ↦ absurd (none_known h.0 (sym (above_absent k.key ks above) ∙ ap (λ (q : List ℕ). find_known q ks) ((bytes_eq-Decides k.key key).0 same) ∙ h.1))
    | inr apart ↦ apart
  ]

  known_is : (x y : Known) → Some x ≡ Some y → x ≡ y
  known_is x y e = cc

  some_none : (r : Option (List ℕ)) → None ≡ Some r → ⊥
  some_none r e = cc

  some_is : (x y : Option (List ℕ)) → Some x ≡ Some y → x ≡ y
  some_is x y e = cc

  -- the first key's write is net, or the rest decides
  push_step : (k : Known) (ks : List Known) (r : Option (List ℕ)) (b : Bool) → k.now ≡ Some r → b ≡ same_record k.before r → AreAbove k.key ks → (Among this (net ks) ↔ IsNet ks)
      → Among this (cond b (net ks) (record { key = k.key; rec = r } ∷ net ks)) ↔ IsNet (k ∷ ks)
  push_step k ks r true e s above rest = (
    λ a. let h = rest.0 a in tail_net k ks (apart_in k ks above h) h,
    λ h. elim (cases_Bool (bytes_eq k.key key)) [
      | inl same ↦
          let is : k ≡ h.0 = known_is k h.0 (sym (find_head k ks key same) ∙ h.1) in
          absurd (true≢false (s ∙ ap (same_record k.before) (some_is r rec (sym e ∙ ap (λ (x : Known). x.now) is ∙ h.2)) ∙ ap (λ (x : Known). same_record x.before rec) is ∙ h.3))
      | inr apart ↦ rest.1 (h.0, sym (find_tail k ks key apart) ∙ h.1, h.2, h.3)
    ],
  )
  push_step k ks r false e s above rest = (
    λ a. elim a [
      | inl same ↦
          let key_is : key ≡ k.key = ap (λ (w : Write). w.key) same in
          let rec_is : rec ≡ r = ap (λ (w : Write). w.rec) same in (
            k,
            find_head k ks key ((bytes_eq-Decides k.key key).1 (sym key_is)),
            e ∙ ap (λ (x : Option (List ℕ)). Some x) (sym rec_is),
            ap (same_record k.before) rec_is ∙ sym s,
          )
      | inr b ↦ let h = rest.0 b in tail_net k ks (apart_in k ks above h) h
    ],
    λ h. elim (cases_Bool (bytes_eq k.key key)) [
      | inl same ↦
          let is : k ≡ h.0 = known_is k h.0 (sym (find_head k ks key same) ∙ h.1) in
          inl (λ i. record { key = sym ((bytes_eq-Decides k.key key).0 same) i; rec = some_is rec r (sym (ap (λ (x : Known). x.now) is ∙ h.2) ∙ e) i })
      | inr apart ↦ inr (rest.1 (h.0, sym (find_tail k ks key apart) ∙ h.1, h.2, h.3))
    ],
  )

  net_step : (k : Known) (ks : List Known) (now : Option (Option (List ℕ))) → k.now ≡ now → AreAbove k.key ks → (Among this (net ks) ↔ IsNet ks)
      → Among this (with_net k.key k.before now (net ks)) ↔ IsNet (k ∷ ks)
  net_step k ks None e above rest = (
    λ a. let h = rest.0 a in tail_net k ks (apart_in k ks above h) h,
    λ h. elim (cases_Bool (bytes_eq k.key key)) [
      | inl same ↦ absurd (some_none rec (sym e ∙ ap (λ (x : Known). x.now) (known_is k h.0 (sym (find_head k ks key same) ∙ h.1)) ∙ h.2))
      | inr apart ↦ rest.1 (h.0, sym (find_tail k ks key apart) ∙ h.1, h.2, h.3)
    ],
  )
  net_step k ks (Some r) e above rest = push_step k ks r (same_record k.before r) e refl above rest

  pub net_has : (ks : List Known) → AreOrdered ks → Among this (net ks) ↔ IsNet ks
  net_has [] h = (λ a. absurd a, λ n. none_known n.0 n.1)
  net_has (k ∷ ks) h = net_step k ks k.now refl h.0 (net_has ks h.1)

-- they are in order
below_net : (key : List ℕ) (ks : List Known) → AreAbove key ks → IsBelowEachWrite key (net ks)
below_net key [] h = tt
below_net key (k ∷ ks) h = at k.now (below_net key ks h.1)
  where
    put : (r : Option (List ℕ)) (b : Bool) → IsBelowEachWrite key (net ks) → IsBelowEachWrite key (cond b (net ks) (record { key = k.key; rec = r } ∷ net ks))
    put r true rest = rest
    put r false rest = (h.0, rest)

    at : (now : Option (Option (List ℕ))) → IsBelowEachWrite key (net ks) → IsBelowEachWrite key (with_net k.key k.before now (net ks))
    at None rest = rest
    at (Some r) rest = put r (same_record k.before r) rest

pub net_ascends : (ks : List Known) → AreOrdered ks → AreAscendingWrites (net ks)
net_ascends [] h = tt
net_ascends (k ∷ ks) h = at k.now (below_net k.key ks h.0) (net_ascends ks h.1)
  where
    put : (r : Option (List ℕ)) (b : Bool) → IsBelowEachWrite k.key (net ks) → AreAscendingWrites (net ks) → AreAscendingWrites (cond b (net ks) (record { key = k.key; rec = r } ∷ net ks))
    put r true below rest = rest
    put r false below rest = (below, rest)

    at : (now : Option (Option (List ℕ))) → IsBelowEachWrite k.key (net ks) → AreAscendingWrites (net ks) → AreAscendingWrites (with_net k.key k.before now (net ks))
    at None below rest = rest
    at (Some r) below rest = put r (same_record k.before r) below rest
