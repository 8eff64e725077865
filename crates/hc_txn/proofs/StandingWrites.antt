-- The own writes that stand in a range.
use Rattle.std.proofs.Common.{◌≡◌, ◌∙◌, refl, sym, ap, subst, ℕ, Bool, true, false, cond, not, ◌&&◌, filter, Option, Some, None, List, [], ◌∷◌, bytes_eq, inl, inr, ◌↔◌}
use Rattle.std.proofs.lemmas.Bool.{true≢false, cases_Bool}
use Rattle.std.proofs.lemmas.Slice.Eq.{bytes_eq-Decides}
use Rattle.hc_range.specs.declared.range.Range.{Range}
use Rattle.hc_range.specs.Order.{is_below}
use Rattle.hc_range.specs.Ranges.{InRange, is_under}
use Rattle.hc_range.proofs.ByteOrder.{below_irrefl}
use Rattle.hc_core.specs.Desk.{AreAscendingWrites, IsBelowEachWrite}
use Rattle.hc_base.specs.Lookup.{Among}
use Rattle.hc_core.specs.declared.cells.Write.{Write}
use Rattle.hc_txn.specs.Laying.{AreStandingIn}
use Rattle.hc_txn.specs.Stores.{latest}
use Rattle.hc_txn.specs.Kept.{Known, AreAbove, AreOrdered, find_known, own_of, now_at}
use Rattle.hc_txn.specs.Laid.{holds, standing, standing_in, with_standing}
use Rattle.hc_txn.proofs.KnownKeys.{find_head, find_tail}

-- a range holds a key where the key is in it
pub in_range : (range : Range) (key : List ℕ) → holds range key ≡ true ↔ InRange range key
in_range range key = (λ h. at (is_below key range.lo) (is_under key range.hi) h, λ h. λ i. not (h.0 i) && h.1 i)
  where
    at : (a b : Bool) → (not a && b) ≡ true → (a ≡ false) × (b ≡ true)
    at true b h = absurd (true≢false (sym h))
    at false b h = (refl, h)

-- a key below all others is none of them
pub above_absent : (key : List ℕ) (ks : List Known) → AreAbove key ks → find_known key ks ≡ None
above_absent key [] h = refl
above_absent key (k ∷ ks) h =
    find_tail k ks key (elim (cases_Bool (bytes_eq k.key key)) [
      | inl same ↦ absurd (true≢false (sym h.0 ∙ ap (is_below key) ((bytes_eq-Decides k.key key).0 same) ∙ below_irrefl key))
      | inr apart ↦ apart
    ]) ∙ above_absent key ks h.1

none_some : {A : Type 0} (x : A) → None ≡ Some x → ⊥
none_some x e = cc

module _ (range : Range) (key : List ℕ) (rec : Option (List ℕ)) where
  abbrev Stands : List Known → Type 0
  Stands ks = (holds range key ≡ true) × (now_at ks key ≡ Some rec)

  abbrev this : Write
  this = record { key = key; rec = rec }

  -- a key whose write stands or not, in front of others
  front_has : (k : Known) (ks : List Known) (now : Option (Option (List ℕ))) → k.now ≡ now → holds range k.key ≡ true → AreAbove k.key ks
      → (Among this (standing_in range ks) ↔ Stands ks) → Among this (with_standing k.key now (standing_in range ks)) ↔ Stands (k ∷ ks)
  front_has k ks None e inside above rest = (
    λ a.
        let s = rest.0 a in (
          s.0,
          elim (cases_Bool (bytes_eq k.key key)) [
            | inl same ↦ absurd (none_some rec (sym (ap own_of (above_absent k.key ks above)) ∙ ap (now_at ks) ((bytes_eq-Decides k.key key).0 same) ∙ s.1))
            | inr apart ↦ ap own_of (find_tail k ks key apart) ∙ s.1
          ],
        ),
    λ s. elim (cases_Bool (bytes_eq k.key key)) [
      | inl same ↦ absurd (none_some rec (sym e ∙ sym (ap own_of (find_head k ks key same)) ∙ s.1))
      | inr apart ↦ rest.1 (s.0, sym (ap own_of (find_tail k ks key apart)) ∙ s.1)
    ],
  )
  front_has k ks (Some r) e inside above rest = (
    λ a. elim a [
      | inl same ↦
          let key_is : key ≡ k.key = ap (λ (w : Write). w.key) same in (
            ap (holds range) key_is ∙ inside,
            ap own_of (find_head k ks key ((bytes_eq-Decides k.key key).1 (sym key_is))) ∙ e ∙ ap (λ (w : Write). Some w.rec) (sym same),
          )
      | inr b ↦
          let s = rest.0 b in (
            s.0,
            elim (cases_Bool (bytes_eq k.key key)) [
              | inl same ↦ absurd (none_some rec (sym (ap own_of (above_absent k.key ks above)) ∙ ap (now_at ks) ((bytes_eq-Decides k.key key).0 same) ∙ s.1))
              | inr apart ↦ ap own_of (find_tail k ks key apart) ∙ s.1
            ],
          )
    ],
    λ s. elim (cases_Bool (bytes_eq k.key key)) [
      | inl same ↦ inl (λ i. record { key = sym ((bytes_eq-Decides k.key key).0 same) i; rec = some_is rec r (sym s.1 ∙ ap own_of (find_head k ks key same) ∙ e) i })
      | inr apart ↦ inr (rest.1 (s.0, sym (ap own_of (find_tail k ks key apart)) ∙ s.1))
    ],
  )
    where
      some_is : (x y : Option (List ℕ)) → Some x ≡ Some y → x ≡ y
      some_is x y e = cc

  past_has : (k : Known) (ks : List Known) → holds range k.key ≡ false → (Among this (standing_in range ks) ↔ Stands ks) → Among this (standing_in range ks) ↔ Stands (k ∷ ks)
  past_has k ks outside rest =
      let apart : holds range key ≡ true → bytes_eq k.key key ≡ false =
      λ inside. elim (cases_Bool (bytes_eq k.key key)) [
        | inl same ↦ absurd (true≢false (sym inside ∙ ap (holds range) (sym ((bytes_eq-Decides k.key key).0 same)) ∙ outside))
        | inr differ ↦ differ
      ] in (
        λ a. let s = rest.0 a in (s.0, ap own_of (find_tail k ks key (apart s.0)) ∙ s.1),
        λ s. rest.1 (s.0, sym (ap own_of (find_tail k ks key (apart s.0))) ∙ s.1),
      )

  -- a write is among those that stand in a range where its key is in the range and it stands
  pub stands_in : (ks : List Known) → AreOrdered ks → Among this (standing_in range ks) ↔ Stands ks
  stands_in [] h = (λ a. absurd a, λ s. none_some rec s.1)
  stands_in (k ∷ ks) h = at (holds range k.key) refl (stands_in ks h.1)
    where
      at : (b : Bool) → holds range k.key ≡ b → (Among this (standing_in range ks) ↔ Stands ks)
          → Among this (standing (cond b (k ∷ filter (λ x. holds range x.key) ks) (filter (λ x. holds range x.key) ks))) ↔ Stands (k ∷ ks)
      at true e rest = front_has k ks k.now refl e h.0 rest
      at false e rest = past_has k ks e rest

-- they are in order
below_standing : (range : Range) (key : List ℕ) (ks : List Known) → AreAbove key ks → IsBelowEachWrite key (standing_in range ks)
below_standing range key [] h = tt
below_standing range key (k ∷ ks) h = at (holds range k.key) (below_standing range key ks h.1)
  where
    put : (now : Option (Option (List ℕ))) → IsBelowEachWrite key (standing_in range ks) → IsBelowEachWrite key (with_standing k.key now (standing_in range ks))
    put None rest = rest
    put (Some r) rest = (h.0, rest)

    at : (b : Bool) → IsBelowEachWrite key (standing_in range ks) → IsBelowEachWrite key (standing (cond b (k ∷ filter (λ x. holds range x.key) ks) (filter (λ x. holds range x.key) ks)))
    at true rest = put k.now rest
    at false rest = rest

pub standing_ascends : (range : Range) (ks : List Known) → AreOrdered ks → AreAscendingWrites (standing_in range ks)
standing_ascends range [] h = tt
standing_ascends range (k ∷ ks) h = at (holds range k.key) (below_standing range k.key ks h.0) (standing_ascends range ks h.1)
  where
    put : (now : Option (Option (List ℕ))) → IsBelowEachWrite k.key (standing_in range ks) → AreAscendingWrites (standing_in range ks) → AreAscendingWrites (with_standing k.key now (standing_in range ks))
    put None below rest = rest
    put (Some r) below rest = (below, rest)

    at : (b : Bool) → IsBelowEachWrite k.key (standing_in range ks) → AreAscendingWrites (standing_in range ks)
        → AreAscendingWrites (standing (cond b (k ∷ filter (λ x. holds range x.key) ks) (filter (λ x. holds range x.key) ks)))
    at true below rest = put k.now below rest
    at false below rest = rest

-- they are the newest writes of the keys in the range
pub standing_as : (range : Range) (ks : List Known) (own writes : List Write) → ((key : List ℕ) → latest own key ≡ now_at ks key) → writes ≡ standing_in range ks → AreOrdered ks
    → AreStandingIn range own writes
standing_as range ks own writes newest e ordered = (
  subst AreAscendingWrites (sym e) (standing_ascends range ks ordered),
  λ key rec.
      let has = stands_in range key rec ks ordered in (
        λ a.
            let s = has.0 (subst (λ (ws : List Write). Among (record { key = key; rec = rec }) ws) e a) in
            ((in_range range key).0 s.0, newest key ∙ s.1),
        λ s. subst (λ (ws : List Write). Among (record { key = key; rec = rec }) ws) (sym e) (has.1 ((in_range range key).1 s.0, sym (newest key) ∙ s.1)),
      ),
)
