-- What a cut changes of the numbers of keys.
use Rattle.std.proofs.Common.{◌≡◌, ◌≢◌, refl, sym, ap, ◌∙◌, subst, ℕ, Bool, true, false, cond, eqb, ◌&&◌, List, [], ◌∷◌, map, inl, inr, ⊎_elim}
use Rattle.std.specs.List.{All}
use Rattle.std.proofs.lemmas.Bool.{cases_Bool, cases_eq, cond_both, eq-eqb, ne_eqb, true≢false}
use Rattle.std.proofs.lemmas.List.Elements.{All-cons, All-head, All-nil, All-tail}
use Rattle.hc_range.specs.Order.{is_below, IsBelow}
use Rattle.hc_range.proofs.ByteOrder.{at_most_trans, below_flip, below_irrefl, below_trans}
use Rattle.hc_base.specs.Content.{Ascends}
use Rattle.hc_base.specs.Lookup.{Among, but}
use Rattle.hc_base.proofs.Lookups.{but-same, but-other}
use Rattle.hc_shape.specs.Leaves.{CanCut, LowsAscend, moved, number_in, number_of, with_next}

-- the number that has a key is one of them
pub there : (low : ℕ → List ℕ) (key : List ℕ) (here : ℕ) (more : List ℕ) → Among (number_in low key here more) (here ∷ more)
there low key here [] = inl refl
there low key here (n ∷ more) =
    cond_both (is_below key (low n)) here (number_in low key n more) (λ x. Among x (here ∷ n ∷ more)) (λ first. inl refl) (λ later. inr (there low key n more))

-- each number to the right has a low fence above
pub each_above : (low : ℕ → List ℕ) (k : List ℕ) (more : List ℕ) (m : ℕ) → All (λ other. IsBelow k other) (map low more) → Among m more → IsBelow k (low m)
each_above low k [] m all after = absurd after
each_above low k (n ∷ more) m all (inl e) = subst (λ x. IsBelow k (low x)) (sym e) (All-head (λ other. IsBelow k other) (low n) (map low more) all)
each_above low k (n ∷ more) m all (inr after) = each_above low k more m (All-tail (λ other. IsBelow k other) (low n) (map low more) all) after

module _ (low : ℕ → List ℕ) (at new : ℕ) (cut : List ℕ) where
  -- where the new number is not, each number has what it had
  same : (key : List ℕ) (here : ℕ) (more : List ℕ) → (Among new more → ⊥) → number_in (but low new cut) key here more ≡ number_in low key here more
  same key here [] none = refl
  same key here (n ∷ more) none =
      rw (but-other low new n cut (λ e. none (inl e))) (ap (cond (is_below key (low n)) here) (same key n more (λ later. none (inr later))))

  -- a key below the cut stays
  below_stays : (key : List ℕ) (n : ℕ) → is_below key cut ≡ true → moved at new cut key n ≡ n
  below_stays key n below = rw below (both_false (eqb n at))
    where
      both_false : (b : Bool) → cond (b && false) new n ≡ n
      both_false true = refl
      both_false false = refl

  -- a key of another number stays
  other_stays : (key : List ℕ) (n : ℕ) → n ≢ at → moved at new cut key n ≡ n
  other_stays key n differ = rw (ne_eqb n at differ) refl

  -- a key from the cut on moves
  moves_on : (key : List ℕ) (n : ℕ) → n ≡ at → is_below key cut ≡ false → moved at new cut key n ≡ new
  moves_on key n is above = rw (eq-eqb n at is) (rw above refl)

  -- at the number that is cut, a key from the cut on
  right_of : (key : List ℕ) (here : ℕ) (more : List ℕ) → here ≡ at → (Among at more → ⊥) → (Among new more → ⊥) → is_below key cut ≡ false
      → number_in (but low new cut) key new more ≡ moved at new cut key (number_in low key here more)
  right_of key here [] is apart fresh above = sym (moves_on key here is above)
  right_of key here (n ∷ more) is apart fresh above =
      rw (but-other low new n cut (λ e. fresh (inl e)))
      (rw (same key n more (λ later. fresh (inr later))) (by_fence (is_below key (low n)))
      )
    where
      by_fence : (b : Bool) → cond b new (number_in low key n more) ≡ moved at new cut key (cond b here (number_in low key n more))
      by_fence true = sym (moves_on key here is above)
      by_fence false =
          sym (other_stays key (number_in low key n more) (λ e. apart (subst (λ x. Among x (n ∷ more)) e (there low key n more))))

  -- at the number that is cut, a key below the cut
  left_of : (key : List ℕ) (here : ℕ) (more : List ℕ) → ((n : ℕ) → Among n more → IsBelow cut (low n)) → is_below key cut ≡ true
      → number_in (but low new cut) key here (new ∷ more) ≡ moved at new cut key (number_in low key here more)
  left_of key here more beyond below =
      rw (but-same low new cut) (rw below refl ∙ sym (stays more beyond) ∙ sym (below_stays key (number_in low key here more) below))
    where
      stays : (more : List ℕ) → ((n : ℕ) → Among n more → IsBelow cut (low n)) → number_in low key here more ≡ here
      stays [] far = refl
      stays (n ∷ later) far = rw (below_trans key cut (low n) below (far n (inl refl))) refl

  -- a number that is not cut, and those to the right of it
  module _ (here : ℕ) (more : List ℕ) (h : CanCut low (here ∷ more) at new cut) where
    later_there : here ≢ at → Among at more
    later_there differ = ⊎_elim (λ (e : at ≡ here). absurd (differ (sym e))) (λ after. after) h.there

    right_of_here : here ≢ at → CanCut low more at new cut
    right_of_here differ = record {
      ascends = h.ascends.1;
      there = later_there differ;
      fresh = λ among. h.fresh (inr among);
      above = h.above;
      below = λ m among far. h.below m (inr among) far;
    }

    beyond : here ≡ at → (n : ℕ) → Among n more → IsBelow cut (low n)
    beyond is n later = h.below n (inr later) (subst (λ a. IsBelow (low a) (low n)) is (each_above low (low here) more n h.ascends.0 later))

    apart : here ≡ at → Among at more → ⊥
    apart is later =
        true≢false (sym (each_above low (low here) more at h.ascends.0 later) ∙ subst (λ a. is_below (low here) (low a) ≡ false) is (below_irrefl (low here)))

    -- at the number that is cut
    cut_here : (key : List ℕ) → here ≡ at → number_in (but low new cut) key here (new ∷ more) ≡ moved at new cut key (number_in low key here more)
    cut_here key is = elim (cases_Bool (is_below key cut)) [ inl less ↦ left_of key here more (beyond is) less | inr from ↦ right from ]
      where
        right : is_below key cut ≡ false → number_in (but low new cut) key here (new ∷ more) ≡ moved at new cut key (number_in low key here more)
        right from =
            rw (but-same low new cut)
            (ap (λ b. cond b here (number_in (but low new cut) key new more)) from ∙ right_of key here more is (apart is) (λ later. h.fresh (inr later)) from)

  -- at a number that is not cut, by the fence of the next one
  by_fence : (key : List ℕ) (here n : ℕ) (later : List ℕ) (b : Bool) → here ≢ at
      → number_of (but low new cut) key (with_next at new (n ∷ later)) ≡ moved at new cut key (number_in low key n later)
      → cond b here (number_of (but low new cut) key (with_next at new (n ∷ later))) ≡ moved at new cut key (cond b here (number_in low key n later))
  by_fence key here n later true differ on = sym (other_stays key here differ)
  by_fence key here n later false differ on = on

  moves_at : (key : List ℕ) (here : ℕ) (more : List ℕ) → CanCut low (here ∷ more) at new cut
      → number_of (but low new cut) key (with_next at new (here ∷ more)) ≡ moved at new cut key (number_of low key (here ∷ more))
  moves_at key here [] h =
      elim (cases_eq here at) [
        | inl is ↦ ap (λ b. number_in (but low new cut) key here (cond b (new ∷ []) [])) (eq-eqb here at is) ∙ cut_here here [] h key is
        | inr differ ↦ absurd (later_there here [] h differ)
      ]
  moves_at key here (n ∷ later) h =
      elim (cases_eq here at) [
        | inl is ↦
            ap (λ b. number_in (but low new cut) key here (cond b (new ∷ n ∷ later) (with_next at new (n ∷ later)))) (eq-eqb here at is)
            ∙ cut_here here (n ∷ later) h key is
        | inr differ ↦
            ap (λ b. number_in (but low new cut) key here (cond b (new ∷ n ∷ later) (with_next at new (n ∷ later)))) (ne_eqb here at differ)
            ∙ ap (λ k. cond (is_below key k) here (number_of (but low new cut) key (with_next at new (n ∷ later))))
            (but-other low new n cut (λ e. h.fresh (inr (inl e))))
            ∙ by_fence key here n later (is_below key (low n)) differ (moves_at key n later (right_of_here here (n ∷ later) h differ))
      ]

pub moves : (low : ℕ → List ℕ) (numbers : List ℕ) (at new : ℕ) (cut : List ℕ) → CanCut low numbers at new cut
    → (key : List ℕ) → number_of (but low new cut) key (with_next at new numbers) ≡ moved at new cut key (number_of low key numbers)
moves low [] at new cut h key = absurd h.there
moves low (here ∷ more) at new cut h key = moves_at low at new cut key here more h

-- what holds of each low fence and of the cut holds of each low fence after it
module _ (low : ℕ → List ℕ) (at new : ℕ) (cut : List ℕ) (P : List ℕ → Type 0) where
  kept : (numbers : List ℕ) → (Among new numbers → ⊥) → All P (map low numbers) → All P (map (but low new cut) numbers)
  kept [] fresh all = all
  kept (n ∷ more) fresh all =
      All-cons P (but low new cut n) (map (but low new cut) more) (subst P (sym (but-other low new n cut (λ e. fresh (inl e)))) (All-head P (low n) (map low more) all))
      (kept more (λ later. fresh (inr later)) (All-tail P (low n) (map low more) all))

  with_new : (numbers : List ℕ) → (Among new numbers → ⊥) → All P (map low numbers) → P cut → All P (map (but low new cut) (new ∷ numbers))
  with_new numbers fresh all own =
      All-cons P (but low new cut new) (map (but low new cut) numbers) (subst P (sym (but-same low new cut)) own) (kept numbers fresh all)

  each_next : (numbers : List ℕ) → (Among new numbers → ⊥) → All P (map low numbers) → P cut → All P (map (but low new cut) (with_next at new numbers))
  each_next [] fresh all own = all
  each_next (n ∷ more) fresh all own =
      All-cons P (but low new cut n) (map (but low new cut) (cond (eqb n at) (new ∷ more) (with_next at new more)))
      (subst P (sym (but-other low new n cut (λ e. fresh (inl e)))) (All-head P (low n) (map low more) all))
      (cond_both (eqb n at) (new ∷ more) (with_next at new more) (λ xs. All P (map (but low new cut) xs))
      (λ here. with_new more (λ later. fresh (inr later)) (All-tail P (low n) (map low more) all) own)
      (λ later. each_next more (λ among. fresh (inr among)) (All-tail P (low n) (map low more) all) own))

-- a level without the new number ascends as it did
ascends_kept : (low : ℕ → List ℕ) (new : ℕ) (cut : List ℕ) (numbers : List ℕ) → (Among new numbers → ⊥) → LowsAscend low numbers → LowsAscend (but low new cut) numbers
ascends_kept low new cut [] fresh up = up
ascends_kept low new cut (n ∷ more) fresh up = (
  subst (λ k. All (λ other. IsBelow k other) (map (but low new cut) more)) (sym (but-other low new n cut (λ e. fresh (inl e))))
      (kept low n new cut (λ other. IsBelow (low n) other) more (λ later. fresh (inr later)) up.0),
  ascends_kept low new cut more (λ later. fresh (inr later)) up.1,
)

-- what holds of each number's low fence
all_of : (low : ℕ → List ℕ) (P : List ℕ → Type 0) (numbers : List ℕ) → ((n : ℕ) → Among n numbers → P (low n)) → All P (map low numbers)
all_of low P [] each = All-nil P
all_of low P (n ∷ more) each = All-cons P (low n) (map low more) (each n (inl refl)) (all_of low P more (λ m later. each m (inr later)))

-- a number and those to the right of it
module _ (low : ℕ → List ℕ) (at new : ℕ) (cut : List ℕ) (here : ℕ) (more : List ℕ) (h : CanCut low (here ∷ more) at new cut) where
  fresh : Among new more → ⊥
  fresh later = h.fresh (inr later)

  -- the cut is above the first low fence
  above : IsBelow (low here) cut
  above =
      ⊎_elim (λ (e : at ≡ here). subst (λ a. IsBelow (low a) cut) e h.above)
      (λ later. below_trans (low here) (low at) cut (each_above low (low here) more at h.ascends.0 later) h.above)
      h.there

  is_here : but low new cut here ≡ low here
  is_here = but-other low new here cut (λ e. h.fresh (inl e))

  -- so each low fence to the right of it is above its own
  first : (tail : List ℕ) → All (λ other. IsBelow (low here) other) (map (but low new cut) tail) → All (λ other. IsBelow (but low new cut here) other) (map (but low new cut) tail)
  first tail all = subst (λ k. All (λ other. IsBelow k other) (map (but low new cut) tail)) (sym is_here) all

  after_cut : here ≡ at → Ascends (map (but low new cut) (here ∷ new ∷ more))
  after_cut is =
      let far : All (λ other. IsBelow cut other) (map low more) = all_of low (λ other. IsBelow cut other) more (beyond low at new cut here more h is) in (
        first (new ∷ more) (with_new low at new cut (λ other. IsBelow (low here) other) more fresh h.ascends.0 above),
        (
          subst (λ k. All (λ other. IsBelow k other) (map (but low new cut) more)) (sym (but-same low new cut))
              (kept low at new cut (λ other. IsBelow cut other) more fresh far),
          ascends_kept low new cut more fresh h.ascends.1,
        ),
      )

  after_other : LowsAscend (but low new cut) (with_next at new more) → Ascends (map (but low new cut) (here ∷ with_next at new more))
  after_other up = (first (with_next at new more) (each_next low at new cut (λ other. IsBelow (low here) other) more fresh h.ascends.0 above), up)

pub ascends_still : (low : ℕ → List ℕ) (numbers : List ℕ) (at new : ℕ) (cut : List ℕ) → CanCut low numbers at new cut → LowsAscend (but low new cut) (with_next at new numbers)
ascends_still low [] at new cut h = absurd h.there
ascends_still low (here ∷ more) at new cut h =
    elim (cases_eq here at) [
      | inl is ↦ rw (eq-eqb here at is) (after_cut low at new cut here more h is)
      | inr differ ↦
          rw (ne_eqb here at differ) (after_other low at new cut here more h (ascends_still low more at new cut (right_of_here low at new cut here more h differ)))
    ]

-- of a number and those to the right of it
own_in : (low : ℕ → List ℕ) (key : List ℕ) (n here : ℕ) (more : List ℕ) → LowsAscend low (here ∷ more) → Among n (here ∷ more) → is_below key (low n) ≡ false
    → ((m : ℕ) → Among m (here ∷ more) → IsBelow (low n) (low m) → IsBelow key (low m)) → number_in low key here more ≡ n
own_in low key n here [] up (inl is) from beyond = sym is
own_in low key n here [] up (inr none) from beyond = absurd none
own_in low key n here (m ∷ later) up (inl is) from beyond =
    let less : IsBelow (low n) (low m) = subst (λ a. IsBelow (low a) (low m)) (sym is) (All-head (λ other. IsBelow (low here) other) (low m) (map low later) up.0) in
    rw (beyond m (inr (inl refl)) less) (sym is)
own_in low key n here (m ∷ later) up (inr there) from beyond =
    rw (at_most_trans (low m) (low n) key (lowest there) from) (own_in low key n m later up.1 there from (λ k among. beyond k (inr among)))
  where
    lowest : Among n (m ∷ later) → is_below (low n) (low m) ≡ false
    lowest (inl is) = subst (λ a. is_below (low a) (low m) ≡ false) (sym is) (below_irrefl (low m))
    lowest (inr after) = below_flip (low m) (low n) (each_above low (low m) later n up.1.0 after)

pub own_number : (low : ℕ → List ℕ) (numbers : List ℕ) (key : List ℕ) (n : ℕ) → LowsAscend low numbers → Among n numbers → is_below key (low n) ≡ false
    → ((m : ℕ) → Among m numbers → IsBelow (low n) (low m) → IsBelow key (low m)) → number_of low key numbers ≡ n
own_number low [] key n up there from beyond = absurd there
own_number low (here ∷ more) key n up there from beyond = own_in low key n here more up there from beyond
