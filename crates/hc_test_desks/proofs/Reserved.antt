-- Writes that are put from the last one on.
use Rattle.std.proofs.Common.{◌≡◌, ◌∙◌, ⊎_elim, refl, sym, subst, arith, ℕ, zero, suc, ◌+◌, ◌-◌, ◌<◌, ◌≤◌, true, false, List, [], ◌∷◌, inl, inr, drop, take, length, get_or}
use Rattle.std.proofs.lemmas.List.{drop_more, length-drop, take_all}
use Rattle.hc_base.specs.Entries.{entry_fits}
use Rattle.hc_range.specs.Order.{IsBelow}
use Rattle.hc_range.proofs.ByteOrder.{below_irrefl, below_trans}
use Rattle.hc_core.specs.Account.{HoldsKey, record_of}
use Rattle.hc_core.specs.Desk.{AreAscendingWrites, EachFits, IsBelowEachWrite, MayProposeNow, MayPutNow}
use Rattle.hc_base.specs.Lookup.{Among}
use Rattle.hc_core.specs.declared.account.Entry.{Entry}
use Rattle.hc_core.specs.declared.cells.Write.{Write}
use Rattle.hc_core.proofs.Steps.{when_map}
use Rattle.hc_test_desks.specs.Putting.{IsBelowFirst, IsPutting}

-- where each write is put, a number may be proposed
pub all_put : (writes : List Write) (account : List Entry) → IsPutting writes writes account → MayProposeNow account
all_put writes account h = when_map _ _ _ (λ t p. (p.0, p.1, p.2, λ w there. (w.rec, subst (Among w) (p.5 ∙ sym p.6) there))) h

-- a key below each of some writes is none of theirs
pub below_none : (key : List ℕ) (writes : List Write) → IsBelowEachWrite key writes → HoldsKey writes key → ⊥
below_none key [] below holds = holds.1
below_none key (w ∷ ws) below holds =
    ⊎_elim
    (λ same. let self : true ≡ false = sym (subst (λ (other : Write). IsBelow key other.key) (sym same) below.0) ∙ below_irrefl key in cc)
    (λ there. below_none key ws below.1 (holds.0, there))
    holds.1

-- a key below the first of ascending writes is below each
pub below_each : (key : List ℕ) (writes : List Write) → IsBelowFirst key writes → AreAscendingWrites writes → IsBelowEachWrite key writes
below_each key [] below ascending = below
below_each key (w ∷ ws) below ascending = (below, above key w ws below ascending.0)
  where
    above : (low : List ℕ) (first : Write) (rest : List Write) → IsBelow low first.key → IsBelowEachWrite first.key rest → IsBelowEachWrite low rest
    above low first [] b each = tt
    above low first (v ∷ vs) b each = (below_trans low first.key v.key b each.0, above low first vs b each.1)

-- ascending writes ascend from any place on
pub ascending_from : (place : ℕ) (writes : List Write) → AreAscendingWrites writes → AreAscendingWrites (drop place writes)
ascending_from zero writes ascending = ascending
ascending_from (suc place) [] ascending = ascending
ascending_from (suc place) (w ∷ ws) ascending = ascending_from place ws ascending.1

-- what is among writes from a place on is among them
pub among_from : (place : ℕ) (w : Write) (writes : List Write) → Among w (drop place writes) → Among w writes
among_from zero w writes there = there
among_from (suc place) w [] there = there
among_from (suc place) w (v ∷ vs) there = inr (among_from place w vs there)

-- where those after a write are put, it may be put
pub next_may : (writes : List Write) (place next : ℕ) (w : Write) (account : List Entry) → drop place writes ≡ w ∷ drop next writes
    → AreAscendingWrites writes → IsPutting writes (drop next writes) account → MayPutNow account w.key w.rec
next_may writes place next w account here ascending putting =
    let from : AreAscendingWrites (w ∷ drop next writes) = subst AreAscendingWrites here (ascending_from place writes ascending) in
    let there : Among w writes = among_from place w writes (subst (Among w) (sym here) (inl refl)) in
    when_map _ _ _ (λ t p. (
      p.0,
      p.1,
      p.2,
      p.3,
      subst (Among w) (sym p.5) there,
      λ written. below_none w.key (drop next writes) from.0 (subst (λ (ws : List Write). HoldsKey ws w.key) p.6 written),
    )) putting

-- with one more write in front
pub one_more : (writes : List Write) (place next : ℕ) (w : Write) → drop place writes ≡ w ∷ drop next writes
    → entry_fits (length w.key) (length (record_of w.rec)) ≡ true → IsBelowFirst w.key (drop next writes)
    → AreAscendingWrites (drop next writes) → EachFits (drop next writes)
    → AreAscendingWrites (drop place writes) × EachFits (drop place writes)
one_more writes place next w here fits below ascending each =
    rw here (
      (below_each w.key (drop next writes) below ascending, ascending),
      λ v there. ⊎_elim (λ (same : v ≡ w). subst (λ (u : Write). entry_fits (length u.key) (length (record_of u.rec)) ≡ true) (sym same) fits) (λ later. each v later) there,
    )

-- the writes from one place on begin with the write there
pub here_first : (writes : List Write) (left : ℕ) (w : Write) → 0 < left → left ≤ length writes → w ≡ get_or writes (left - 1) w
    → drop (left - 1) writes ≡ w ∷ drop left writes
here_first writes left w some within is =
    let next : left - 1 + 1 ≡ left = omega (arith, some) in
    subst (λ n. drop (left - 1) writes ≡ w ∷ drop n writes) next
    (subst (λ (v : Write). drop (left - 1) writes ≡ v ∷ drop (left - 1 + 1) writes) (sym is) (drop_more writes (left - 1) w (omega (arith, some, within))))

-- up to the end there are all
pub up_to_end : (writes : List Write) (place : ℕ) → take (length writes - place) (drop place writes) ≡ drop place writes
up_to_end writes place = take_all (length writes - place) (drop place writes) (rw (length-drop place writes) (omega arith))
