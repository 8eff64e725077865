-- The least key of a range that entries of the log put.
use Rattle.std.proofs.Common.{◌≡◌, ◌∙◌, ◌⊎◌, ◌↔◌, inl, inr, ⊎_elim, refl, sym, ap, subst, ℕ, zero, suc, ◌<◌, ◌≤◌, true, false, cond, Option, Some, None, List, [], ◌∷◌, length, take, drop, not, arith}
use Rattle.std.proofs.lemmas.Bool.{true≢false, cond_both, and_parts, and_from, not-true, not_from_false}
use Rattle.hc_range.specs.declared.range.Range.{Range}
use Rattle.hc_range.specs.Order.{is_below, IsAtMost}
use Rattle.hc_range.specs.Ranges.{InRange, is_under}
use Rattle.hc_core.specs.Account.{HoldsKey}
use Rattle.hc_core.specs.Commits.{writes_at, is_in, lesser, least_with, least_of}
use Rattle.hc_core.specs.declared.cells.Write.{Write}
use Rattle.hc_core.specs.declared.commit.Commit.{Commit}
use Rattle.hc_range.proofs.ByteOrder.{below_irrefl, below_flip, below_at_most}

-- a key that passes the test lies in the range
pub in_range : (range : Range) (key : List ℕ) → is_in range key ≡ true → InRange range key
in_range range key is =
    let both = and_parts (not (is_below key range.lo)) (is_under key range.hi) is in (not-true (is_below key range.lo) both.0, both.1)

-- and the other way round
pub in_test : (range : Range) (key : List ℕ) → InRange range key → is_in range key ≡ true
in_test range key inside = and_from (not (is_below key range.lo)) (is_under key range.hi) (not_from_false (is_below key range.lo) inside.0) inside.1

-- a best key so far is the least of the keys with a fact, or there is no key with it
abbrev pub IsLeast : (List ℕ → Type 0) → Option (List ℕ) → Type 0
IsLeast P None = (key : List ℕ) → P key → ⊥
IsLeast P (Some best) = P best × ((key : List ℕ) → P key → IsAtMost best key)

-- the same for two facts of the same keys
pub least_same : (P Q : List ℕ → Type 0) (best : Option (List ℕ)) → ((key : List ℕ) → P key ↔ Q key) → IsLeast P best → IsLeast Q best
least_same P Q None same least = λ key q. least key ((same key).1 q)
least_same P Q (Some best) same least = ((same best).0 least.0, λ key q. least.1 key ((same key).1 q))

least_lesser : (P : List ℕ → Type 0) (best : Option (List ℕ)) (new : List ℕ) → IsLeast P best → IsLeast (λ key. P key ⊎ (key ≡ new)) (lesser best new)
least_lesser P None new least = (inr refl, λ key p. ⊎_elim (λ was. absurd (least key was)) (λ same. subst (λ (k : List ℕ). is_below k new ≡ false) (sym same) (below_irrefl new)) p)
least_lesser P (Some best) new least =
    cond_both (is_below new best) (Some new) (Some best) (λ (o : Option (List ℕ)). IsLeast (λ key. P key ⊎ (key ≡ new)) o)
    (λ less. (
      inr refl,
      λ key p. ⊎_elim
          (λ was. below_flip new key (below_at_most new best key less (least.1 key was)))
          (λ same. subst (λ (k : List ℕ). is_below k new ≡ false) (sym same) (below_irrefl new)) p,
    ))
    (λ at_least. (inl least.0, λ key p. ⊎_elim (λ was. least.1 key was) (λ same. subst (λ (k : List ℕ). is_below k best ≡ false) (sym same) at_least) p))

-- one more key, if it lies in the range
least_more : (P : List ℕ → Type 0) (range : Range) (best : Option (List ℕ)) (new : List ℕ) → IsLeast P best
    → IsLeast (λ key. P key ⊎ ((is_in range key ≡ true) × (key ≡ new))) (cond (is_in range new) (lesser best new) best)
least_more P range best new least =
    cond_both (is_in range new) (lesser best new) best (λ (o : Option (List ℕ)). IsLeast (λ key. P key ⊎ ((is_in range key ≡ true) × (key ≡ new))) o)
    (λ inside. least_same (λ key. P key ⊎ (key ≡ new)) (λ key. P key ⊎ ((is_in range key ≡ true) × (key ≡ new))) (lesser best new)
    (λ key. (
      λ p. ⊎_elim (λ was. inl was) (λ same. inr (subst (λ (k : List ℕ). is_in range k ≡ true) (sym same) inside, same)) p,
      λ p. ⊎_elim (λ was. inl was) (λ here. inr here.1) p,
    ))
    (least_lesser P best new least))
    (λ outside. least_same P (λ key. P key ⊎ ((is_in range key ≡ true) × (key ≡ new))) best
    (λ key. (
      λ p. inl p,
      λ p. ⊎_elim (λ was. was) (λ here. absurd (true≢false (sym here.0 ∙ ap (is_in range) here.1 ∙ outside))) p,
    ))
    least)

-- the least key of the range among writes, and the best so far
pub least_writes : (P : List ℕ → Type 0) (range : Range) (best : Option (List ℕ)) (ws : List Write) → IsLeast P best
    → IsLeast (λ key. P key ⊎ ((is_in range key ≡ true) × HoldsKey ws key)) (least_with range best ws)
least_writes P range best [] least =
    least_same P (λ key. P key ⊎ ((is_in range key ≡ true) × HoldsKey [] key)) best (λ key. (λ p. inl p, λ p. ⊎_elim (λ was. was) (λ none. absurd none.1.1) p)) least
least_writes P range best (w ∷ ws) least =
    least_same (λ key. (P key ⊎ ((is_in range key ≡ true) × (key ≡ w.key))) ⊎ ((is_in range key ≡ true) × HoldsKey ws key))
    (λ key. P key ⊎ ((is_in range key ≡ true) × HoldsKey (w ∷ ws) key)) (least_with range (cond (is_in range w.key) (lesser best w.key) best) ws)
    (λ key. (
      λ p. ⊎_elim
          (λ first. ⊎_elim (λ was. inl was) (λ here. inr (here.0, (w.rec, inl (ap (λ (k : List ℕ). record { key = k; rec = w.rec }) here.1)))) first)
          (λ following. inr (following.0, (following.1.0, inr following.1.1))) p,
      λ p. ⊎_elim
          (λ was. inl (inl was))
          (λ held. ⊎_elim (λ here. inl (inr (held.0, ap (λ (v : Write). v.key) here))) (λ following. inr (held.0, (held.1.0, following))) held.1.1) p,
    ))
    (least_writes (λ key. P key ⊎ ((is_in range key ≡ true) × (key ≡ w.key))) range (cond (is_in range w.key) (lesser best w.key) best) ws (least_more P range best w.key least))

-- one of the entries puts the key
abbrev pub IsPutBy : List Commit → List ℕ → Type 0
IsPutBy [] key = ⊥
IsPutBy (commit ∷ commits) key = HoldsKey commit.writes.items key ⊎ IsPutBy commits key

-- the least key of the range that entries put, and the best so far
pub least_entries : (P : List ℕ → Type 0) (range : Range) (best : Option (List ℕ)) (commits : List Commit) → IsLeast P best
    → IsLeast (λ key. P key ⊎ ((is_in range key ≡ true) × IsPutBy commits key)) (least_of range best commits)
least_entries P range best [] least =
    least_same P (λ key. P key ⊎ ((is_in range key ≡ true) × IsPutBy [] key)) best (λ key. (λ p. inl p, λ p. ⊎_elim (λ was. was) (λ none. absurd none.1) p)) least
least_entries P range best (commit ∷ commits) least =
    least_same (λ key. (P key ⊎ ((is_in range key ≡ true) × HoldsKey commit.writes.items key)) ⊎ ((is_in range key ≡ true) × IsPutBy commits key))
    (λ key. P key ⊎ ((is_in range key ≡ true) × IsPutBy (commit ∷ commits) key)) (least_of range (least_with range best commit.writes.items) commits)
    (λ key. (
      λ p. ⊎_elim
          (λ first. ⊎_elim (λ was. inl was) (λ here. inr (here.0, inl here.1)) first)
          (λ following. inr (following.0, inr following.1)) p,
      λ p. ⊎_elim
          (λ was. inl (inl was))
          (λ held. ⊎_elim (λ here. inl (inr (held.0, here))) (λ following. inr (held.0, following)) held.1) p,
    ))
    (least_entries (λ key. P key ⊎ ((is_in range key ≡ true) × HoldsKey commit.writes.items key)) range (least_with range best commit.writes.items) commits (least_writes P range best commit.writes.items least))

-- the least key of the range that the entries put, or that none puts one
pub least_is : (range : Range) (commits : List Commit) → IsLeast (λ key. (is_in range key ≡ true) × IsPutBy commits key) (least_of range None commits)
least_is range commits =
    least_same (λ key. ⊥ ⊎ ((is_in range key ≡ true) × IsPutBy commits key)) (λ key. (is_in range key ≡ true) × IsPutBy commits key) (least_of range None commits)
    (λ key. (λ p. ⊎_elim (λ none. absurd none) (λ held. held) p, λ held. inr held))
    (least_entries (λ key. ⊥) range None commits (λ key none. none))

-- the entries from a place up to another put the key at a place
abbrev pub IsPutWithin : List Commit → ℕ → ℕ → List ℕ → Type 0
IsPutWithin commits from upto key = (place : ℕ) × (from ≤ place) × (place < upto) × (place < length commits) × HoldsKey (writes_at commits place) key

-- a key that a part of the log puts is put at a place of it
pub put_into : (commits : List Commit) (from upto : ℕ) (key : List ℕ) → IsPutBy (drop from (take upto commits)) key → IsPutWithin commits from upto key
put_into [] zero zero key put = absurd put
put_into [] zero (suc upto) key put = absurd put
put_into [] (suc from) zero key put = absurd put
put_into [] (suc from) (suc upto) key put = absurd put
put_into (commit ∷ commits) zero zero key put = absurd put
put_into (commit ∷ commits) (suc from) zero key put = absurd put
put_into (commit ∷ commits) zero (suc upto) key put =
    ⊎_elim
    (λ here. (0, omega arith, omega arith, omega arith, here))
    (λ following. let p = put_into commits zero upto key following in (suc p.0, omega arith, omega (arith, p.2), omega (arith, p.3), p.4))
    put
put_into (commit ∷ commits) (suc from) (suc upto) key put =
    let p = put_into commits from upto key put in (suc p.0, omega (arith, p.1), omega (arith, p.2), omega (arith, p.3), p.4)

-- and the other way round
pub put_from : (commits : List Commit) (from upto place : ℕ) (key : List ℕ) → from ≤ place → place < upto → place < length commits
    → HoldsKey (writes_at commits place) key → IsPutBy (drop from (take upto commits)) key
put_from [] from upto place key at below within held = absurd (omega arith)
put_from (commit ∷ commits) from zero place key at below within held = absurd (omega arith)
put_from (commit ∷ commits) zero (suc upto) zero key at below within held = inl held
put_from (commit ∷ commits) zero (suc upto) (suc place) key at below within held = inr (put_from commits zero upto place key (omega arith) (omega arith) (omega arith) held)
put_from (commit ∷ commits) (suc from) (suc upto) zero key at below within held = absurd (omega arith)
put_from (commit ∷ commits) (suc from) (suc upto) (suc place) key at below within held = put_from commits from upto place key (omega arith) (omega arith) (omega arith) held
