-- Words that are written at a place, one after the other.
use Rattle.std.proofs.Common.{◌≡◌, ◌≢◌, ℕ, zero, suc, ◌+◌, ◌<◌, ◌≤◌, List, ◌∷◌, length, take, get_or, set, refl, sym, ap, ◌∙◌, inl, inr, arith, get_or-set_other, get_or-set_same, length-take-le, length-set}
use Rattle.std.specs.Prelude.{replicate}
use Rattle.std.proofs.lemmas.List.{get_or-take, take_all}
use Rattle.std.proofs.lemmas.Bool.{cases_eq}
use Rattle.hc_page.specs.Drafts.{IsWritten}

-- zeros are 0 at each place
pub zeros_are : (n i : ℕ) → let zs : List ℕ = replicate n 0 in get_or zs i 0 ≡ 0
zeros_are zero i = refl
zeros_are (suc n) zero = refl
zeros_are (suc n) (suc i) = zeros_are n i

-- nothing is written yet
pub written_none : (old : List ℕ) (at : ℕ) (ws : List ℕ) → IsWritten old old at (take 0 ws)
written_none old at ws = record { before = λ i less. refl; here = λ k none. absurd (omega arith); after = λ i past. refl }

-- one word more
pub written_more : (old new : List ℕ) (at k v : ℕ) (ws : List ℕ) → IsWritten old new at (take k ws) → k < length ws → at + length ws ≤ length new → v ≡ get_or ws k 0
    → IsWritten old (set new (at + k) v) at (take (k + 1) ws)
written_more old new at k v ws so_far within room is =
    let here : at + k < length new = omega arith in
    let short : length (take k ws) ≡ k = length-take-le k ws (omega arith) in
    let long : length (take (k + 1) ws) ≡ k + 1 = length-take-le (k + 1) ws (omega arith) in
    record {
      before = λ i less. let other : i ≢ at + k = omega arith in rw get_or-set_other (so_far.before i less);
      here = λ j inside.
          elim (cases_eq j k) [
            | inl same ↦
                ap (λ n. get_or (set new (at + k) v) (at + n) 0) same
                ∙ (get_or-set_same new (at + k) v 0 here ∙ (is ∙ (sym (get_or-take (k + 1) ws k 0 (omega arith)) ∙ ap (λ n. get_or (take (k + 1) ws) n 0) (sym same))))
            | inr apart ↦
                let other : at + j ≢ at + k = omega arith in
                let earlier : j < k = omega (arith, inside, long, apart) in
                rw get_or-set_other (so_far.here j (omega (arith, earlier, short)) ∙ (get_or-take k ws j 0 earlier ∙ sym (get_or-take (k + 1) ws j 0 (omega arith))))
          ];
      after = λ i past.
          let other : i ≢ at + k = omega (arith, past, long) in
          rw get_or-set_other (so_far.after i (omega (arith, past, long, short)));
    }

-- all of them
pub written_all : (old new : List ℕ) (at k : ℕ) (ws : List ℕ) → IsWritten old new at (take k ws) → length ws ≤ k → IsWritten old new at ws
written_all old new at k ws so_far all = rw take_all at so_far

-- two words before others
pub written_two : (old new : List ℕ) (at a b : ℕ) (ws : List ℕ) → at + 2 ≤ length old → IsWritten (set (set old at a) (at + 1) b) new (at + 2) ws → IsWritten old new at (a ∷ b ∷ ws)
written_two old new at a b ws room after = record {
  before = λ i less. after.before i (omega arith) ∙ kept i (omega arith) (omega arith);
  here = first_two;
  after = λ i past. after.after i (omega arith) ∙ kept i (omega arith) (omega arith);
}
  where
    kept : (i : ℕ) → i ≢ at → i ≢ at + 1 → get_or (set (set old at a) (at + 1) b) i 0 ≡ get_or old i 0
    kept i one other = get_or-set_other (set old at a) (at + 1) i b 0 other ∙ get_or-set_other old at i a 0 one

    first_two : (k : ℕ) → k < length (a ∷ b ∷ ws) → get_or new (at + k) 0 ≡ get_or (a ∷ b ∷ ws) k 0
    first_two zero within =
        ap (λ n. get_or new n 0) (let e : at + 0 ≡ at = omega arith in e)
        ∙ (after.before at (omega arith) ∙ (get_or-set_other (set old at a) (at + 1) at b 0 (omega arith) ∙ get_or-set_same old at a 0 (omega arith)))
    first_two (suc zero) within =
        after.before (at + 1) (omega arith) ∙ get_or-set_same (set old at a) (at + 1) b 0 (omega (arith, length-set old at a))
    first_two (suc (suc k)) within =
        ap (λ n. get_or new n 0) (let e : at + suc (suc k) ≡ at + 2 + k = omega arith in e) ∙ after.here k (omega arith)

-- a word before others
pub written_one : (old new : List ℕ) (at a : ℕ) (ws : List ℕ) → at + 1 ≤ length old → IsWritten (set old at a) new (at + 1) ws → IsWritten old new at (a ∷ ws)
written_one old new at a ws room after = record {
  before = λ i less. after.before i (omega arith) ∙ get_or-set_other old at i a 0 (omega arith);
  here = first;
  after = λ i past. after.after i (omega arith) ∙ get_or-set_other old at i a 0 (omega arith);
}
  where
    first : (k : ℕ) → k < length (a ∷ ws) → get_or new (at + k) 0 ≡ get_or (a ∷ ws) k 0
    first zero within =
        ap (λ n. get_or new n 0) (let e : at + 0 ≡ at = omega arith in e) ∙ (after.before at (omega arith) ∙ get_or-set_same old at a 0 (omega arith))
    first (suc k) within =
        ap (λ n. get_or new n 0) (let e : at + suc k ≡ at + 1 + k = omega arith in e) ∙ after.here k (omega arith)
