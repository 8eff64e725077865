-- What a key has after one number of commits and after another.
use Rattle.std.proofs.Common.{◌≡◌, ◌↔◌, ◌∙◌, ⊎_elim, sym, subst, ℕ, suc, ◌≤◌, Option, List, arith}
use Rattle.std.proofs.lemmas.Bool.{cases_lt}
use Rattle.hc_core.specs.Account.{Txn, HasWritten, HasWrittenAs}
use Rattle.hc_base.specs.Lookup.{Among}
use Rattle.hc_core.specs.Sound.{AreSound, NonePutBetween}
use Rattle.hc_core.specs.Versions.{HasAfter, PutAt}
use Rattle.hc_core.proofs.LogCells.{once_one}
use Rattle.hc_core.proofs.Ordered.{one_place}

-- before the first commit no key has anything
pub none_after : (of : ℕ → List Txn) (key : List ℕ) (rec : Option (List ℕ)) → HasAfter of 0 key rec → ⊥
none_after of key rec has = has.2.4 (omega (arith, has.1))

-- a key that no commit between put has the same
pub after_same : (of : ℕ → List Txn) (s k : ℕ) (key : List ℕ) → s ≤ k → NonePutBetween of s (suc k) key → (rec : Option (List ℕ))
    → HasAfter of s key rec ↔ HasAfter of k key rec
after_same of s k key within none rec = (
  λ has. (
    has.0,
    omega (arith, has.1, within),
    has.2,
    λ d other above below put. ⊎_elim
        (λ beyond. none d other beyond (omega (arith, below)) put)
        (λ inside. has.3 d other above inside put)
        (cases_lt s d),
  ),
  λ has. ⊎_elim
      (λ beyond. absurd (none has.0 rec beyond (omega (arith, has.1)) has.2))
      (λ inside. (has.0, inside, has.2, λ d other above below put. has.3 d other above (omega (arith, below, within)) put))
      (cases_lt s has.0),
)

module _ {size : ℕ} {log : ℕ → ℕ} {of : ℕ → List Txn} (sound : AreSound size log of) (i : ℕ) (x : Txn) (there : Among x (of i)) (k : ℕ) (place : x.place ≡ suc k) where
  -- what is put at a transaction's commit number it has written
  pub written_by : (key : List ℕ) (rec : Option (List ℕ)) → PutAt of (suc k) key rec → HasWrittenAs x key rec
  written_by key rec put =
      let one = one_place sound put.0 i put.1 x put.2 there (λ zero_is. put.4 (sym put.3 ∙ zero_is)) (put.3 ∙ sym place) in
      subst (λ (t : Txn). HasWrittenAs t key rec) one.1 put.5

  pub put_by : (key : List ℕ) (rec : Option (List ℕ)) → HasWrittenAs x key rec → PutAt of (suc k) key rec
  put_by key rec written = (i, x, there, place, (λ e. omega (arith, e)), written)

  -- a key that it wrote has what it wrote after it
  pub after_write : (key : List ℕ) (written rec : Option (List ℕ)) → HasWrittenAs x key written → HasAfter of (suc k) key rec ↔ (written ≡ rec)
  after_write key written rec is = (
    λ has. ⊎_elim
        (λ earlier. absurd (has.3 (suc k) written earlier (omega arith) (put_by key written is)))
        (λ here. once_one x.write_set (sound.each i x there).writes.once key written rec is
        (written_by key rec (subst (λ c. PutAt of c key rec) (omega (arith, here, has.1)) has.2)))
        (cases_lt has.0 (suc k)),
    λ same. (suc k, omega arith, put_by key rec (subst (HasWrittenAs x key) same is), λ d other above below put. omega (arith, above, below)),
  )

  -- and any other key has what it had before
  pub after_other : (key : List ℕ) (rec : Option (List ℕ)) → (HasWritten x key → ⊥) → HasAfter of k key rec ↔ HasAfter of (suc k) key rec
  after_other key rec never = after_same of k (suc k) key (omega arith)
      (λ c other above below put. never (other, written_by key other (subst (λ d. PutAt of d key other) (omega (arith, above, below)) put))) rec
