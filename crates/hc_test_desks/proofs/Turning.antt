-- What a connection does at a machine leaves the guards of the others.
use Rattle.std.proofs.Common.{◌≡◌, ⊎_elim, sym, subst, arith, ℕ, ◌<◌, List, length, get_or, slice_set, Result, Ok, Err, OnOk}
use Rattle.std.proofs.lemmas.Bool.{cases_eq}
use Rattle.std.proofs.lemmas.List.{get_or-set_other, get_or-set_same, length-set}
use Rattle.hc_core.specs.Account.{txns}
use Rattle.hc_core.specs.ListDesk.{HasRoomOnceDrawn, IsLater, Owns}
use Rattle.hc_core.specs.Machine.{Machine, account_of}
use Rattle.hc_core.specs.declared.account.Entry.{Entry}
use Rattle.hc_core.proofs.Others.{leaves_run}
use Rattle.hc_test_desks.specs.Guarded.{IsGuarded}
use Rattle.hc_test_desks.specs.Turns.{AreGuarded}
use Rattle.hc_test_desks.specs.declared.guard.Guard.{Guard}

-- after a call of one connection each guard is still that of its account
pub turned : (m now : Machine) (guards : List Guard) (i : ℕ) (guard : Guard) → AreGuarded m guards → i < length guards → IsLater i m now → Owns now i
    → IsGuarded guard (account_of now i) → AreGuarded now (slice_set guards i guard)
turned m now guards i guard all within later owns guarded j d inside =
    let left = leaves_run i m now later.0 later.1 later.2 in
    let there : j < length guards = omega (arith, inside, length-set guards i guard) in
    ⊎_elim
    (λ (here : j ≡ i). (
      subst (Owns now) (sym here) owns,
      subst (λ k. IsGuarded (get_or (slice_set guards i guard) k d) (account_of now k)) (sym here)
          (subst (λ (g : Guard). IsGuarded g (account_of now i)) (sym (get_or-set_same guards i guard d within)) guarded),
    ))
    (λ differ.
    let before = all j d there in
    let same : account_of now j ≡ account_of m j = left.0 j differ in (
      (omega (arith, before.0.0, left.1), subst (λ (a : List Entry). HasRoomOnceDrawn (txns a)) (sym same) before.0.1),
      subst (λ (g : Guard). IsGuarded g (account_of now j)) (sym (get_or-set_other guards i j guard d differ))
          (subst (IsGuarded (get_or guards j d)) (sym same) before.1),
    ))
    (cases_eq j i)

-- what is so where there is an answer, turned into something else
pub on_ok_map : {T E : Type 0} {P Q : Type 0} (r : Result T E) → OnOk r P → (P → Q) → OnOk r Q
on_ok_map (Ok t) p f = f p
on_ok_map (Err e) p f = tt
