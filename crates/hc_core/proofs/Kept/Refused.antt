-- A put or a check is refused: the refusal names a transaction of another connection that put the key.
use Rattle.std.proofs.Common.{◌≡◌, ⊎_elim, refl, sym, subst, ℕ, List, ◌∷◌}
use Rattle.hc_base.specs.Lookup.{but}
use Rattle.hc_core.specs.Account.{Txn, Refusal}
use Rattle.hc_core.specs.Sound.{AreSound, NamesWriter}
use Rattle.hc_core.proofs.Ordered.{newest_sound}
use Rattle.hc_core.proofs.Kept.Same.{by_parts, kept_aside}

-- a refusal that names another connection's transaction is noted, and all stays sound
pub kept_refused : {size : ℕ} {log : ℕ → ℕ} {of : ℕ → List Txn} (s : AreSound size log of) (i : ℕ) (t : Txn) (rest : List Txn) (is : of i ≡ t ∷ rest)
    (refusal : Refusal) → NamesWriter of i t.snapshot refusal
    → AreSound size log (but of i (record t { refusals = refusal ∷ t.refusals } ∷ rest))
kept_refused {size} {log} {of} s i t rest is refusal names =
    let h = newest_sound s i t rest is in
    kept_aside s i t (record t { refusals = refusal ∷ t.refusals }) rest is
    (record { id = refl; ord = refl; snapshot = refl; place = refl; write_set = refl; puts = refl })
    (by_parts _ h.numbers h.writes h.holds h.reads h.checks h.first (λ r among. ⊎_elim (λ same. subst (NamesWriter of i t.snapshot) (sym same) names) (λ old. h.refusals r old) among))
