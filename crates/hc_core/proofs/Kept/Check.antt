-- A part is checked: no commit between the snapshot and the proposed number put a key of it.
use Rattle.std.proofs.Common.{◌≡◌, ⊎_elim, refl, sym, subst, ℕ, ◌+◌, ◌<◌, ◌≤◌, List, ◌∷◌}
use Rattle.hc_range.specs.declared.range.Range.{Range}
use Rattle.hc_range.specs.Ranges.{InRange}
use Rattle.hc_base.specs.Lookup.{but}
use Rattle.hc_core.specs.Account.{Txn, PartChecked}
use Rattle.hc_core.specs.Machine.{IsUnchanged}
use Rattle.hc_core.specs.Sound.{AreSound, NonePutBetween}
use Rattle.hc_core.proofs.Ordered.{newest_sound}
use Rattle.hc_core.proofs.Kept.Same.{by_parts, kept_aside}

-- where nothing changed in a part, no commit between put a key of it
unchanged_none : (of : ℕ → List Txn) (snapshot number : ℕ) (part : Range) → IsUnchanged of snapshot number part → (key : List ℕ) → InRange part key → NonePutBetween of snapshot number key
unchanged_none of snapshot number part unchanged key inside c rec above below put =
    unchanged key put.0 put.1 inside (put.2, subst (λ n. snapshot < n) (sym put.3) above, subst (λ n. n < number) (sym put.3) below, (rec, put.5))

-- a check that found nothing is noted, and all stays sound
pub kept_check : {size : ℕ} {log : ℕ → ℕ} {of : ℕ → List Txn} (s : AreSound size log of) (i : ℕ) (t : Txn) (rest : List Txn) (is : of i ≡ t ∷ rest)
    (part : Range) → IsUnchanged of t.snapshot t.proposed part
    → AreSound size log (but of i (record t { checked = part ∷ t.checked; unchanged = record { part = part; number = t.proposed } ∷ t.unchanged } ∷ rest))
kept_check {size} {log} {of} s i t rest is part unchanged =
    let h = newest_sound s i t rest is in
    kept_aside s i t (record t { checked = part ∷ t.checked; unchanged = record { part = part; number = t.proposed } ∷ t.unchanged }) rest is
    (record { id = refl; ord = refl; snapshot = refl; place = refl; write_set = refl; puts = refl })
    (by_parts _ h.numbers h.writes h.holds h.reads (record {
      current = λ p among. ⊎_elim (λ same. subst (λ q. (key : List ℕ) → InRange q key → NonePutBetween of t.snapshot t.proposed key) (sym same) (unchanged_none of t.snapshot t.proposed part unchanged)) (λ old. h.checks.current p old) among;
      ever = λ found among. ⊎_elim
          (λ same. subst (λ (f : PartChecked). (f.number ≤ size + 1) × ((key : List ℕ) → InRange f.part key → NonePutBetween of t.snapshot f.number key)) (sym same)
          (h.numbers.proposed_within, unchanged_none of t.snapshot t.proposed part unchanged))
          (λ old. h.checks.ever found old)
          among;
    }) h.first h.refusals)
