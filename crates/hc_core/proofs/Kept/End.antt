-- A transaction ends: it is decided, or nothing of it is written.
use Rattle.std.proofs.Common.{◌≡◌, ◌≢◌, ◌⊎◌, ⊎_elim, refl, ℕ, true, List, [], ◌∷◌}
use Rattle.hc_base.specs.Lookup.{but}
use Rattle.hc_core.specs.Account.{Txn}
use Rattle.hc_core.specs.Sound.{AreSound}
use Rattle.hc_core.proofs.Ordered.{newest_sound}
use Rattle.hc_core.proofs.Kept.Same.{by_parts, kept_aside}

-- the newest transaction, decided or with an empty write set, ends, and all stays sound
pub kept_end : {size : ℕ} {log : ℕ → ℕ} {of : ℕ → List Txn} (s : AreSound size log of) (i : ℕ) (t : Txn) (rest : List Txn) (is : of i ≡ t ∷ rest)
    → (t.place ≢ 0) ⊎ (t.write_set ≡ []) → AreSound size log (but of i (record t { ended = true } ∷ rest))
kept_end {size} {log} {of} s i t rest is may_end =
    let h = newest_sound s i t rest is in
    kept_aside s i t (record t { ended = true }) rest is
    (record { id = refl; ord = refl; snapshot = refl; place = refl; write_set = refl; puts = refl })
    (by_parts _ h.numbers (record { undrawn = h.writes.undrawn; rolled_back = λ ended undecided. ⊎_elim (λ placed. absurd (placed undecided)) (λ none. none) may_end; once = h.writes.once; listed = h.writes.listed }) h.holds h.reads h.checks h.first h.refusals)
