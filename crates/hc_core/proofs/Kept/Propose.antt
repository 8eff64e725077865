-- A number is proposed: no check is for it yet.
use Rattle.std.proofs.Common.{◌≡◌, ◌≢◌, refl, ℕ, ◌+◌, ◌≤◌, List, [], ◌∷◌}
use Rattle.hc_base.specs.Lookup.{but}
use Rattle.hc_core.specs.Account.{Txn}
use Rattle.hc_core.specs.Sound.{AreSound}
use Rattle.hc_core.proofs.Ordered.{newest_sound}
use Rattle.hc_core.proofs.Kept.Same.{by_parts, kept_aside}

-- an undecided transaction proposes a number up to the next, without checks, and all stays sound
pub kept_propose : {size : ℕ} {log : ℕ → ℕ} {of : ℕ → List Txn} (s : AreSound size log of) (i : ℕ) (t : Txn) (rest : List Txn) (is : of i ≡ t ∷ rest)
    (number : ℕ) → t.id ≢ 0 → t.place ≡ 0 → number ≤ size + 1
    → AreSound size log (but of i (record t { proposed = number; checked = [] } ∷ rest))
kept_propose {size} {log} {of} s i t rest is number drawn undecided within =
    let h = newest_sound s i t rest is in
    kept_aside s i t (record t { proposed = number; checked = [] }) rest is
    (record { id = refl; ord = refl; snapshot = refl; place = refl; write_set = refl; puts = refl })
    (by_parts _ (record { snapshot_within = h.numbers.snapshot_within; undrawn = λ none. absurd (drawn none); place_within = h.numbers.place_within; proposed_within = within; chosen = λ placed. absurd (placed undecided) }) h.writes h.holds h.reads (record { current = λ part among. absurd among; ever = h.checks.ever }) h.first h.refusals)
