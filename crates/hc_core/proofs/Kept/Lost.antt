-- The proposed number is lost: the proposal is void, and so are its checks.
use Rattle.std.proofs.Common.{◌≡◌, refl, ℕ, List, [], ◌∷◌, arith}
use Rattle.hc_base.specs.Lookup.{but}
use Rattle.hc_core.specs.Account.{Txn}
use Rattle.hc_core.specs.Sound.{AreSound}
use Rattle.hc_core.proofs.Ordered.{newest_sound}
use Rattle.hc_core.proofs.Kept.Same.{by_parts, kept_aside}

-- an undecided transaction loses its proposal and its checks, and all stays sound
pub kept_lost : {size : ℕ} {log : ℕ → ℕ} {of : ℕ → List Txn} (s : AreSound size log of) (i : ℕ) (t : Txn) (rest : List Txn) (is : of i ≡ t ∷ rest)
    → t.place ≡ 0 → AreSound size log (but of i (record t { proposed = 0; checked = [] } ∷ rest))
kept_lost {size} {log} {of} s i t rest is undecided =
    let h = newest_sound s i t rest is in
    kept_aside s i t (record t { proposed = 0; checked = [] }) rest is
    (record { id = refl; ord = refl; snapshot = refl; place = refl; write_set = refl; puts = refl })
    (by_parts _ (record { snapshot_within = h.numbers.snapshot_within; undrawn = λ none. ((h.numbers.undrawn none).0, refl); place_within = h.numbers.place_within; proposed_within = omega arith; chosen = λ placed. absurd (placed undecided) }) h.writes h.holds h.reads (record { current = λ part among. absurd among; ever = h.checks.ever }) h.first h.refusals)
