-- A part is read: its cells are those of the snapshot.
use Rattle.std.proofs.Common.{◌≡◌, ⊎_elim, refl, sym, subst, ℕ, List, ◌∷◌}
use Rattle.hc_range.specs.declared.range.Range.{Range}
use Rattle.hc_core.specs.declared.cells.Cell.{Cell}
use Rattle.hc_base.specs.Lookup.{but}
use Rattle.hc_core.specs.Account.{Txn, PartRead}
use Rattle.hc_core.specs.Versions.{AreCellsAfter}
use Rattle.hc_core.specs.Sound.{AreSound}
use Rattle.hc_core.proofs.Ordered.{newest_sound}
use Rattle.hc_core.proofs.Kept.Same.{by_parts, kept_aside}

-- a transaction without an id notes the cells that it read, and all stays sound
pub kept_read : {size : ℕ} {log : ℕ → ℕ} {of : ℕ → List Txn} (s : AreSound size log of) (i : ℕ) (t : Txn) (rest : List Txn) (is : of i ≡ t ∷ rest)
    (part : Range) (cells : List Cell) → t.id ≡ 0 → AreCellsAfter of t.snapshot part cells
    → AreSound size log (but of i (record t { reads = record { part = part; cells = cells } ∷ t.reads } ∷ rest))
kept_read {size} {log} {of} s i t rest is part cells undrawn are_cells =
    let h = newest_sound s i t rest is in
    kept_aside s i t (record t { reads = record { part = part; cells = cells } ∷ t.reads }) rest is
    (record { id = refl; ord = refl; snapshot = refl; place = refl; write_set = refl; puts = refl })
    (by_parts _ h.numbers h.writes h.holds (λ read among. ⊎_elim (λ same. subst (λ (r : PartRead). AreCellsAfter of t.snapshot r.part r.cells) (sym same) are_cells) (λ old. h.reads read old) among) h.checks (λ placed. absurd (placed (h.numbers.undrawn undrawn).0)) h.refusals)
