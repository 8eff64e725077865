-- A note is entered: nothing that soundness speaks of changes.
use Rattle.std.proofs.Common.{◌≡◌, refl, ℕ, List, ◌∷◌, Option}
use Rattle.hc_base.specs.declared.full.Full.{Full}
use Rattle.hc_base.specs.Lookup.{but}
use Rattle.hc_core.specs.Account.{Txn}
use Rattle.hc_core.specs.Sound.{AreSound}
use Rattle.hc_core.specs.declared.cells.Write.{Write}
use Rattle.hc_core.proofs.Ordered.{newest_sound}
use Rattle.hc_core.proofs.Kept.Same.{by_parts, kept_aside}

-- the newest transaction gets a note, and all stays sound
pub kept_noted : {size : ℕ} {log : ℕ → ℕ} {of : ℕ → List Txn} (s : AreSound size log of) (i : ℕ) (t : Txn) (rest : List Txn) (is : of i ≡ t ∷ rest)
    (reserved : List Write) (weight : Option ℕ) (full : Option Full)
    → AreSound size log (but of i (record t { reserved = reserved; weight = weight; full = full } ∷ rest))
kept_noted {size} {log} {of} s i t rest is reserved weight full =
    let h = newest_sound s i t rest is in
    kept_aside s i t (record t { reserved = reserved; weight = weight; full = full }) rest is
    (record { id = refl; ord = refl; snapshot = refl; place = refl; write_set = refl; puts = refl })
    (by_parts _ h.numbers h.writes h.holds h.reads h.checks h.first h.refusals)
