-- What a write does.
use Rattle.std.specs.Prelude.{◌≡◌, ℕ, ◌+◌, ◌-◌, ◌^◌, min, true, false, Option, Result, Ok, Err, List, ◌∷◌, length}
use Rattle.hc_base.specs.Entries.{entry_fits}
use Rattle.hc_core.specs.Account.{record_of}
use Rattle.hc_txn.specs.Reading.{only}
use Rattle.hc_txn.specs.Transactions.{Transaction, LogsKeyToo, LogsWithin}
use Rattle.hc_txn.specs.declared.txn.WriteFault.{WriteFault}
use Rattle.hc_txn.specs.declared.txn.WriteFault.TheVariants.{TooBig, NoMemory}

-- the fault is that the entry is over the limit
abbrev pub IsTooBig : WriteFault → Type 0
IsTooBig (TooBig size) = Unit {0}
IsTooBig NoMemory = ⊥

-- A write is the newest own write then, and its key is logged. It is refused for its size exactly where its entry is over the
-- limit: the size that is told is 16 and the lengths of key and record, as far as 64 bits can tell it. Without memory the
-- own writes are as before, and at most its key is logged.
abbrev pub HasWritten : {T : Type 0} → Result T WriteFault → List ℕ → Option (List ℕ) → Transaction → Transaction → Type 0
HasWritten (Ok done) key rec before after = (entry_fits (length key) (length (record_of rec)) ≡ true)
    × (after.own ≡ record { key = key; rec = rec } ∷ before.own) × LogsKeyToo key before.log after.log
HasWritten (Err (TooBig size)) key rec before after = (entry_fits (length key) (length (record_of rec)) ≡ false)
    × (size ≡ min (16 + length key + length (record_of rec)) (2 ^ 64 - 1))
HasWritten (Err NoMemory) key rec before after = (entry_fits (length key) (length (record_of rec)) ≡ true)
    × (after.own ≡ before.own) × LogsWithin (only key) before.log after.log
