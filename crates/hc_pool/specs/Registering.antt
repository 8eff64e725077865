-- Registering: what it asks of a seat, and what it adds to what the seat knows.
use Rattle.std.specs.Prelude.{◌≡◌, ℕ}
use Rattle.hc_base.specs.declared.numbers.Cid.{Cid}
use Rattle.hc_base.specs.declared.seat_word.SeatWord.TheVariants as seat
use Rattle.hc_core.specs.Account.{IsIdle}
use Rattle.hc_rows.specs.declared.layout.Layout.{Layout}
use Rattle.hc_rule.specs.declared.view.View.{View}
use Rattle.hc_rule.specs.Kinds.LoadLog.{own_txns}
use Rattle.hc_rule.specs.Kinds.StoreSeat.{with_stage}
use Rattle.hc_tidlog.specs.Looking.{Began}

-- the word of its connection says that it is idle, and no transaction is open
abbrev pub IsIdleSeat : View → Type 0
IsIdleSeat v = (v.stage ≡ seat.Idle) × IsIdle (own_txns v)

-- it was starting, a transaction began where the log was found to end, with this snapshot, and its word has the snapshot now
abbrev pub Registers : Layout → ℕ → View → Cid → View → Type 0
Registers y conn v s w = (u : View) × Began y conn (with_stage seat.Starting v) s u × (w ≡ with_stage (seat.Snapshot s) u)
