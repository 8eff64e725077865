-- Transactions that differ by their names: the connection and the ordinal there.
use Rattle.std.specs.Prelude.{◌≡◌, ◌≢◌, ℕ, ◌-◌, List, Some, slice_get}
use Rattle.hc_base.specs.Lookup.{Among}
use Rattle.hc_transcript.specs.declared.reply.Ending.TheVariants.{Commit}
use Rattle.hc_meaning.specs.Runs.Cut.{Transaction}

-- one of these with the name of a transaction is that transaction
abbrev pub IsToldByName : List Transaction → Transaction → Type 0
IsToldByName ts t = (u : Transaction) → Among u ts → u.conn ≡ t.conn → u.ordinal ≡ t.ordinal → u ≡ t

-- different ones have different names
abbrev pub DifferByName : List Transaction → Type 0
DifferByName ts = (t : Transaction) → Among t ts → IsToldByName ts t

-- where it printed a commit number, it is at that place of the history, counted from 1
abbrev pub IsPlaced : List Transaction → Transaction → Type 0
IsPlaced history t = (k : ℕ) → t.ending ≡ Commit k → (k ≢ 0) × (slice_get history (k - 1) ≡ Some t)
