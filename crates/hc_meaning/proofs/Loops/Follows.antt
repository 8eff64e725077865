-- How a transaction's number lies to an earlier one's of the same connection.
use Rattle.std.proofs.Common.{◌≡◌, ◌<◌, ◌≤◌}
use Rattle.hc_meaning.specs.declared.transaction.Transaction.{Transaction}
use Rattle.hc_transcript.specs.Text.{ending_number}
use Rattle.hc_meaning.specs.RightOutput.{IsCommitted}

-- the second may come later
abbrev pub MayFollow : Transaction → Transaction → Type 0
MayFollow t u = t.conn ≡ u.conn → t.ordinal < u.ordinal → (ending_number t.ending ≤ ending_number u.ending) × (IsCommitted u.ending → ending_number t.ending < ending_number u.ending)
