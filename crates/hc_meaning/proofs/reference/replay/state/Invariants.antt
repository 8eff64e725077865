-- The transactions so far led to this db.
use Rattle.std.proofs.Common.{◌≡◌}
use Rattle.hc_meaning.specs.History.{state}
use Rattle.hc_meaning.proofs.reference.replay.state.Given as goal

abbrev pub invariant-loop-transaction : goal.invariant-loop-transaction
invariant-loop-transaction l = l.db ≡ state l.first l.transaction-index
