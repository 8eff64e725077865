use Rattle.std.proofs.Common.{◌≡◌, length}
use Rattle.hc_txn.specs.Transactions.{earlier}
use Rattle.hc_txn.proofs.own.OwnWrites.undo_to.Given as goal

-- what is left to undo is the same
abbrev pub invariant-loop-self : goal.invariant-loop-self
invariant-loop-self l = record {
  own : earlier l.count l.self.own ≡ earlier l.count l.fn.self.own;
  kept : l.self.kept ≡ l.fn.self.kept;
}

abbrev pub decreases-loop-self : goal.decreases-loop-self
decreases-loop-self l = length l.self.own
