use Rattle.std.proofs.Common.{List, length}
use Rattle.hc_txn.specs.Laid.{standing}
use Rattle.hc_txn.proofs.KeptEntries.{seen}
use Rattle.hc_txn.proofs.LastPut.{HasPassed}
use Rattle.hc_txn.proofs.kept.last_put.Given as goal

abbrev pub invariant-loop-key : goal.invariant-loop-key
invariant-loop-key l = HasPassed (standing (seen (λ k. k.items) l.fn.keys)) (standing (seen (λ k. k.items) l.keys))

abbrev pub decreases-loop-key : goal.decreases-loop-key
decreases-loop-key l = length l.keys
