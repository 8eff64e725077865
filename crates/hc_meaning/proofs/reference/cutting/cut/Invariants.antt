-- The replies so far are cut, and the rest is still to be.
use Rattle.std.proofs.Common.{◌≡◌, ◌≤◌, length}
use Rattle.hc_meaning.specs.Transactions.{cut}
use Rattle.hc_meaning.proofs.Loops.Cuts.{cut_from}
use Rattle.hc_meaning.proofs.reference.cutting.cut.Given as goal

abbrev pub invariant-loop-at : goal.invariant-loop-at
invariant-loop-at l = record {
  within : l.at ≤ length l.statements;
  cut_so_far : cut l.conn 1 l.statements l.replies ≡ cut_from l.conn l.statements l.replies l.transactions.items l.at;
}
