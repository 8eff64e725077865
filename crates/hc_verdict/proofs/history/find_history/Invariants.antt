-- The first commits are there, each at its place.
use Rattle.std.proofs.Common.{◌≡◌, length}
use Rattle.hc_verdict.proofs.Histories.{IsPrinted}
use Rattle.hc_verdict.proofs.history.find_history.Given as goal

abbrev pub invariant-loop-k : goal.invariant-loop-k
invariant-loop-k l = record {
  counted : length l.history.items ≡ l.k;
  printed : IsPrinted l.transactions l.history.items;
}
