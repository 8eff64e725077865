-- The scripts so far are cut, and the rest is still to be.
use Rattle.std.proofs.Common.{◌≡◌, ◌≤◌, length}
use Rattle.hc_meaning.specs.Transactions.{cut_all}
use Rattle.hc_meaning.proofs.Loops.AllCuts.{cut_each_from}
use Rattle.hc_meaning.proofs.reference.cutting.cut_all.Given as goal

abbrev pub invariant-loop-script : goal.invariant-loop-script
invariant-loop-script l = record {
  counted : l.at ≤ l.script-index;
  within : l.at ≤ length l.transcripts;
  cut_so_far : cut_all l.scripts l.transcripts ≡ cut_each_from l.scripts l.transcripts l.transactions.items l.script-index l.at;
}
