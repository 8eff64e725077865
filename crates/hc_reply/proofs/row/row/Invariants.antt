-- The values so far are read, each with its bar.
use Rattle.std.proofs.Common.{◌≡◌, ◌++◌, length}
use Rattle.hc_reply.proofs.Rows.{before_bars, ArePrintable}
use Rattle.hc_reply.proofs.row.row.Given as goal

abbrev pub invariant-loop-values : goal.invariant-loop-values
invariant-loop-values l = record {
  written : l.bytes ≡ before_bars l.values ++ l.rest;
  are : ArePrintable l.values;
}

abbrev pub decreases-loop-values : goal.decreases-loop-values
decreases-loop-values l = length l.rest
