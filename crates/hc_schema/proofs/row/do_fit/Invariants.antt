-- All fit where those that are left do.
use Rattle.std.proofs.Common.{◌↔◌, length}
use Rattle.hc_schema.specs.Tables.{Pairwise}
use Rattle.hc_schema.specs.Databases.{FitsColumn}
use Rattle.hc_schema.proofs.row.do_fit.Given as goal

abbrev pub invariant-loop-column : goal.invariant-loop-column
invariant-loop-column l = Pairwise FitsColumn l.columns l.values ↔ Pairwise FitsColumn l.left l.right

abbrev pub decreases-loop-column : goal.decreases-loop-column
decreases-loop-column l = length l.left
