-- The names of all differ where those that are left do.
use Rattle.std.proofs.Common.{◌↔◌, length}
use Rattle.hc_schema.specs.Tables.{NamesDiffer, index_names}
use Rattle.hc_schema.proofs.checks.do_indexes_differ.Given as goal

abbrev pub invariant-loop-index : goal.invariant-loop-index
invariant-loop-index l = NamesDiffer (index_names l.indexes) ↔ NamesDiffer (index_names l.left)

abbrev pub decreases-loop-index : goal.decreases-loop-index
decreases-loop-index l = length l.left
