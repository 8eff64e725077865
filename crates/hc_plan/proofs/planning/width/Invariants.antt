-- The columns of the tables so far.
use Rattle.std.proofs.Common.{◌≡◌, take, length}
use Rattle.std.specs.List.{sum_by}
use Rattle.hc_plan.proofs.planning.width.Given as goal

abbrev pub invariant-loop-t : goal.invariant-loop-t
invariant-loop-t l = l.width ≡ sum_by (λ t. length t.now.columns) (take l.t-index l.tables)
