use Rattle.std.proofs.Common.{take}
use Rattle.hc_core.specs.Desk.{GoesOn}
use Rattle.hc_commit.proofs.Checking.{HasCheckedThese}
use Rattle.hc_commit.proofs.proposal.check_all.Given as goal

-- those before this one were checked
abbrev pub invariant-loop-range : goal.invariant-loop-range
invariant-loop-range g l = record {
  checked : HasCheckedThese (g.D.Desk.conn l.fn.desk) (take l.range-index l.log) (g.D.Desk.account l.fn.desk) (g.D.Desk.account l.desk);
  on : GoesOn g.D.Desk.conn g.D.Desk.most g.D.Desk.seen g.D.Desk.later l.fn.desk l.desk;
}
