use Rattle.std.proofs.Common.{◌-◌}
use Rattle.hc_core.specs.Desk.{GoesOn}
use Rattle.hc_commit.proofs.Proposing.{HasLost}
use Rattle.hc_commit.proofs.proposal.settle.Given as goal

-- all proposals so far were lost
abbrev pub invariant-loop-number : goal.invariant-loop-number
invariant-loop-number g l = record {
  lost : HasLost (g.D.Desk.conn l.fn.desk) l.log (g.D.Desk.seen l.fn.desk) (g.D.Desk.account l.fn.desk) (g.D.Desk.seen l.desk) (g.D.Desk.account l.desk);
  on : GoesOn g.D.Desk.conn g.D.Desk.most g.D.Desk.seen g.D.Desk.later l.fn.desk l.desk;
}

abbrev pub decreases-loop-number : goal.decreases-loop-number
decreases-loop-number g l = g.D.Desk.most l.desk - g.D.Desk.seen l.desk
