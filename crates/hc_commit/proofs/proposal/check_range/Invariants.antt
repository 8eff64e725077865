use Rattle.hc_core.specs.Desk.{GoesOn}
use Rattle.hc_txn.specs.Reading.{IsPlace, StopsAt}
use Rattle.hc_txn.proofs.Ranks.{left_above}
use Rattle.hc_commit.specs.Stages.{HasCheckedUpto}
use Rattle.hc_commit.proofs.proposal.check_range.Given as goal

-- the range was checked up to where the next call begins
abbrev pub invariant-loop-next : goal.invariant-loop-next
invariant-loop-next g l = record {
  checked : HasCheckedUpto (g.D.Desk.conn l.fn.desk) l.range l.next (g.D.Desk.account l.fn.desk) (g.D.Desk.account l.desk);
  stop : StopsAt l.range l.next;
  place : IsPlace l.next;
  on : GoesOn g.D.Desk.conn g.D.Desk.most g.D.Desk.seen g.D.Desk.later l.fn.desk l.desk;
}

abbrev pub decreases-loop-next : goal.decreases-loop-next
decreases-loop-next g l = left_above l.next
