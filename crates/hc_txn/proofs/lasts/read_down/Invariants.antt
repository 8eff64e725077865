use Rattle.hc_core.specs.Desk.{GoesOn}
use Rattle.hc_txn.specs.Lasts.{HasReadDown, part_from}
use Rattle.hc_txn.specs.Reading.{HasLogged}
use Rattle.hc_txn.specs.Transactions.{LogsRangeToo}
use Rattle.hc_txn.proofs.LastSeen.{left_below}
use Rattle.hc_txn.proofs.lasts.read_down.Given as goal

-- the range was read down to the cell that was found last, and is logged from there on
abbrev pub invariant-loop-found : goal.invariant-loop-found
invariant-loop-found g l = record {
  read : HasReadDown (g.D.Desk.conn l.fn.desk) l.own.own l.range l.found (g.D.Desk.account l.fn.desk) (g.D.Desk.account l.desk);
  logged : HasLogged (g.D.Desk.conn l.fn.desk) l.range (g.D.Desk.account l.fn.desk) (g.D.Desk.account l.desk) l.fn.log l.log;
  whole : LogsRangeToo (part_from l.range l.found) l.fn.log l.log;
  on : GoesOn g.D.Desk.conn g.D.Desk.most g.D.Desk.seen g.D.Desk.later l.fn.desk l.desk;
}

abbrev pub decreases-loop-found : goal.decreases-loop-found
decreases-loop-found g l = left_below l.found
