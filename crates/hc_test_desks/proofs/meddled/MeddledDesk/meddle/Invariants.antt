use Rattle.std.proofs.Common.{◌≡◌, ◌≤◌, length}
use Rattle.hc_core.specs.Machine.{account_of}
use Rattle.hc_test_desks.proofs.meddled.MeddledDesk.meddle.Given as goal

-- the desk's account is as before, and the log has not shrunk
abbrev pub invariant-loop : goal.invariant-loop
invariant-loop l = record {
  conn : l.self.desk.conn ≡ l.fn.self.desk.conn;
  same : account_of l.self.desk.core.now l.fn.self.desk.conn ≡ account_of l.fn.self.desk.core.now l.fn.self.desk.conn;
  seen : length l.fn.self.desk.core.now.log ≤ length l.self.desk.core.now.log;
}
