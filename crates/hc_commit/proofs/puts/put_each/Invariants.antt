use Rattle.std.proofs.Common.{◌≡◌, take}
use Rattle.hc_core.specs.Desk.{GoesOn}
use Rattle.hc_commit.specs.Entries.{with_puts}
use Rattle.hc_commit.proofs.puts.put_each.Given as goal

-- those before this one are put
abbrev pub invariant-loop-i : goal.invariant-loop-i
invariant-loop-i g l = record {
  put : g.D.Desk.account l.desk ≡ with_puts (g.D.Desk.conn l.fn.desk) (take l.i l.writes) (g.D.Desk.account l.fn.desk);
  on : GoesOn g.D.Desk.conn g.D.Desk.most g.D.Desk.seen g.D.Desk.later l.fn.desk l.desk;
}
