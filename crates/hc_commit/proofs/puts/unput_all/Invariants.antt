use Rattle.std.proofs.Common.{◌≡◌, take}
use Rattle.hc_core.specs.Desk.{GoesOn}
use Rattle.hc_commit.specs.Entries.{with_unputs}
use Rattle.hc_commit.proofs.puts.unput_all.Given as goal

-- those before this one were taken out
abbrev pub invariant-loop-write : goal.invariant-loop-write
invariant-loop-write g l = record {
  taken : g.D.Desk.account l.desk ≡ with_unputs (g.D.Desk.conn l.fn.desk) (take l.write-index l.writes) (g.D.Desk.account l.fn.desk);
  on : GoesOn g.D.Desk.conn g.D.Desk.most g.D.Desk.seen g.D.Desk.later l.fn.desk l.desk;
}
