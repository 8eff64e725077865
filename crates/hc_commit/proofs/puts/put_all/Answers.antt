use Rattle.hc_commit.proofs.Putting.{first_ascend, first_put, given_up}
use Rattle.hc_commit.proofs.puts.put_all.Goals as goal

pub unput_all-requires-clause-ascending : goal.unput_all-requires-clause-ascending
unput_all-requires-clause-ascending g c =
    first_ascend (g.D.Desk.conn c.args.desk.now) c.args.writes.now c.in-Err.stop.met c.in-Err.stop.count (g.D.Desk.account c.args.desk.now) (g.D.Desk.account c.put_each.new.desk) c.in-Err.ensures.met c.requires.ascending

pub unput_all-requires-clause-put : goal.unput_all-requires-clause-put
unput_all-requires-clause-put g c =
    first_put (g.D.Desk.conn c.args.desk.now) c.args.writes.now c.in-Err.stop.met c.in-Err.stop.count (g.D.Desk.account c.args.desk.now) (g.D.Desk.account c.put_each.new.desk) c.in-Err.ensures.met c.requires.room

pub returns-in-Err-clause-met : goal.returns-in-Err-clause-met
returns-in-Err-clause-met g c =
    given_up (g.D.Desk.conn c.args.desk.now) c.args.writes.now c.in-Err.stop.met c.in-Err.stop.count (g.D.Desk.account c.args.desk.now) (g.D.Desk.account c.put_each.new.desk) c.in-Err.ensures.met
    (g.D.Desk.conn c.put_each.new.desk) (g.D.Desk.account c.unput_all.new.desk) c.in-Err.ensures.on.0 c.unput_all.ensures.entries
