use Rattle.std.proofs.Common.{◌≢◌, arith}
use Rattle.hc_commit.proofs.Ready.{has_put, may_propose, refused_ready, won_may_end}
use Rattle.hc_commit.proofs.committing.settle_or_unput.Goals as goal

pub settle-requires-clause-put : goal.settle-requires-clause-put
settle-requires-clause-put g c = may_propose c.args.writes.now c.args.log.now (g.D.Desk.account c.args.desk.now) c.requires.ready

pub unput_all-requires-clause-put : goal.unput_all-requires-clause-put
unput_all-requires-clause-put g c =
    has_put c.args.writes.now c.args.log.now (g.D.Desk.account c.settle.new.desk)
    (refused_ready (g.D.Desk.conn c.args.desk.now) c.args.writes.now c.args.log.now (g.D.Desk.most c.args.desk.now) c.in-Err.met (g.D.Desk.account c.args.desk.now) (g.D.Desk.account c.settle.new.desk)
    c.in-Err.ensures.refused c.requires.ready)

pub returns-in-Ok-clause-may_end : goal.returns-in-Ok-clause-may_end
returns-in-Ok-clause-may_end g c =
    let some : c.in-Ok.number.0 ≢ 0 = λ e. absurd (omega (arith, c.in-Ok.ensures.number.0, e)) in
    won_may_end (g.D.Desk.conn c.args.desk.now) c.args.writes.now c.args.log.now (g.D.Desk.most c.args.desk.now) c.in-Ok.number (g.D.Desk.account c.args.desk.now) (g.D.Desk.account c.settle.new.desk)
    c.in-Ok.ensures.won some c.requires.ready
