use Rattle.std.proofs.Common.{rules}
use Rattle.hc_commit.proofs.Proposing.{lost_again, still_put}
use Rattle.hc_commit.proofs.proposal.settle.Goals as goal

pub propose-requires-clause-put : goal.propose-requires-clause-put
propose-requires-clause-put g c =
    still_put (g.D.Desk.conn c.args.desk.now) c.args.log.now (g.D.Desk.seen c.args.desk.now) (g.D.Desk.account c.args.desk.now) (g.D.Desk.seen c.loop-number.desk) (g.D.Desk.account c.loop-number.desk)
    (g.D.Desk.account c.loop-number.desk) c.loop-number.invariant.lost c.requires.put

pub loop-number-preserved : goal.loop-number-preserved
loop-number-preserved g c = record {
  lost = lost_again (g.D.Desk.conn c.args.desk.now) c.args.log.now (g.D.Desk.seen c.args.desk.now) (g.D.Desk.account c.args.desk.now) (g.D.Desk.seen c.loop-number.desk) (g.D.Desk.account c.loop-number.desk)
      (g.D.Desk.account c.propose.new.desk) c.loop-number.invariant.lost (g.D.Desk.conn c.loop-number.desk) (g.D.Desk.most c.loop-number.desk) c.in-Beaten.field-0 (g.D.Desk.seen c.propose.new.desk)
      c.loop-number.invariant.on.0 c.in-Beaten.ensures.number c.in-Beaten.ensures.proposed;
  on = search rules;
}
