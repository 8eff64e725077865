use Rattle.std.proofs.Common.{◌∙◌, ◌≢◌, arith}
use Rattle.hc_commit.proofs.Proposing.{decidable, proposal_made, proposal_numbered}
use Rattle.hc_commit.proofs.proposal.propose.Goals as goal

pub decide-requires : goal.decide-requires
decide-requires g c =
    let some : c.propose.result.0 ≢ 0 = λ e. absurd (omega (arith, c.propose.ensures.number.0, e)) in
    record {
      checked = decidable (g.D.Desk.conn c.args.desk.now) c.args.log.now c.propose.result.0 c.in-Ok.ensures.checked.0 (g.D.Desk.account c.args.desk.now) (g.D.Desk.account c.propose.new.self)
          (g.D.Desk.account c.check_all.new.desk) (g.D.Desk.account c.check_all.new.desk) c.propose.ensures.entry c.requires.put (g.D.Desk.conn c.propose.new.self) c.propose.ensures.on.0
          c.in-Ok.ensures.checked.1 c.in-Ok.ensures.checked.2 some;
    }

pub returns-in-Ok-clause-proposed : goal.returns-in-Ok-clause-proposed
returns-in-Ok-clause-proposed g c =
    proposal_made (g.D.Desk.conn c.args.desk.now) c.args.log.now c.propose.result.0 c.in-Ok.ensures.checked.0 (g.D.Desk.account c.args.desk.now) (g.D.Desk.account c.propose.new.self)
    (g.D.Desk.account c.check_all.new.desk) (g.D.Desk.account c.decide.new.desk) c.propose.ensures.entry c.requires.put (g.D.Desk.conn c.propose.new.self) c.propose.ensures.on.0
    c.in-Ok.ensures.checked.1 c.in-Ok.ensures.checked.2 (g.D.Desk.conn c.check_all.new.desk) c.decide.result (c.in-Ok.ensures.on.0 ∙ c.propose.ensures.on.0) c.decide.ensures.decided

pub returns-in-Ok-clause-number : goal.returns-in-Ok-clause-number
returns-in-Ok-clause-number g c =
    proposal_numbered (g.D.Desk.conn c.args.desk.now) c.args.log.now c.propose.result.0 c.in-Ok.ensures.checked.0 (g.D.Desk.account c.args.desk.now) (g.D.Desk.account c.propose.new.self)
    (g.D.Desk.account c.check_all.new.desk) (g.D.Desk.account c.decide.new.desk) c.propose.ensures.entry c.requires.put (g.D.Desk.conn c.propose.new.self) c.propose.ensures.on.0
    c.in-Ok.ensures.checked.1 c.in-Ok.ensures.checked.2 (g.D.Desk.conn c.check_all.new.desk) c.decide.result (g.D.Desk.seen c.args.desk.now) (g.D.Desk.most c.args.desk.now) (g.D.Desk.seen c.decide.new.desk)
    c.decide.ensures.decided c.propose.ensures.number.0 c.propose.ensures.number.1 c.decide.ensures.seen
