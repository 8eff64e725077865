-- What has drawn an id proposes.
use Rattle.hc_test_txns.proofs.Staged.{may_propose, proposed, next}
use Rattle.hc_test_txns.proofs.lone.Lone.propose.Goals as goal

pub propose-requires : goal.propose-requires
propose-requires c = record { may = may_propose c.args.t.0 c.args.self.now.ord 0 c.args.self.now.grip.seat.me.0 c.requires.drawn }

pub returns-clause-proposed : goal.returns-clause-proposed
returns-clause-proposed c = (
  c.propose.ensures.place,
  proposed c.args.self.now.grip.layout c.args.self.now.grip.conn c.args.t.0 c.args.self.now.ord c.args.self.now.grip.seat.me.0 c.propose.result c.propose.new.grip.seat.me.0 c.requires.drawn c.propose.ensures.proposed,
)

pub returns-clause-next : goal.returns-clause-next
returns-clause-next c = next c.args.self.now.grip.layout c.args.self.now.grip.conn c.args.self.now.grip.seat.me.0 c.propose.result c.propose.new.grip.seat.me.0 c.propose.ensures.proposed
