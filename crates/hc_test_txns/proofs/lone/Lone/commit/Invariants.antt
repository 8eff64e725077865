-- The id is drawn and proposes nothing.
use Rattle.std.proofs.Common.{◌-◌}
use Rattle.hc_test_txns.specs.Stages.{IsDrawn, IsSameLone}
use Rattle.hc_test_txns.proofs.lone.Lone.commit.Given as goal

abbrev pub invariant-proposals : goal.invariant-proposals
invariant-proposals l = record {
  drawn : IsDrawn l.t.0 l.self.ord 0 0 l.self.grip.seat.me.0;
  same : IsSameLone l.initial.self l.self;
}

abbrev pub decreases-proposals : goal.decreases-proposals
decreases-proposals l = l.self.grip.layout.transactions - l.self.grip.seat.me.0.seen.0
