-- An idle seat registers.
use Rattle.hc_test_txns.proofs.Staged.{idle_seat, started}
use Rattle.hc_test_txns.proofs.lone.Lone.start.Goals as goal

pub register-requires : goal.register-requires
register-requires c = record { idle = idle_seat c.args.self.now.ord c.args.self.now.grip.seat.me.0 c.requires.may }

pub returns-clause-started : goal.returns-clause-started
returns-clause-started c = started c.args.self.now.grip.layout c.args.self.now.grip.conn c.args.self.now.ord c.args.self.now.grip.seat.me.0 c.register.result c.register.new.grip.seat.me.0 c.requires.may c.register.ensures.registered c.register.ensures.none
