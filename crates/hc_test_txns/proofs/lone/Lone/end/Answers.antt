-- The seat leaves.
use Rattle.std.proofs.Common.{ap}
use Rattle.atomic_table.specs.Table.{Me}
use Rattle.hc_rule.specs.declared.view.View.{View}
use Rattle.hc_test_txns.proofs.Staged.{may_leave, left}
use Rattle.hc_test_txns.proofs.lone.Lone.end.Goals as goal

pub leave-requires : goal.leave-requires
leave-requires c = record { may_end = may_leave c.args.self.now.ord c.args.self.now.grip.seat.me.0 c.requires.may }

pub returns-clause-may : goal.returns-clause-may
returns-clause-may c = left c.args.self.now.ord c.args.self.now.grip.conn c.args.self.now.grip.seat.me.0 c.leave.new.grip.seat.me.0 c.requires.may (ap (λ (m : Me Unit View). m.0) c.leave.ensures.left)
