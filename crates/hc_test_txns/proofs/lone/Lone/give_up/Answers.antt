-- What has drawn no id may end.
use Rattle.std.proofs.Common.{ap}
use Rattle.atomic_table.specs.Table.{Me}
use Rattle.hc_rule.specs.declared.view.View.{View}
use Rattle.hc_test_txns.proofs.Staged.{may_give_up, gave_up}
use Rattle.hc_test_txns.proofs.lone.Lone.give_up.Goals as goal

pub leave-requires : goal.leave-requires
leave-requires c = record { may_end = may_give_up c.args.self.now.ord c.args.self.now.grip.seat.me.0 c.requires.started }

pub returns-clause-may : goal.returns-clause-may
returns-clause-may c = gave_up c.args.self.now.ord c.args.self.now.grip.conn c.args.self.now.grip.seat.me.0 c.leave.new.grip.seat.me.0 c.requires.some c.requires.started (ap (λ (m : Me Unit View). m.0) c.leave.ensures.left)
