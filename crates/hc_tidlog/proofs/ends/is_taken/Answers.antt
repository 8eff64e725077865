-- What was found is noted.
use Rattle.std.proofs.Common.{ap}
use Rattle.atomic_table.specs.Table.{Me}
use Rattle.hc_rule.specs.declared.view.View.{View}
use Rattle.hc_tidlog.proofs.Looks.{looked_up, looked_empty}
use Rattle.hc_tidlog.proofs.ends.is_taken.Goals as goal

pub returns-in-Some-clause-looked : goal.returns-in-Some-clause-looked
returns-in-Some-clause-looked c = looked_up c.args.grip.now.layout c.args.grip.now.seat.me.0 c.load_log.new.self.seat.me.0 c.args.c.0 c.in-Some.field-0.0 (ap (λ (m : Me Unit View). m.0) c.in-Some.ensures.taken.2)

pub returns-in-None-clause-looked : goal.returns-in-None-clause-looked
returns-in-None-clause-looked c = looked_empty c.args.grip.now.layout c.args.grip.now.seat.me.0 c.load_log.new.self.seat.me.0 c.args.c.0 (ap (λ (m : Me Unit View). m.0) c.in-None.ensures.empty.1) c.in-None.ensures.empty.0
