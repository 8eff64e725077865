-- A seat that is registered may leave, and is idle then.
use Rattle.std.proofs.Common.{refl, sym, ap, subst}
use Rattle.atomic_table.specs.Table.{Me}
use Rattle.hc_rule.specs.declared.view.View.{View}
use Rattle.hc_pool.specs.Registering.{IsIdleSeat}
use Rattle.hc_pool.proofs.Registered.{may_leave, left_idle}
use Rattle.hc_engine_tests.proofs.seats.visit.Goals as goal

pub leave-requires : goal.leave-requires
leave-requires c = record { may_end = may_leave c.args.grip.now.layout c.args.grip.now.conn c.args.grip.now.seat.me.0 c.register-snapshot.result c.register-snapshot.new.grip.seat.me.0 c.register-snapshot.new.grip.seat.me.0 c.register-snapshot.ensures.registered refl c.register-snapshot.ensures.none }

pub returns-clause-idle : goal.returns-clause-idle
returns-clause-idle c =
    subst (λ (x : View). IsIdleSeat x) (sym (ap (λ (m : Me Unit View). m.0) c.leave.ensures.left))
    (left_idle c.args.grip.now.layout c.args.grip.now.conn c.register-snapshot.new.grip.conn c.args.grip.now.seat.me.0 c.register-snapshot.result c.register-snapshot.new.grip.seat.me.0 c.register-snapshot.new.grip.seat.me.0 c.register-snapshot.ensures.registered refl)
