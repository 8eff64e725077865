-- The seat has what it had when it registered, so it may leave.
use Rattle.std.proofs.Common.{◌∙◌, sym, ap, subst}
use Rattle.atomic_table.specs.Table.{Me}
use Rattle.hc_rule.specs.declared.view.View.{View}
use Rattle.hc_pool.specs.Registering.{IsIdleSeat}
use Rattle.hc_pool.proofs.Registered.{may_leave, left_idle}
use Rattle.hc_engine_tests.proofs.workers.visit.Goals as goal

pub leave-requires : goal.leave-requires
leave-requires c = record {
  may_end = may_leave c.args.grip.now.layout c.args.grip.now.conn c.args.grip.now.seat.me.0 c.register.result c.register.new.grip.seat.me.0 c.rounds-wrong.new.grip.seat.me.0 c.register.ensures.registered c.rounds-wrong.ensures.kept.account (c.rounds-wrong.ensures.kept.pages ∙ c.register.ensures.none);
}

pub returns-clause-idle : goal.returns-clause-idle
returns-clause-idle c =
    subst (λ (x : View). IsIdleSeat x) (sym (ap (λ (m : Me Unit View). m.0) c.leave.ensures.left))
    (left_idle c.args.grip.now.layout c.args.grip.now.conn c.rounds-wrong.new.grip.conn c.args.grip.now.seat.me.0 c.register.result c.register.new.grip.seat.me.0 c.rounds-wrong.new.grip.seat.me.0 c.register.ensures.registered c.rounds-wrong.ensures.kept.account)

pub returns-clause-none : goal.returns-clause-none
returns-clause-none c =
    ap (λ (m : Me Unit View). m.0.pages) c.leave.ensures.left ∙ (c.rounds-wrong.ensures.kept.pages ∙ c.register.ensures.none)
