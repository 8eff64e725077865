use Rattle.std.proofs.Common.{refl, sym, subst}
use Rattle.hc_core.specs.Machine.{Machine}
use Rattle.hc_test_desks.specs.Meddled.{IsFree}
use Rattle.hc_test_desks.proofs.Meddling.{free_after}
use Rattle.hc_test_desks.proofs.meddled.make_other.Goals as goal

pub returns-in-Ok-clause-free : goal.returns-in-Ok-clause-free
returns-in-Ok-clause-free c =
    subst (λ (n : Machine). IsFree n c.args.other) (sym c.in-Ok.ensures.after)
    (free_after c.args.desk.now.core.now c.args.other c.args.event.now c.in-Ok.outcome (c.if-not-may_come.ensures refl).0 c.requires.free)
