use Rattle.hc_test_desks.proofs.Meddling.{meddled_still}
use Rattle.hc_test_desks.proofs.meddled.MeddledDeskDesk.last.Goals as goal

pub invariant_of-self : goal.invariant_of-self
invariant_of-self c = record { meddled = meddled_still _ _ _ _ _ _ _ c.last.ensures.on.3 c.meddle.new.self.meddled }
