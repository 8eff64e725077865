use Rattle.std.proofs.Common.{refl}
use Rattle.hc_core.specs.declared.event.Event.TheVariants.{Begin}
use Rattle.hc_core.proofs.DeskSteps.{went_on}
use Rattle.hc_core.proofs.list_desk.ListDeskDesk.begin.Goals as goal

pub returns-clause-on : goal.returns-clause-on
returns-clause-on c =
    let g = went_on c.args.self.now.core.now _ c.args.self.now.conn (Begin c.args.self.now.conn) _ refl c.begin.ensures.answer c.begin.ensures.after in
    (refl, refl, g.0, (refl, refl, g.1))
