use Rattle.std.proofs.Common.{refl}
use Rattle.hc_core.specs.declared.event.Event.TheVariants.{Unput}
use Rattle.hc_core.proofs.DeskSteps.{went_on}
use Rattle.hc_core.proofs.list_desk.ListDeskDesk.unput.Goals as goal

pub returns-clause-on : goal.returns-clause-on
returns-clause-on c =
    let g = went_on c.args.self.now.core.now _ c.args.self.now.conn (Unput c.args.self.now.conn c.args.key.now) _ refl c.unput.ensures.answer c.unput.ensures.after in
    (refl, refl, g.0, (refl, refl, g.1))
