use Rattle.std.proofs.Common.{refl}
use Rattle.hc_core.proofs.DeskSteps.{last_on}
use Rattle.hc_core.proofs.list_desk.ListDeskDesk.last.Goals as goal

pub returns-clause-on : goal.returns-clause-on
returns-clause-on c =
    let g = last_on c.args.self.now.conn c.args.range.now c.in_ok-some.some c.args.self.now.core.now _ _ _ c.in_ok-some.ensures.last in
    (refl, refl, g.0, (refl, refl, g.1))
