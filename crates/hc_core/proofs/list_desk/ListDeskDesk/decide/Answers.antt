use Rattle.std.proofs.Common.{refl, arith}
use Rattle.hc_core.specs.declared.event.Event.TheVariants.{Decide}
use Rattle.hc_core.proofs.DeskSteps.{decide_lost, err_map, went_on}
use Rattle.hc_core.proofs.list_desk.ListDeskDesk.decide.Goals as goal

-- the number that is lost was proposed, and is in the log
pub returns-clause-lost : goal.returns-clause-lost
returns-clause-lost c =
    let g = went_on c.args.self.now.core.now _ c.args.self.now.conn (Decide c.args.self.now.conn) _ refl c.settle.ensures.answer c.settle.ensures.after in
    err_map c.settle.result _ _ (decide_lost c.args.self.now.core.now c.args.self.now.conn c.settle.result c.see_sound.ensures c.requires.checked c.settle.ensures.answer)
    (λ lost h. (h.0, omega (arith, h.1, g.0)))

pub returns-clause-on : goal.returns-clause-on
returns-clause-on c =
    let g = went_on c.args.self.now.core.now _ c.args.self.now.conn (Decide c.args.self.now.conn) _ refl c.settle.ensures.answer c.settle.ensures.after in
    (refl, refl, g.0, (refl, refl, g.1))
