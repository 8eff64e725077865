use Rattle.std.proofs.Common.{refl}
use Rattle.std.specs.Option.{option_copied}
use Rattle.hc_core.specs.declared.event.Event.TheVariants.{Put}
use Rattle.hc_core.proofs.DeskSteps.{put_met, went_on}
use Rattle.hc_core.proofs.Steps.{when_map}
use Rattle.hc_core.proofs.list_desk.ListDeskDesk.put.Goals as goal

-- another connection is met
pub returns-clause-met : goal.returns-clause-met
returns-clause-met c = put_met c.args.self.now.core.now c.args.self.now.conn c.args.key.now (option_copied c.args.rec) c.put_reserved.result c.see_sound.ensures
    (when_map _ _ _ (λ t h. (h.0, h.2, h.3, h.5)) c.requires.reserved) c.put_reserved.ensures.answer

pub returns-clause-on : goal.returns-clause-on
returns-clause-on c =
    let g = went_on c.args.self.now.core.now _ c.args.self.now.conn (Put c.args.self.now.conn c.args.key.now (option_copied c.args.rec)) _ refl c.put_reserved.ensures.answer c.put_reserved.ensures.after in
    (refl, refl, g.0, (refl, refl, g.1))
