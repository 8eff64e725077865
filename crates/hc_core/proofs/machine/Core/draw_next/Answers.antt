use Rattle.hc_core.proofs.MadeRoom.{has_drawn}
use Rattle.hc_core.proofs.Steps.{draw_may}
use Rattle.hc_core.proofs.machine.Core.draw_next.Goals as goal

pub returns-clause-drawn : goal.returns-clause-drawn
returns-clause-drawn c = has_drawn c.args.self.now c.draw.new.self c.args.conn c.args.ord c.in_ok-draw.field-0 c.see_sound.ensures
    (draw_may c.args.self.now c.args.conn c.args.ord c.requires.reading c.requires.above c.requires.left) c.see_unweighed.ensures c.in_ok-draw.ensures.answer c.in_ok-draw.ensures.after
