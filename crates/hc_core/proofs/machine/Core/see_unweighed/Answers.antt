use Rattle.hc_core.proofs.Conns.{when_both}
use Rattle.hc_core.proofs.machine.Core.see_unweighed.Goals as goal

pub returns : goal.returns
returns c = when_both _ _ _ _ c.requires.reading c.opened-running.ensures (λ t none h. (none, h.unweighed none))
