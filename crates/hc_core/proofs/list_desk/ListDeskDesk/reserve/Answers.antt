use Rattle.std.proofs.Common.{refl}
use Rattle.hc_base.proofs.Entries.{short_key}
use Rattle.hc_core.proofs.DeskSteps.{room_on}
use Rattle.hc_core.proofs.list_desk.ListDeskDesk.reserve.Goals as goal

-- what fits has a short key
pub reserve-requires-clause-short : goal.reserve-requires-clause-short
reserve-requires-clause-short c = λ w there. short_key _ _ (c.requires.fit w there)

pub returns-in-Ok-clause-on : goal.returns-in-Ok-clause-on
returns-in-Ok-clause-on c =
    let g = room_on c.args.self.now.conn c.args.ord c.args.writes.now c.args.self.now.core.now _ c.in-Ok.ensures.reserved in
    (refl, refl, g.0, (refl, refl, g.1))
