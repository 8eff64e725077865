use Rattle.std.proofs.Common.{refl}
use Rattle.hc_core.specs.declared.event.Event.TheVariants.{Read}
use Rattle.hc_core.specs.declared.outcome.Outcome.TheVariants.{Cells}
use Rattle.hc_core.proofs.DeskSteps.{account_after, read_in, went_on}
use Rattle.hc_core.proofs.Steps.{when_map}
use Rattle.hc_core.proofs.list_desk.ListDeskDesk.read_part.Goals as goal

-- the cells that are added are those of the entry
pub returns-clause-entry : goal.returns-clause-entry
returns-clause-entry c =
    let desk = c.args.self.now in
    let r = c.in_ok-read_part.ensures.read in (
      r.0,
      account_after desk.core.now _ desk.conn (Read desk.conn c.args.from.now c.args.range.now.hi) (Cells (record { cells = r.0 })) desk.owns.0 r.2,
      r.3,
      read_in desk.core.now desk.conn c.args.from.now c.args.range.now.hi r.0 (when_map _ _ _ (λ t h. h.0) c.requires.reading) r.1,
    )

pub returns-clause-on : goal.returns-clause-on
returns-clause-on c =
    let r = c.in_ok-read_part.ensures.read in
    let g = went_on c.args.self.now.core.now _ c.args.self.now.conn (Read c.args.self.now.conn c.args.from.now c.args.range.now.hi) _ refl r.1 r.2 in
    (refl, refl, g.0, (refl, refl, g.1))
