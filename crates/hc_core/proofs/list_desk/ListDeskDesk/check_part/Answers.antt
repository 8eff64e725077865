use Rattle.std.proofs.Common.{inl, refl}
use Rattle.hc_core.specs.declared.event.Event.TheVariants.{Check}
use Rattle.hc_core.specs.declared.outcome.Outcome.TheVariants.{Met}
use Rattle.hc_core.proofs.DeskSteps.{account_after, check_names, weighed, went_on}
use Rattle.hc_core.proofs.list_desk.ListDeskDesk.check_part.Goals as goal

-- room was made for the writes of who proposes
pub check_unkept-requires : goal.check_unkept-requires
check_unkept-requires c = record { proposing = weighed c.args.self.now.core.now c.args.self.now.conn c.see_sound.ensures c.args.self.now.owns.1 c.requires.proposing }

-- another connection is met, with a key of the part
pub returns-in-Err-clause-met : goal.returns-in-Err-clause-met
returns-in-Err-clause-met c =
    let desk = c.args.self.now in
    let names = check_names desk.core.now desk.conn c.args.from.now c.args.range.now.hi c.in-Err.met c.see_sound.ensures c.requires.proposing c.in-Err.ensures.answer in (
      c.args.range.now.hi,
      account_after desk.core.now _ desk.conn (Check desk.conn c.args.from.now c.args.range.now.hi) (Met c.in-Err.met) desk.owns.0 c.in-Err.ensures.after,
      inl refl,
      names.0,
      names.1,
    )

pub returns-in-Ok-clause-on : goal.returns-in-Ok-clause-on
returns-in-Ok-clause-on c =
    let g = went_on c.args.self.now.core.now _ c.args.self.now.conn (Check c.args.self.now.conn c.args.from.now c.args.range.now.hi) _ refl c.in-Ok.ensures.answer c.in-Ok.ensures.after in
    (refl, refl, g.0, (refl, refl, g.1))

pub returns-in-Err-clause-on : goal.returns-in-Err-clause-on
returns-in-Err-clause-on c =
    let g = went_on c.args.self.now.core.now _ c.args.self.now.conn (Check c.args.self.now.conn c.args.from.now c.args.range.now.hi) _ refl c.in-Err.ensures.answer c.in-Err.ensures.after in
    (refl, refl, g.0, (refl, refl, g.1))
