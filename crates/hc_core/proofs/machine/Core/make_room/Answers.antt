use Rattle.std.proofs.Common.{◌∙◌, ◌∷◌, ap}
use Rattle.hc_core.specs.Kept.{machine_of}
use Rattle.hc_core.specs.declared.account.Entry.TheVariants.{Reserved}
use Rattle.hc_core.proofs.Steps.{account_is, held_open, open_in_range, there_open, when_map}
use Rattle.hc_core.proofs.Upheld.{kept_room}
use Rattle.hc_core.proofs.machine.Core.make_room.Goals as goal

pub make_room-requires-clause-open : goal.make_room-requires-clause-open
make_room-requires-clause-open c = there_open _ _ c.args.conn _ _ _ _ c.self.view_is c.index_mut.ensures.value c.requires.open (λ t h. (h.0, h.2))

-- the note is entered
pub invariant_of-self : goal.invariant_of-self
invariant_of-self c =
    let m = machine_of c.self.inside.drawn c.self.inside.log.items c.self.inside.conns.items in
    let drawn = held_open m _ c.args.conn _ c.self.view_is c.requires.open in
    let within = open_in_range m c.args.conn _ drawn in (
      kept_room _ _ _ _ c.args.conn _ c.args.writes.items c.self.invariant.0
          (c.make_room.ensures ∙ ap (λ a. Reserved c.args.conn c.args.writes.items ∷ a) (account_is _ _ _ _ c.index_mut.ensures.value within))
          (when_map _ _ _ (λ t h. (h.0, h.1)) drawn),
      c.self.invariant.1,
    )
