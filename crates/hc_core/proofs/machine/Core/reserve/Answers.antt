use Rattle.std.proofs.Common.{◌≡◌, ◌≢◌, ◌∙◌, None, ap, subst, arith, List}
use Rattle.hc_core.specs.Account.{WhenOpen}
use Rattle.hc_core.specs.Machine.{Machine, txns_of, with_entry}
use Rattle.hc_core.specs.declared.account.Entry.TheVariants.{Reserved}
use Rattle.hc_core.specs.declared.cells.Write.{Write}
use Rattle.hc_core.proofs.Steps.{when_map}
use Rattle.hc_core.proofs.machine.Core.reserve.Goals as goal

-- an id is left
pub draw_next-requires-clause-left : goal.draw_next-requires-clause-left
draw_next-requires-clause-left c = omega (arith, ap (λ (m : Machine). m.drawn) c.self.view_is, c.self.invariant.0.bounded, c.if-self.false)

pub make_room-requires-clause-open : goal.make_room-requires-clause-open
make_room-requires-clause-open c = c.in_ok-draw_next.ensures.drawn.open_now

-- it is drawn, and then the writes are noted
pub returns-clause-reserved : goal.returns-clause-reserved
returns-clause-reserved c = (
  c.in_ok-draw_next.ensures.drawn.answers,
  subst (λ (m : Machine). WhenOpen (txns_of m c.args.conn) (λ t. (t.id ≢ 0) × (t.weight ≡ None))) c.in_ok-draw_next.ensures.drawn.after
      (when_map _ _ _ (λ t h. (h.0, h.1)) c.in_ok-draw_next.ensures.drawn.open_now),
  c.make_room.ensures ∙ ap (λ (ws : List Write). with_entry c.draw_next.new.self c.args.conn (Reserved c.args.conn ws)) c.in_ok-copies.ensures
      ∙ ap (λ (m : Machine). with_entry m c.args.conn (Reserved c.args.conn c.args.writes.now)) c.in_ok-draw_next.ensures.drawn.after,
)
