use Rattle.std.proofs.Common.{refl, arith}
use Rattle.hc_core.specs.Account.{after_draw}
use Rattle.hc_core.specs.declared.outcome.Outcome.TheVariants.{Drew}
use Rattle.hc_core.proofs.Conns.{open_of, when_changed, greatest_drawn}
use Rattle.hc_core.proofs.conn.Conn.draw.Goals as goal

-- the id and the ordinal are those of the account
pub invariant_of-self : goal.invariant_of-self
invariant_of-self c =
    let open_now = open_of _ _ _ c.in-Some.is c.self.invariant.0 in
    let change = after_draw c.args.ord (Drew (record { 0 = c.args.tid })) in
    rw (c.note.ensures) (
      when_changed change _ _ _ open_now (λ t e h. (
        e,
        record {
          id = refl;
          unweighed = λ undrawn. absurd (omega (arith, undrawn, c.requires.drawn));
          ord = refl;
          snapshot = h.snapshot;
          proposed = h.proposed;
          place = h.place;
          reads = h.reads;
          checked = h.checked;
          writes = h.writes;
          reserved = h.reserved;
          short = h.short;
        },
      )),
      greatest_drawn _ change _ _ open_now (λ t. refl) (rw c.self.view_is c.requires.above),
    )
