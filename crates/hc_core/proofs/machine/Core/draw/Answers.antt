use Rattle.std.proofs.Common.{◌≡◌, ◌∙◌, ◌+◌, refl, sym, ap, subst, inl, inr, arith, ◌∷◌}
use Rattle.hc_core.specs.Account.{newest_changed, txns, after_draw}
use Rattle.hc_core.specs.Kept.{machine_of}
use Rattle.hc_core.specs.Machine.{Machine, Answers, IsEnabled, account_of, txns_of}
use Rattle.hc_core.specs.Running.{Matches, greatest_ord}
use Rattle.hc_core.specs.declared.event.Event.TheVariants.{Draw}
use Rattle.hc_core.specs.declared.outcome.Outcome.TheVariants.{Drew}
use Rattle.hc_core.proofs.Counted.{log_within}
use Rattle.hc_core.proofs.Ordered.{newest_sound}
use Rattle.hc_core.proofs.Entered.{opened}
use Rattle.hc_core.proofs.Steps.{entry_is, found_open, log_length, open_in_range, ord_below, account_is, draw_enabled, settles_drawn}
use Rattle.hc_core.proofs.Upheld.{commits_changed, short_changed, kept_entered}
use Rattle.hc_core.proofs.machine.Core.draw.Goals as goal

-- the ordinal is not above each
pub returns-then-ord-last_ord-clause-answer : goal.returns-then-ord-last_ord-clause-answer
returns-then-ord-last_ord-clause-answer c =
    let open_now = found_open _ _ c.args.conn c.in-Some.running.now (λ t. t.id ≡ 0) c.self.view_is c.in-Some.ensures (λ t h. sym h.id ∙ c.if-running-ne0.false) in
    let within = open_in_range (machine_of c.self.inside.drawn c.self.inside.log.items c.self.inside.conns.items) c.args.conn _ open_now in
    let here = account_is _ _ _ _ c.index.ensures within in
    let most : c.last_ord.result ≡ greatest_ord (txns (account_of (machine_of c.self.inside.drawn c.self.inside.log.items c.self.inside.conns.items) c.args.conn)) =
    c.last_ord.ensures ∙ ap (λ a. greatest_ord (txns a)) here in
    inr (
      subst (λ (m : Machine). IsEnabled m (Draw c.args.conn c.args.ord) → ⊥) c.self.view_is
          (λ enabled. let o = opened _ _ enabled in
          omega (arith, c.if-ord-last_ord.true, most, ord_below _ c.args.ord (o.holds).1 (o.holds).2)),
      refl,
    )

-- the log is no longer than the ids drawn
pub overflow_sub-more : goal.overflow_sub-more
overflow_sub-more c = omega (arith, c.len.ensures, log_length c.self.inside.log, log_within _ c.self.invariant.0.sound)

-- the id is new, and there is room for one more entry
pub invariant_of-self-2 : goal.invariant_of-self-2
invariant_of-self-2 c =
    let m = machine_of c.self.inside.drawn c.self.inside.log.items c.self.inside.conns.items in
    let found = found_open m _ c.args.conn c.in-Some.running.now (Matches c.in-Some.running.now) c.self.view_is c.in-Some.ensures (λ t h. h) in
    let within = open_in_range m c.args.conn _ found in
    let o = opened (txns_of m c.args.conn) (Matches c.in-Some.running.now) found in
    let none : o.t.id ≡ 0 = sym (o.holds).id ∙ c.if-running-ne0.false in
    let undecided = ((newest_sound c.self.invariant.0.sound.sound c.args.conn o.t o.rest o.is).numbers.undrawn none).0 in
    let settles = settles_drawn o.t (c.self.inside.drawn + 1) c.args.ord undecided in
    let enabled = draw_enabled m c.args.conn c.args.ord c.last_ord.result c.in-Some.running.now _ _ found c.if-running-ne0.false
    c.index.ensures c.last_ord.ensures c.if-ord-last_ord.false c.self.invariant.0.bounded c.if-self.false in
    rw c.in_ok-reserve.ensures.items (
      kept_entered _ _ _ _ _ _ _ _
          (entry_is _ _ _ _ _ _ _ _ c.draw.ensures.account c.index_mut.ensures.value within refl) refl
          _ _ (c.self.inside.drawn + 1) c.self.inside.log.items (record o.t { id = c.self.inside.drawn + 1; ord = c.args.ord } ∷ o.rest) c.self.invariant.0
          (inl (enabled, refl)) within refl
          (ap (newest_changed (after_draw c.args.ord (Drew (record { 0 = c.self.inside.drawn + 1 })))) o.is)
          (commits_changed (txns_of m) c.args.conn o.t _ o.rest 1 c.self.inside.log.items o.is settles (omega arith) c.self.invariant.0.logged)
          (short_changed _ _ _ _ _ _ _ _ (entry_is _ _ _ _ _ _ _ _ c.draw.ensures.account c.index_mut.ensures.value within refl) refl
          _ o.t _ o.rest c.self.invariant.0 o.is settles)
          (omega (arith, c.self.invariant.0.bounded, c.if-self.false))
          (omega (arith, c.in_ok-reserve.ensures.ok, c.in_ok-reserve.ensures.len, c.len.ensures, log_length c.self.inside.log, log_within _ c.self.invariant.0.sound)),
      c.self.invariant.1,
    )

pub returns-clause-answer : goal.returns-clause-answer
returns-clause-answer c =
    let m = machine_of c.self.inside.drawn c.self.inside.log.items c.self.inside.conns.items in
    let found = found_open m _ c.args.conn c.in-Some.running.now (Matches c.in-Some.running.now) c.self.view_is c.in-Some.ensures (λ t h. h) in
    subst (λ (n : Machine). Answers n (Draw c.args.conn c.args.ord) c.draw.result) c.self.view_is
    (inl (
      draw_enabled m c.args.conn c.args.ord c.last_ord.result c.in-Some.running.now _ _ found c.if-running-ne0.false
          c.index.ensures c.last_ord.ensures c.if-ord-last_ord.false c.self.invariant.0.bounded c.if-self.false,
      c.draw.ensures.outcome,
    ))
