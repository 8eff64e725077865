-- The id after the last one that was found drawn is drawn, or found drawn.
use Rattle.std.proofs.Common.{◌∙◌, refl, sym, ap, subst, ◌+◌, arith}
use Rattle.atomic_table.specs.Table.{Me}
use Rattle.hc_rows.specs.declared.layout.Layout.{Layout}
use Rattle.hc_rule.specs.declared.view.View.{View}
use Rattle.hc_rule.specs.Kinds.TidWord.{drew}
use Rattle.hc_tidlog.specs.Seeking.{Reached}
use Rattle.hc_tidlog.proofs.Looks.{same_after}
use Rattle.hc_tidlog.proofs.Seeks.{reached_none, reached_both, may_draw, lost_draw, found_last}
use Rattle.hc_tidlog.proofs.ids.draw_id.Goals as goal

pub draw-requires-clause-may : goal.draw-requires-clause-may
draw-requires-clause-may c =
    let y = c.args.grip.now.layout in
    may_draw y c.ids.grip.conn c.ids.low c.args.ord c.args.grip.now.seat.me.0 c.ids.grip.seat.me.0 c.requires.may
    (reached_both y 0 c.last_drawn-low.result c.ids.low c.args.grip.now.seat.me.0 c.last_drawn-low.new.grip.seat.me.0 c.ids.grip.seat.me.0 c.last_drawn-low.ensures.reached
    (subst (λ x. Reached x c.last_drawn-low.result c.ids.low c.last_drawn-low.new.grip.seat.me.0 c.ids.grip.seat.me.0) c.last_drawn-low.ensures.same.0.0 c.ids.invariant.reached))

pub returns-then-draw-clause-drew : goal.returns-then-draw-clause-drew
returns-then-draw-clause-drew c =
    let y = c.args.grip.now.layout in (
      (omega arith, omega (arith, c.ids-test.true)),
      (
        c.ids.low,
        c.ids.grip.seat.me.0,
        refl,
        reached_both y 0 c.last_drawn-low.result c.ids.low c.args.grip.now.seat.me.0 c.last_drawn-low.new.grip.seat.me.0 c.ids.grip.seat.me.0 c.last_drawn-low.ensures.reached
            (subst (λ x. Reached x c.last_drawn-low.result c.ids.low c.last_drawn-low.new.grip.seat.me.0 c.ids.grip.seat.me.0) c.last_drawn-low.ensures.same.0.0 c.ids.invariant.reached),
        ap (λ (m : Me Unit View). m.0) c.if-draw.ensures.drew ∙ ap (λ n. drew (record { conn = n; id = c.ids.low + 1; ord = c.args.ord }) c.ids.grip.seat.me.0) (c.ids.invariant.same.0.1 ∙ c.last_drawn-low.ensures.same.0.1),
      ),
    )

pub ids-init : goal.ids-init
ids-init c = record {
  reached = reached_none c.last_drawn-low.new.grip.layout c.last_drawn-low.result c.last_drawn-low.new.grip.seat.me.0;
  within = c.last_drawn-low.ensures.last;
  last = sym (ap (λ (x : Layout). x.transactions) c.last_drawn-low.ensures.same.0.0);
  same = ((refl, refl, refl), refl);
}

pub ids-preserved : goal.ids-preserved
ids-preserved c = record {
  reached = reached_both c.last_drawn-low.new.grip.layout c.last_drawn-low.result c.ids.low (c.ids.low + 1) c.last_drawn-low.new.grip.seat.me.0 c.ids.grip.seat.me.0 c.draw.new.self.seat.me.0 c.ids.invariant.reached (lost_draw c.last_drawn-low.new.grip.layout c.ids.grip.conn c.ids.low c.args.ord c.ids.grip.seat.me.0 c.draw.new.self.seat.me c.if-draw.ensures.drew);
  within = omega (arith, c.ids-test.true);
  last = c.ids.invariant.last;
  same = same_after c.last_drawn-low.new.grip c.ids.grip c.draw.new.self c.ids.invariant.same c.draw.ensures.same;
}

pub returns-clause-cause : goal.returns-clause-cause
returns-clause-cause c =
    let y = c.args.grip.now.layout in
    found_last y c.args.grip.now.layout.transactions c.ids.low c.args.grip.now.seat.me.0 c.ids.grip.seat.me.0 c.args.grip.now.ranged.transactions.0 (omega (arith, c.ids-test.false, c.ids.invariant.within))
    (reached_both y 0 c.last_drawn-low.result c.ids.low c.args.grip.now.seat.me.0 c.last_drawn-low.new.grip.seat.me.0 c.ids.grip.seat.me.0 c.last_drawn-low.ensures.reached
    (subst (λ x. Reached x c.last_drawn-low.result c.ids.low c.last_drawn-low.new.grip.seat.me.0 c.ids.grip.seat.me.0) c.last_drawn-low.ensures.same.0.0 c.ids.invariant.reached))
