-- One look after another, up to the one that finds the end.
use Rattle.std.proofs.Common.{◌+◌, ◌∙◌, refl, ap, subst, arith}
use Rattle.atomic_table.specs.Table.{Me}
use Rattle.hc_rows.specs.declared.layout.Layout.{Layout}
use Rattle.hc_rows.specs.Places.{log_at}
use Rattle.hc_rule.specs.declared.view.View.{View}
use Rattle.hc_rule.specs.Kinds.LoadPage.{with_found}
use Rattle.hc_rule.specs.Kinds.LoadLog.{Begins, at_end}
use Rattle.hc_tidlog.specs.Looking.{Looked}
use Rattle.hc_tidlog.proofs.Looks.{looked_none, looked_both, looked_empty, empty_before, same_after}
use Rattle.hc_tidlog.proofs.ends.begin.Goals as goal

pub returns-in-Some-clause-begun : goal.returns-in-Some-clause-begun
returns-in-Some-clause-begun c =
    let end = c.in-Some.ensures.begun in
    let y = c.args.grip.now.layout in
    let layout = c.looks.invariant.same.0.0 ∙ c.find_end.ensures.same.0.0 in
    let v = c.looks.grip.seat.me.0 in
    let looked = subst (λ x. Looked x c.find_end.new.grip.seat.me.0 c.looks.grip.seat.me.0) c.find_end.ensures.same.0.0 c.looks.invariant.looked in (
      with_found (log_at y (v.seen.0 + 1)) 0 v,
      empty_before y (v.seen.0 + 1) c.args.grip.now.seat.me.0 v (with_found (log_at y (v.seen.0 + 1)) 0 v)
          (looked_both y c.args.grip.now.seat.me.0 c.find_end.new.grip.seat.me.0 v c.find_end.ensures.end.0 looked)
          (looked_empty y v (with_found (log_at y (v.seen.0 + 1)) 0 v) (v.seen.0 + 1) refl (omega arith)).0,
      end.0,
      ap (λ (m : Me Unit View). m.0) end.1
          ∙ (ap (λ n. at_end Begins n (with_found (log_at c.looks.grip.layout (c.looks.grip.seat.me.0.seen.0 + 1)) 0 c.looks.grip.seat.me.0)) (c.looks.invariant.same.0.1 ∙ c.find_end.ensures.same.0.1)
          ∙ ap (λ (x : Layout). at_end Begins c.args.grip.now.conn (with_found (log_at x (c.looks.grip.seat.me.0.seen.0 + 1)) 0 c.looks.grip.seat.me.0)) layout),
    )

pub looks-init : goal.looks-init
looks-init c = record { looked = looked_none c.find_end.new.grip.layout c.find_end.new.grip.seat.me.0; same = ((refl, refl, refl), refl) }

pub looks-preserved : goal.looks-preserved
looks-preserved c = record {
  looked =
      looked_both c.find_end.new.grip.layout c.find_end.new.grip.seat.me.0 c.looks.grip.seat.me.0 c.try_begin.new.grip.seat.me.0 c.looks.invariant.looked
      (subst (λ x. Looked x c.looks.grip.seat.me.0 c.try_begin.new.grip.seat.me.0) c.looks.invariant.same.0.0 c.in_default.ensures.looked.0);
  same = same_after c.find_end.new.grip c.looks.grip c.try_begin.new.grip c.looks.invariant.same c.try_begin.ensures.same;
}
