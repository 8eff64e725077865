-- What is found is noted.
use Rattle.std.proofs.Common.{◌∙◌, ap}
use Rattle.atomic_table.specs.Table.{Me}
use Rattle.hc_rows.specs.Places.{tid_at}
use Rattle.hc_rule.specs.declared.view.View.{View}
use Rattle.hc_rule.specs.Kinds.TidWord.{saw}
use Rattle.hc_rule.proofs.Kept.TidWord.{saw_filled}
use Rattle.hc_tidlog.proofs.ids.is_drawn.Goals as goal

pub returns-in-Empty-clause-looked : goal.returns-in-Empty-clause-looked
returns-in-Empty-clause-looked c = ap (λ (m : Me Unit View). m.0) c.load_tid.ensures.seat ∙ ap (λ f. saw (tid_at c.args.grip.now.layout c.args.t.0) c.args.t.0 f c.args.grip.now.seat.me.0) c.in-Empty.is

pub returns-in_default-clause-looked : goal.returns-in_default-clause-looked
returns-in_default-clause-looked c = (
  c.load_tid.result,
  c.in_default.not-Empty,
  ap (λ (m : Me Unit View). m.0) c.load_tid.ensures.seat ∙ saw_filled (tid_at c.args.grip.now.layout c.args.t.0) c.args.t.0 c.load_tid.result c.args.grip.now.seat.me.0 c.in_default.not-Empty,
)
