use Rattle.std.proofs.Common.{rules, sym}
use Rattle.std.specs.Str.{chars}
use Rattle.hc_expr.proofs.Likeness.{goes_on}
use Rattle.hc_expr.proofs.like.at_front.Goals as goal

pub loop-p-preserved : goal.loop-p-preserved
loop-p-preserved c = (
  search rules,
  search rules,
  goes_on (chars c.args.pattern.now) (chars c.args.text.now) (chars c.loop-p.after.now) (chars c.loop-p.rest.now) (chars c.in-Some.next.now) (chars c.in-Some-first.others.now)
      c.in-Some.p c.in-Some-first.c c.in-Some.ensures c.in-Some-first.ensures c.loop-p.invariant.2 c.if-p-eq37.false (sym c.if-passes.ensures),
)
