use Rattle.std.proofs.Common.{◌∙◌}
use Rattle.std.specs.Str.{chars}
use Rattle.hc_expr.specs.Like.{is_like}
use Rattle.hc_expr.proofs.Likeness.{reached, whole_is_rest}
use Rattle.hc_expr.proofs.like.somewhere.Goals as goal

pub returns-in-Yes : goal.returns-in-Yes
returns-in-Yes c = c.loop-after.invariant.1 ∙ whole_is_rest (is_like (chars c.args.pattern.now)) (chars c.loop-after.rest.now) c.in-Yes.ensures

pub returns-in-Star : goal.returns-in-Star
returns-in-Star c = (
  c.in-Star.ensures.shorter,
  c.loop-after.invariant.1 ∙ reached (chars c.args.pattern.now) (chars c.loop-after.rest.now) (chars c.in-Star.after.now) (chars c.in-Star.others.now) c.in-Star.ensures,
)
