-- The front of the pattern so far is met by the front of the text.
use Rattle.std.proofs.Common.{length}
use denote.Text.{Utf8}
use denote.Shadow.{shadow}
use Rattle.std.specs.Str.{chars}
use Rattle.hc_expr.specs.Like.{Meets}
use Rattle.hc_expr.proofs.like.at_front.Given as goal

abbrev pub invariant-loop-p : goal.invariant-loop-p
invariant-loop-p l = shadow (Utf8 l.after) × shadow (Utf8 l.rest) × Meets (chars l.fn.pattern) (chars l.fn.text) (chars l.after) (chars l.rest)

abbrev pub decreases-loop-p : goal.decreases-loop-p
decreases-loop-p l = length (chars l.after)
