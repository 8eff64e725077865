-- What is left of the pattern is like some rest of what is left of the text exactly where the whole is.
use Rattle.std.proofs.Common.{◌≡◌, length}
use denote.Text.{Utf8}
use denote.Shadow.{shadow}
use Rattle.std.specs.Str.{chars}
use Rattle.hc_expr.specs.Like.{is_like, some_rest}
use Rattle.hc_expr.proofs.like.is_some_rest_like.Given as goal

abbrev pub invariant-loop-next : goal.invariant-loop-next
invariant-loop-next l = shadow (Utf8 l.after) × shadow (Utf8 l.rest) × (some_rest (is_like (chars l.fn.pattern)) (chars l.fn.text) ≡ some_rest (is_like (chars l.after)) (chars l.rest))

abbrev pub decreases-loop-next : goal.decreases-loop-next
decreases-loop-next l = length (chars l.after)
