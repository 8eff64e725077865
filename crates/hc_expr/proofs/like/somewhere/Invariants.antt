-- Before this rest the text is nowhere like the pattern.
use Rattle.std.proofs.Common.{◌≡◌, length}
use denote.Text.{Utf8}
use denote.Shadow.{shadow}
use Rattle.std.specs.Str.{chars}
use Rattle.hc_expr.specs.Like.{is_like, some_rest}
use Rattle.hc_expr.proofs.like.somewhere.Given as goal

abbrev pub invariant-loop-after : goal.invariant-loop-after
invariant-loop-after l = shadow (Utf8 l.rest) × (some_rest (is_like (chars l.fn.pattern)) (chars l.fn.text) ≡ some_rest (is_like (chars l.fn.pattern)) (chars l.rest))

abbrev pub decreases-loop-after : goal.decreases-loop-after
decreases-loop-after l = length (chars l.rest)
