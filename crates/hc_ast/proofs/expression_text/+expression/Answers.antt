use Rattle.std.proofs.Common.{string_bytes}
use Rattle.hc_ast.specs.Expressions.{expression_words}
use Rattle.hc_ast.proofs.Lists.{loop_written}
use Rattle.hc_ast.proofs.expression_text.+expression.Goals as goal

pub push_values-returns : goal.push_values-returns
push_values-returns t c =
    loop_written expression_words (string_bytes c.args.out.now) (string_bytes c.push_expression.new.out) (string_bytes c.loop-other.out) c.args.values.now c.in-Some.others.now c.in-Some.first.now c.loop-other.other-index c.in-Some.ensures.cases.0 c.in_ok-push_expression.ensures c.loop-other.invariant c.loop-other-test.false
