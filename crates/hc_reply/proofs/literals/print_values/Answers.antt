use Rattle.hc_reply.proofs.Joined.{row_written}
use Rattle.hc_reply.proofs.literals.print_values.Goals as goal

pub returns-clause-text : goal.returns-clause-text
returns-clause-text c =
    row_written c.args.out.now.items c.print_value.new.out.items c.loop-value.out.items c.args.values.now c.in-Some.others.now c.in-Some.first.now c.loop-value.value-index c.in-Some.ensures.cases.0 c.in_ok-print_value.ensures.text c.loop-value.invariant.text c.loop-value-test.false
