use Rattle.hc_top.proofs.Outcomes.{done_or_no_memory, no_broken_form, right_written}
use Rattle.hc_top.proofs.top.top_step.Goals as goal

pub returns-in-Err-clause-good_form : goal.returns-in-Err-clause-good_form
returns-in-Err-clause-good_form g c =
    done_or_no_memory (g.S.Source.left c.args.source.now) (g.S.Source.faults c.args.source.now) (g.S.Source.faults c.make_output.new.source) c.in-Err.status _ _ c.in-Err.ensures.cause

pub returns-in-Ok-write_output-clause-right : goal.returns-in-Ok-write_output-clause-right
returns-in-Ok-write_output-clause-right g c = λ done.
    right_written (g.S.Source.left c.args.source.now) (g.K.Sink.written c.args.sink.now) (g.K.Sink.written c.write_output.new.sink) c.in-Ok.output c.in-Ok.ensures.right
    (rw c.as_slice.ensures at c.in-Ok-write_output.ensures.whole)

pub returns-in-Ok-write_output-clause-broken_form : goal.returns-in-Ok-write_output-clause-broken_form
returns-in-Ok-write_output-clause-broken_form g c =
    no_broken_form (g.S.Source.left c.args.source.now) c.in-Ok.output _ _ c.in-Ok.ensures.right

pub returns-clause-broken_form : goal.returns-clause-broken_form
returns-clause-broken_form g c =
    no_broken_form (g.S.Source.left c.args.source.now) c.in-Ok.output _ _ c.in-Ok.ensures.right
