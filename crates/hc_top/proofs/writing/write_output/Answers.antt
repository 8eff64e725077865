use Rattle.std.proofs.Common.{arith, length-drop}
use Rattle.std.proofs.lemmas.List.{take_rest}
use Rattle.hc_top.proofs.StreamSteps.{writes-more}
use Rattle.hc_top.proofs.writing.write_output.Goals as goal

pub loop-at-preserved : goal.loop-at-preserved
loop-at-preserved g c =
    let out = c.args.output.now in
    let wrote = rw (take_rest out c.loop-at.at) at c.in_ok-at.ensures.bytes in
    let within = rw (take_rest out c.loop-at.at) at c.in_ok-at.ensures.within in
    record {
      within = omega (arith, within, length-drop c.loop-at.at out);
      written =
          writes-more (g.K.Sink.written c.args.sink.now) (g.K.Sink.written c.loop-at.sink) (g.K.Sink.written c.write.new.self) out c.loop-at.at c.in_ok-at.field-0 c.loop-at.invariant.written wrote;
      count = omega (arith, c.loop-at.invariant.count, c.in_ok-at.ensures.cause.never_falls);
    }
