use Rattle.std.proofs.Common.{arith}
use Rattle.std.proofs.lemmas.Grind.{common_steps}
use Rattle.hc_transcript.specs.Outputs.{IsTranscript}
use Rattle.hc_reply.proofs.Each.{one_more}
use Rattle.hc_reply.proofs.printer.print.Goals as goal

pub loop-transcript-preserved : goal.loop-transcript-preserved
loop-transcript-preserved c = record {
  text = grind (arith, common_steps);
  told = one_more IsTranscript c.args.all.now c.loop-transcript.transcript-index c.transcript-item.result c.transcript-item.is c.loop-transcript-test.true c.loop-transcript.invariant.told c.in_ok-print_transcript.ensures.fits;
}
