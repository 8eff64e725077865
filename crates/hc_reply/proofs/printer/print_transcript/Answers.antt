use Rattle.std.proofs.Common.{arith}
use Rattle.std.proofs.lemmas.Grind.{common_steps}
use Rattle.hc_transcript.specs.Outputs.{IsReply}
use Rattle.hc_reply.proofs.Each.{one_more}
use Rattle.hc_reply.proofs.printer.print_transcript.Goals as goal

pub loop-reply-preserved : goal.loop-reply-preserved
loop-reply-preserved c = record {
  text = grind (arith, common_steps);
  told = one_more IsReply c.as_slice-reply-items.result.now c.loop-reply.reply-index c.reply-item.result c.reply-item.is c.loop-reply-test.true c.loop-reply.invariant.told c.in_ok-print_reply.ensures.fits;
}
