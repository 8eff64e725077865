use Rattle.std.proofs.Common.{arith}
use Rattle.std.proofs.lemmas.Grind.{common_steps}
use Rattle.hc_transcript.specs.Outputs.{IsRow}
use Rattle.hc_reply.proofs.Each.{one_more}
use Rattle.hc_reply.proofs.printer.print_reply.Goals as goal

pub loop-row-preserved : goal.loop-row-preserved
loop-row-preserved c = record {
  text = grind (arith, common_steps);
  told = one_more IsRow c.as_slice-row-items.result.now c.loop-row.row-index c.row-item.result c.row-item.is c.loop-row-test.true c.loop-row.invariant.told c.in_ok-print_row.ensures.fits;
}
