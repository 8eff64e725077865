use Rattle.std.proofs.Common.{◌*◌, ◌∙◌, drop, arith}
use Rattle.std.proofs.lemmas.List.{length-set}
use Rattle.hc_base.specs.Layout.{word}
use Rattle.hc_page.proofs.Packing.{filled_more}
use Rattle.hc_page.proofs.sought.Sought.of.Goals as goal

pub loop-j-preserved : goal.loop-j-preserved
loop-j-preserved c = (
  length-set c.loop-j.words c.loop-j.j c.word_from.result ∙ c.loop-j.invariant.0,
  filled_more (λ k. word 8 (drop (8 * k) c.args.bytes.now)) c.loop-j.words c.loop-j.j c.word_from.result
      (omega (arith, c.loop-j-test.true, c.loop-j.invariant.0)) c.loop-j.invariant.1 c.word_from.ensures,
)

pub invariant_of-result : goal.invariant_of-result
invariant_of-result c = record {
  packed = λ j within. c.loop-j.invariant.1 j (omega (arith, c.loop-j-test.false, c.loop-j.auto.j-end, within));
  are_bytes = λ i. omega (arith, c.type_inv.bytes i);
}
