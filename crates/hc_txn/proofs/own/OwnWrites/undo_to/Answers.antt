use Rattle.std.proofs.Common.{◌∙◌, ap, arith}
use Rattle.hc_txn.specs.Transactions.{earlier}
use Rattle.hc_txn.proofs.Earlier.{earlier_undone}
use Rattle.hc_txn.proofs.own.OwnWrites.undo_to.Goals as goal

pub loop-self-preserved : goal.loop-self-preserved
loop-self-preserved c = record {
  own = ap (earlier c.args.count) c.undo.ensures.own
      ∙ earlier_undone c.args.count c.loop-self.self.own (omega (arith, c.len.ensures, c.loop-self-test.true)) ∙ c.loop-self.invariant.own;
  kept = c.undo.ensures.kept ∙ c.loop-self.invariant.kept;
}
