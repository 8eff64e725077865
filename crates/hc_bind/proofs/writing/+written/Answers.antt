use Rattle.hc_schema.specs.Binding.Writing.{written}
use Rattle.hc_bind.proofs.Bytes.{each_written}
use Rattle.hc_bind.proofs.writing.+written.Goals as goal

pub push_each-loop-e-preserved : goal.push_each-loop-e-preserved
push_each-loop-e-preserved t c =
    each_written written c.args.list.now c.loop-e.e-index c.e-item.result c.args.out.now.items c.loop-e.out.items c.push_written.new.out.items c.loop-e-test.true c.e-item.is c.loop-e.invariant c.in_ok-push_written.ensures
