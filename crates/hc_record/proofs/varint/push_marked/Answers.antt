use Rattle.std.proofs.Common.{arith, ◌++◌, refl}
use Rattle.hc_record.specs.Varint.{marked}
use Rattle.hc_record.proofs.Bounds.{marked_one_more}
use Rattle.hc_record.proofs.varint.push_marked.Goals as goal

pub loop-left-preserved : goal.loop-left-preserved
loop-left-preserved c =
    record {
      whole = marked_one_more c.loop-left.out.items c.push.new.self.items (c.args.out.now.items ++ marked c.args.groups c.args.n) c.loop-left.left c.args.n _ c.loop-left-test.true c.in_ok-push.ensures.items refl c.loop-left.invariant.whole;
      most = omega (arith, c.loop-left.invariant.most);
    }
