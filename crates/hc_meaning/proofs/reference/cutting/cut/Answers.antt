use Rattle.std.proofs.Common.{◌∙◌, sym, arith}
use Rattle.hc_meaning.proofs.Loops.Cuts.{cut_from-no_reply}
use Rattle.hc_meaning.proofs.reference.cutting.cut.Goals as goal

pub returns-then-replies-statements : goal.returns-then-replies-statements
returns-then-replies-statements c =
    sym (c.loop-at.invariant.cut_so_far
    ∙ cut_from-no_reply c.args.conn c.args.statements.now c.args.replies.now c.loop-at.transactions.items c.loop-at.at (omega (arith, c.loop-at.auto.at-end, c.if-replies-statements.true)) c.loop-at-test.false)
