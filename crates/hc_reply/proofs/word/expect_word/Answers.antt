use Rattle.std.proofs.Common.{arith}
use Rattle.hc_reply.proofs.Words.{whole_word, mismatch_at_word}
use Rattle.hc_reply.proofs.word.expect_word.Goals as goal

pub returns-then-n-word-clause-found : goal.returns-then-n-word-clause-found
returns-then-n-word-clause-found c = whole_word c.args.word.now c.args.bytes.now c.common-n.result c.common-n.ensures.count (omega (arith, c.if-n-word.true))

pub returns-else-n-word-clause-stop : goal.returns-else-n-word-clause-stop
returns-else-n-word-clause-stop c = mismatch_at_word c.args.word.now c.args.bytes.now c.common-n.result c.common-n.ensures.count (λ same. omega (arith, c.if-n-word.false, same))
