use Rattle.hc_reply.proofs.Words.{none_left}
use Rattle.hc_reply.proofs.word.+common.Goals as goal

pub returns-in_default-clause-count : goal.returns-in_default-clause-count
returns-in_default-clause-count _ c = none_left c.args.word.now c.args.bytes.now c.in_default.ensures.cases
