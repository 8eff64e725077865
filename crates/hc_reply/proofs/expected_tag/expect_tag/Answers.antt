use Rattle.hc_transcript.proofs.Tags.{each_is_among}
use Rattle.hc_reply.proofs.expected_tag.expect_tag.Goals as goal

pub expect_among-requires-clause-each : goal.expect_among-requires-clause-each
expect_among-requires-clause-each c = each_is_among
