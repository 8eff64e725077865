-- The list gets shorter.
use Rattle.std.proofs.Common.{length}
use Rattle.hc_reply_tests.proofs.printed.+transcripts_have_values.Given as goal

abbrev pub decreases-transcripts_have_values : goal.decreases-transcripts_have_values
decreases-transcripts_have_values l = length l.all.now
