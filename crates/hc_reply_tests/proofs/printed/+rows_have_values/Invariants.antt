-- The list gets shorter.
use Rattle.std.proofs.Common.{length}
use Rattle.hc_reply_tests.proofs.printed.+rows_have_values.Given as goal

abbrev pub decreases-rows_have_values : goal.decreases-rows_have_values
decreases-rows_have_values l = length l.all.now
