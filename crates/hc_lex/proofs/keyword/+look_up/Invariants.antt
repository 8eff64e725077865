-- Each half has fewer words.
use Rattle.std.proofs.Common.{length}
use Rattle.hc_lex.proofs.keyword.+look_up.Given as goal

abbrev pub decreases-look_up : goal.decreases-look_up
decreases-look_up l = length l.table.now
