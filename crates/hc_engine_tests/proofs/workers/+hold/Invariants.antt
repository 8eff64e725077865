-- Each call within asks for fewer pages.
use Rattle.hc_engine_tests.proofs.workers.+hold.Given as goal

abbrev pub decreases-hold : goal.decreases-hold
decreases-hold l = l.most
