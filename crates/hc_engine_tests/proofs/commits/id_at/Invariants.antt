-- The load looks.
use Rattle.hc_rule.specs.Kinds.LoadLog.{Looks}
use Rattle.hc_engine_tests.proofs.commits.id_at.Given as goal

abbrev pub ghost-load_log : goal.ghost-load_log
ghost-load_log a = Looks
