-- The load looks.
use Rattle.hc_rule.specs.Kinds.LoadLog.{Looks}
use Rattle.hc_tidlog.proofs.states.is_at.Given as goal

abbrev pub ghost-load_log : goal.ghost-load_log
ghost-load_log a = Looks
