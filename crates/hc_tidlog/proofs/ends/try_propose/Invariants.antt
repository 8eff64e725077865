-- The load proposes the number at the end.
use Rattle.hc_rule.specs.Kinds.LoadLog.{Proposes}
use Rattle.hc_tidlog.proofs.ends.try_propose.Given as goal

abbrev pub ghost-load_log : goal.ghost-load_log
ghost-load_log a = Proposes
