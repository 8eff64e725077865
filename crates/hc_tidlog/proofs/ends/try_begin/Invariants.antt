-- The load begins a transaction at the end.
use Rattle.hc_rule.specs.Kinds.LoadLog.{Begins}
use Rattle.hc_tidlog.proofs.ends.try_begin.Given as goal

abbrev pub ghost-load_log : goal.ghost-load_log
ghost-load_log a = Begins
