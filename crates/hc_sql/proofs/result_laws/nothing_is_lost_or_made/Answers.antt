use Rattle.hc_sql.proofs.Sorted.{sorted_keeps}
use Rattle.hc_sql.proofs.result_laws.nothing_is_lost_or_made.Goals as goal

pub returns : goal.returns
returns c = sorted_keeps
