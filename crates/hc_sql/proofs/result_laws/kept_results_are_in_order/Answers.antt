use Rattle.hc_sql.proofs.Firsts.{kept_in_order}
use Rattle.hc_sql.proofs.result_laws.kept_results_are_in_order.Goals as goal

pub returns : goal.returns
returns c = kept_in_order
