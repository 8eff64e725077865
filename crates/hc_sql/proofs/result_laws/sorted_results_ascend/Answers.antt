use Rattle.hc_sql.proofs.Sorted.{results_ascend}
use Rattle.hc_sql.proofs.result_laws.sorted_results_ascend.Goals as goal

pub returns : goal.returns
returns c = results_ascend c.the_order_of_values_is_total.ensures
