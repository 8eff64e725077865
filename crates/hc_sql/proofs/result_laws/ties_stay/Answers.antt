use Rattle.hc_sql.proofs.Sorted.{stay}
use Rattle.hc_sql.proofs.result_laws.ties_stay.Goals as goal

pub returns : goal.returns
returns c = λ descs keys results is_key each. stay c.the_order_of_values_is_total.ensures descs keys is_key results each
