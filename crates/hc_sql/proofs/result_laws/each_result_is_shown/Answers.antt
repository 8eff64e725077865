use Rattle.hc_sql.proofs.Firsts.{each_shown}
use Rattle.hc_sql.proofs.result_laws.each_result_is_shown.Goals as goal

pub returns : goal.returns
returns c =
    each_shown c.the_order_of_values_is_total.ensures
    (λ a b equal. (c.values_are_equal_in_order_exactly_when_they_are_the_same.ensures a b).0 equal)
