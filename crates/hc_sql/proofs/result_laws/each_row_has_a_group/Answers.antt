use Rattle.hc_sql.proofs.Groups.{each_grouped}
use Rattle.hc_sql.proofs.result_laws.each_row_has_a_group.Goals as goal

pub returns : goal.returns
returns c = each_grouped c.the_order_of_values_is_total.ensures
    (λ a b equal. (c.values_are_equal_in_order_exactly_when_they_are_the_same.ensures a b).0 equal)
