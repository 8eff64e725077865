use Rattle.hc_sql.proofs.Groups.{parted}
use Rattle.hc_sql.proofs.result_laws.no_two_groups_have_the_same_values.Goals as goal

pub returns : goal.returns
returns c = λ keyed.
    (parted c.the_order_of_values_is_total.ensures
    (λ a b equal. (c.values_are_equal_in_order_exactly_when_they_are_the_same.ensures a b).0 equal) keyed).apart
