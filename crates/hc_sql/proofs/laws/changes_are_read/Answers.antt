use Rattle.hc_sql.proofs.KeptStatements.{changes_read}
use Rattle.hc_sql.proofs.laws.changes_are_read.Goals as goal

pub returns : goal.returns
returns c =
    changes_read c.keys_of_different_lists_differ.ensures c.no_encoding_begins_another.ensures c.ranges_hold_their_keys.ensures
    (λ a b equal. (c.values_are_equal_in_order_exactly_when_they_are_the_same.ensures a b).0 equal)
