use Rattle.hc_sql.proofs.DecidedDrops.{drop_table_decided}
use Rattle.hc_sql.proofs.change_laws.drop_table_is_decided.Goals as goal

pub returns : goal.returns
returns c maybe name =
    drop_table_decided c.keys_of_different_lists_differ.ensures c.no_encoding_begins_another.ensures
    c.values_are_equal_in_order_exactly_when_they_are_the_same.ensures c.ranges_hold_their_keys.ensures maybe name
