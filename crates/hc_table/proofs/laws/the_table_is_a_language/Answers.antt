use Rattle.hc_table.proofs.OneLanguage.{is_language}
use Rattle.hc_table.proofs.laws.the_table_is_a_language.Goals as goal

pub returns : goal.returns
returns c = is_language c.byte_order_is_value_order.ensures c.keys_of_different_lists_differ.ensures c.no_encoding_begins_another.ensures
