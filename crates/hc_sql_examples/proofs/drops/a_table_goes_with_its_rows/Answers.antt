use Rattle.hc_sql_examples.proofs.DropsComputed.{a_table_goes_with_its_rows}
use Rattle.hc_sql_examples.proofs.drops.a_table_goes_with_its_rows.Goals as goal

pub returns : goal.returns
returns c = a_table_goes_with_its_rows
