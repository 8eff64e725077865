use Rattle.hc_sql_examples.proofs.UpdatesComputed.{each_rowid_one_up_meets_the_next_row}
use Rattle.hc_sql_examples.proofs.updates.each_rowid_one_up_meets_the_next_row.Goals as goal

pub returns : goal.returns
returns c = each_rowid_one_up_meets_the_next_row
