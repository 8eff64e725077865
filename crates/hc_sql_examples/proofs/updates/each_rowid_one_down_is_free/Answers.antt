use Rattle.hc_sql_examples.proofs.UpdatesComputed.{each_rowid_one_down_is_free}
use Rattle.hc_sql_examples.proofs.updates.each_rowid_one_down_is_free.Goals as goal

pub returns : goal.returns
returns c = each_rowid_one_down_is_free
