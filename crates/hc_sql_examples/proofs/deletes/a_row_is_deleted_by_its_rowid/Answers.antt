use Rattle.hc_sql_examples.proofs.DeletesComputed.{a_row_is_deleted_by_its_rowid}
use Rattle.hc_sql_examples.proofs.deletes.a_row_is_deleted_by_its_rowid.Goals as goal

pub returns : goal.returns
returns c = a_row_is_deleted_by_its_rowid
