use Rattle.hc_sql_examples.proofs.InsertsComputed.{null_takes_an_automatic_rowid}
use Rattle.hc_sql_examples.proofs.inserts.null_takes_an_automatic_rowid.Goals as goal

pub returns : goal.returns
returns c = null_takes_an_automatic_rowid
