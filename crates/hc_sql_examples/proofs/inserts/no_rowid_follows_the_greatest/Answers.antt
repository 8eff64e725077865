use Rattle.hc_sql_examples.proofs.InsertsComputed.{no_rowid_follows_the_greatest}
use Rattle.hc_sql_examples.proofs.inserts.no_rowid_follows_the_greatest.Goals as goal

pub returns : goal.returns
returns c = no_rowid_follows_the_greatest
