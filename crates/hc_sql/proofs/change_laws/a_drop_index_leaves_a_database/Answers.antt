use Rattle.hc_sql.proofs.FewerIndexes.{drop_index_left}
use Rattle.hc_sql.proofs.change_laws.a_drop_index_leaves_a_database.Goals as goal

pub returns : goal.returns
returns c maybe name db is = drop_index_left db maybe name is
