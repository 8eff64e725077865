use Rattle.hc_sql.proofs.FewerTables.{drop_table_left}
use Rattle.hc_sql.proofs.change_laws.a_drop_table_leaves_a_database.Goals as goal

pub returns : goal.returns
returns c maybe name db is = drop_table_left db maybe name is
