use Rattle.hc_sql.proofs.Leaves.{delete_left}
use Rattle.hc_sql.proofs.change_laws.a_delete_leaves_a_database.Goals as goal

pub returns : goal.returns
returns c table filter db is = delete_left db table filter is
