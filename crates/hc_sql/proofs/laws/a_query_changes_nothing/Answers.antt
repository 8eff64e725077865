use Rattle.hc_sql.proofs.KeptStatements.{query_changes_nothing}
use Rattle.hc_sql.proofs.laws.a_query_changes_nothing.Goals as goal

pub returns : goal.returns
returns c = query_changes_nothing
