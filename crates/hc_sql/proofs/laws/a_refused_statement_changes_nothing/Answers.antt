use Rattle.hc_sql.proofs.Endings.{refused_same}
use Rattle.hc_sql.proofs.laws.a_refused_statement_changes_nothing.Goals as goal

pub returns : goal.returns
returns c = refused_same
