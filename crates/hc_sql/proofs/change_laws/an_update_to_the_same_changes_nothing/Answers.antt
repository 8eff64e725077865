use Rattle.hc_sql.proofs.SameValues.{update_same}
use Rattle.hc_sql.proofs.change_laws.an_update_to_the_same_changes_nothing.Goals as goal

pub returns : goal.returns
returns c = update_same
