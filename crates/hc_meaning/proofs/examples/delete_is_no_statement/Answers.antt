use Rattle.hc_meaning.proofs.Worked.{delete_is_no_statement}
use Rattle.hc_meaning.proofs.examples.delete_is_no_statement.Goals as goal

pub returns : goal.returns
returns c = delete_is_no_statement
