use Rattle.hc_sql_examples.proofs.InsertsComputed.{a_row_meets_one_of_its_own_statement}
use Rattle.hc_sql_examples.proofs.inserts.a_row_meets_one_of_its_own_statement.Goals as goal

pub returns : goal.returns
returns c = a_row_meets_one_of_its_own_statement
