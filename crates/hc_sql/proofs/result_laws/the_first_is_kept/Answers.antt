use Rattle.hc_sql.proofs.Firsts.{first_kept}
use Rattle.hc_sql.proofs.result_laws.the_first_is_kept.Goals as goal

pub returns : goal.returns
returns c = first_kept
