use Rattle.hc_sql.proofs.Firsts.{kept_apart}
use Rattle.hc_sql.proofs.result_laws.no_two_kept_show_the_same.Goals as goal

pub returns : goal.returns
returns c = kept_apart
