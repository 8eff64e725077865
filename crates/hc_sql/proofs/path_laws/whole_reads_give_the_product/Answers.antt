use Rattle.hc_sql.proofs.Loops.{all_looped}
use Rattle.hc_sql.proofs.path_laws.whole_reads_give_the_product.Goals as goal

pub returns : goal.returns
returns c = all_looped
