use Rattle.hc_sql.proofs.Filters.{by_index}
use Rattle.hc_sql.proofs.path_laws.an_index_gives_its_rows.Goals as goal

pub returns : goal.returns
returns c = by_index
