use Rattle.hc_sql.proofs.Filters.{by_rowid}
use Rattle.hc_sql.proofs.path_laws.a_rowid_gives_its_row.Goals as goal

pub returns : goal.returns
returns c = by_rowid
