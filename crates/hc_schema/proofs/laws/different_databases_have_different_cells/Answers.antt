use Rattle.hc_schema.proofs.SameDatabases.{same_cells_same}
use Rattle.hc_schema.proofs.laws.different_databases_have_different_cells.Goals as goal

pub returns : goal.returns
returns c = same_cells_same c.keys_of_different_lists_differ.ensures c.no_encoding_begins_another.ensures
