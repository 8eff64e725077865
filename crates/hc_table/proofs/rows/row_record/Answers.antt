use Rattle.std.proofs.Common.{w64, to_z, of_z}
use Rattle.hc_table.proofs.Short.{row_record_short}
use Rattle.hc_table.proofs.rows.row_record.Goals as goal

-- src/rows.rt:31:5
pub encode-requires : goal.encode-requires
encode-requires c = row_record_short (to_z w64 (of_z w64 c.args.v))
