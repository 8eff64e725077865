use Rattle.std.proofs.Common.{sym, subst, ◌∙◌}
use Rattle.std.specs.List.{AllByRecursion}
use Rattle.hc_schema.specs.Cells.{IsShort}
use Rattle.hc_schema.proofs.Shortness.{index_entries_short}
use Rattle.hc_schema.proofs.row.row_cells.Goals as goal

pub write_all-requires : goal.write_all-requires
write_all-requires c =
    subst (AllByRecursion IsShort) (sym (c.as_slice.ensures ∙ c.in_ok-entries.ensures)) (c.requires, index_entries_short _ c.args.values.now c.args.table.now.indexes)
