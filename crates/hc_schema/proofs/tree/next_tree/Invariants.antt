-- What was told so far is no more than the greatest of all trees, and nothing that was told is more than it.
use Rattle.std.proofs.Common.{ℕ, ◌<◌, ◌≤◌, ◌^◌, List, take}
use Rattle.hc_base.specs.Lookup.{Among}
use Rattle.hc_schema.specs.declared.entry.Entry.{Entry}
use Rattle.hc_schema.specs.declared.table.Table.{Table}
use Rattle.hc_schema.specs.Cells.{cell_of}
use Rattle.hc_schema.specs.Trees.{IsCatalogOf, IsTelling, greatest, tree_numbers}
use Rattle.hc_schema.proofs.tree.next_tree.Given as goal

abbrev pub invariant-loop-cell : goal.invariant-loop-cell
invariant-loop-cell l = record {
  fits : l.greatest < 2 ^ 32;
  below : (tables : List Table) → IsCatalogOf tables l.catalog → l.greatest ≤ greatest (tree_numbers tables);
  above : (e : Entry) (n : ℕ) → IsTelling e n → Among (cell_of e) (take l.cell-index l.catalog) → n ≤ l.greatest;
}
