use Rattle.std.proofs.Common.{◌∙◌, ap, None}
use Rattle.hc_core.specs.Commits.{set_cell}
use Rattle.hc_core.proofs.CellEntries.{remove_cell, seen}
use Rattle.hc_core.proofs.cell_map.CellMap.take_out.Goals as goal

pub returns : goal.returns
returns c =
    ap (seen (λ k. k.items)) c.remove.ensures.entries
    ∙ remove_cell (λ k. k.items) c.args.key.now c.self.inside.tree.entries c.len-count.ensures.ordered
    ∙ ap (set_cell c.args.key.now None) c.self.view_is
