use Rattle.std.proofs.Common.{◌∙◌, sym, ap, Option, Some, ℕ, List}
use Rattle.hc_core.specs.Commits.{set_cell}
use Rattle.hc_core.proofs.CellEntries.{add_entry, seen}
use Rattle.hc_core.proofs.cell_map.CellMap.set.Goals as goal

-- the record is there
pub returns : goal.returns
returns c =
    ap (seen (λ k. k.items)) c.in_ok-insert.ensures.entries
    ∙ add_entry (λ k. k.items) c.self.inside.tree.entries c.in_ok-from_slice.field-0 c.in_ok-rec.rec
    ∙ ap (λ (key : List ℕ). set_cell key (Some c.in_ok-rec.rec) (seen (λ k. k.items) c.self.inside.tree.entries)) (c.in_ok-from_slice.ensures.items ∙ c.as_slice-key.ensures)
    ∙ ap (λ (rec : Option (List ℕ)). set_cell c.args.write.now.key rec (seen (λ k. k.items) c.self.inside.tree.entries))
    (ap (λ (rec : List ℕ). Some rec) (c.in_ok-rec.ensures ∙ c.as_slice.ensures) ∙ sym c.in-Some.is)
    ∙ ap (set_cell c.args.write.now.key c.args.write.now.rec) c.self.view_is
