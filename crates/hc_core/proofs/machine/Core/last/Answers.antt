use Rattle.std.proofs.Common.{◌∙◌, List, [], ◌∷◌, inl, refl, sym, ap, subst}
use Rattle.hc_range.specs.declared.range.Range.{Range}
use Rattle.hc_core.specs.Account.{part_of}
use Rattle.hc_core.specs.Calls.{AreSnapshotCells}
use Rattle.hc_base.specs.Lookup.{Among}
use Rattle.hc_core.specs.Machine.{entered}
use Rattle.hc_core.specs.declared.cells.Cell.{Cell}
use Rattle.hc_core.specs.declared.event.Event.TheVariants.{Read}
use Rattle.hc_core.specs.declared.outcome.Outcome.TheVariants.{Cells}
use Rattle.hc_core.proofs.Asked.{read_is}
use Rattle.hc_core.proofs.Elements.{among_push}
use Rattle.hc_core.proofs.ReadCells.{added_cells, last_read}
use Rattle.hc_core.proofs.machine.Core.last.Goals as goal

-- the last cell is all that is in the part from its key on
pub enter_read-requires-2-clause-cells : goal.enter_read-requires-2-clause-cells
enter_read-requires-2-clause-cells c =
    let part_is = c.in_ok-part.ensures ∙ ap (λ key. part_of key c.args.range.now.hi) c.as_slice.ensures in
    let added = added_cells c.args.out.now.cells (c.in-Some.cell ∷ []) c.as_slice-2.result.now c.len-count.result (c.as_slice-2.ensures ∙ c.in_ok-push.ensures.ok) c.len-count.ensures in
    subst (λ cells. AreSnapshotCells c.args.self.now c.args.conn c.in_ok-part.part cells) (sym added)
    ((last_read c.args.self.now c.args.conn c.args.range.now c.in_ok-part.part _ _ c.in-Some.cell c.in_ok-cells.ensures.snapshot c.in-Some.ensures.items part_is).0)

-- that part is read
pub returns-clause-last : goal.returns-clause-last
returns-clause-last c =
    let part = part_of c.in-Some.cell.key c.args.range.now.hi in
    let m = c.args.self.now in
    let part_is = c.in_ok-part.ensures ∙ ap (λ key. part_of key c.args.range.now.hi) c.as_slice.ensures in
    let added = added_cells c.args.out.now.cells (c.in-Some.cell ∷ []) c.as_slice-2.result.now c.len-count.result (c.as_slice-2.ensures ∙ c.in_ok-push.ensures.ok) c.len-count.ensures in
    let read = last_read m c.args.conn c.args.range.now part _ _ c.in-Some.cell c.in_ok-cells.ensures.snapshot c.in-Some.ensures.items refl in (
      c.in-Some.cell,
      read_is m c.args.conn part (c.in-Some.cell ∷ []) c.requires.reading read.0,
      c.in_ok-enter_read-2.ensures.after
          ∙ ap (λ (cells : List Cell). entered m c.args.conn (Read c.args.conn c.in_ok-part.part.lo c.in_ok-part.part.hi) (Cells (record { cells = cells }))) added
          ∙ ap (λ (p : Range). entered m c.args.conn (Read c.args.conn p.lo p.hi) (Cells (record { cells = c.in-Some.cell ∷ [] }))) part_is,
      c.in_ok-push.ensures.ok,
      read.1,
      c.in_ok-cells.ensures.short c.in-Some.cell (subst (Among c.in-Some.cell) (sym c.in-Some.ensures.items) ((among_push c.in-Some.cell c.in-Some.cell _).1 (inl refl))),
    )
