use Rattle.std.proofs.Common.{◌≡◌, List, OnOk, subst}
use Rattle.hc_core.specs.declared.cells.Cell.{Cell}
use Rattle.hc_core.proofs.CellOrder.{count_within, place_within_rest, set_by}
use Rattle.hc_core.proofs.reading.set_cell.Goals as goal

-- the place is within the cells
pub take_out_at-requires : goal.take_out_at-requires
take_out_at-requires c = rw (c.place_for-place.ensures, c.as_slice.ensures.value) (count_within c.as_slice-key.result.now c.args.cells.now.items)

-- and within what is left
pub put_in_at-requires : goal.put_in_at-requires
put_in_at-requires c = place_within_rest _ _ _ _ _ _ c.place_for-place.ensures c.as_slice-key.ensures c.as_slice.ensures.value c.take_out_at.ensures

pub returns : goal.returns
returns c =
    subst (λ (cells : List Cell). OnOk c.put_in_at.result (c.put_in_at.new.cells.items ≡ cells))
    (set_by _ _ c.args.write.now.rec _ _ _ _ c.place_for-place.ensures c.as_slice-key.ensures c.as_slice.ensures.value c.take_out_at.ensures)
    c.put_in_at.ensures
