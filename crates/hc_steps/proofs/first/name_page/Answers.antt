-- The place is below the total.
use Rattle.std.proofs.Common.{arith}
use Rattle.hc_rows.proofs.Steps.{page_below, total_small}
use Rattle.hc_steps.proofs.first.name_page.Goals as goal

pub bounds-words-place : goal.bounds-words-place
bounds-words-place c = let below = page_below c.args.layout.now c.args.number c.requires.page in omega (arith, below, c.requires.sized, c.page_at-place.ensures)

pub offset_bounds-words-place : goal.offset_bounds-words-place
offset_bounds-words-place c =
    let below = page_below c.args.layout.now c.args.number c.requires.page in
    let small = total_small c.args.layout.now c.requires.layout in omega (arith, below, small, c.page_at-place.ensures)
