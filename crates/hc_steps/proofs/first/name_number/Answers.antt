-- The place is below the total.
use Rattle.std.proofs.Common.{arith}
use Rattle.hc_rows.proofs.Steps.{map_below, total_small}
use Rattle.hc_steps.proofs.first.name_number.Goals as goal

pub bounds-words-place : goal.bounds-words-place
bounds-words-place c = let below = map_below c.args.layout.now c.args.number c.requires.number in omega (arith, below, c.requires.sized, c.map_at-place.ensures)

pub offset_bounds-words-place : goal.offset_bounds-words-place
offset_bounds-words-place c =
    let below = map_below c.args.layout.now c.args.number c.requires.number in
    let small = total_small c.args.layout.now c.requires.layout in omega (arith, below, small, c.map_at-place.ensures)
