-- Its place is that of no other word.
use Rattle.hc_rows.proofs.Steps.{at_row, row_below}
use Rattle.hc_rows.proofs.laws.row_steps_are_alone.Goals as goal

pub returns : goal.returns
returns c = λ y words p word n sized there within. (row_below y p word there within, at_row y words p word n sized there within)
