-- Its place is that of no other word.
use Rattle.hc_rows.proofs.Steps.{at_page, page_below}
use Rattle.hc_rows.proofs.laws.page_steps_are_alone.Goals as goal

pub returns : goal.returns
returns c = λ y words p n sized there. (page_below y p there, at_page y words p n sized there)
