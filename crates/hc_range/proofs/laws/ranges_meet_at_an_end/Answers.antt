use Rattle.hc_range.proofs.Ends.{higher_in_both}
use Rattle.hc_range.proofs.laws.ranges_meet_at_an_end.Goals as goal

pub returns : goal.returns
returns c = higher_in_both
