use Rattle.hc_range.proofs.Overlap.{overlap_is}
use Rattle.hc_range.proofs.examples.two_ranges_that_overlap_are_one.Goals as goal

pub returns : goal.returns
returns c = overlap_is
