use Rattle.hc_shape.proofs.Changes.{halved_cuts, halved_entries, halved_leaf}
use Rattle.hc_shape.proofs.Cuts.{cut_is_shape, cut_stays}
use Rattle.hc_shape.proofs.laws.shape_halved.Goals as goal

pub returns : goal.returns
returns c = λ node s n e fresh left right h. (
  cut_is_shape node s 0 n fresh left right (halved_cuts node s n e fresh left right h),
  cut_stays node s 0 n fresh left right (halved_cuts node s n e fresh left right h),
  halved_leaf node s n e fresh left right h,
  halved_entries node s n e fresh left right h,
)
