use Rattle.std.proofs.Common.{suc}
use Rattle.hc_shape.proofs.Changes.{inner_cuts, inner_entries}
use Rattle.hc_shape.proofs.Cuts.{cut_is_shape, cut_stays}
use Rattle.hc_shape.proofs.laws.shape_halved_inner.Goals as goal

pub returns : goal.returns
returns c = λ node s k n key child fresh left right h. (
  cut_is_shape node s (suc k) n fresh left right (inner_cuts node s k n key child fresh left right h),
  cut_stays node s (suc k) n fresh left right (inner_cuts node s k n key child fresh left right h),
  inner_entries node s k n key child fresh left right h,
)
