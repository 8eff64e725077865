use Rattle.hc_shape.proofs.Growth.{grown_entries, grown_is_shape, grown_stays}
use Rattle.hc_shape.proofs.laws.shape_grown.Goals as goal

pub returns : goal.returns
returns c = λ node s k key child first second left right top h. (
  grown_is_shape node s k key child first second left right top h,
  grown_stays node s k key child first second left right top h,
  grown_entries node s k key child first second left right top h,
)
