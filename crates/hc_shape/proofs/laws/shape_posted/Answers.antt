use Rattle.hc_shape.proofs.Changes.{post_entries, post_shape}
use Rattle.hc_shape.proofs.laws.shape_posted.Goals as goal

pub returns : goal.returns
returns c = λ node s k n key child new h. (post_shape node s k n key child new h, post_entries node s k n key child new h)
