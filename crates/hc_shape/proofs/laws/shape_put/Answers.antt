use Rattle.hc_shape.proofs.Changes.{put_shape}
use Rattle.hc_shape.proofs.Fences.{one_key}
use Rattle.std.proofs.Common.{Some}
use Rattle.hc_shape.proofs.laws.shape_put.Goals as goal

pub returns : goal.returns
returns c = λ node s n e new h. (put_shape node s n e new h, one_key node s h.shape n new e.key (Some e) h.leaf h.within h.put.put)
