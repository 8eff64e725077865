use Rattle.hc_shape.proofs.Changes.{unput_shape}
use Rattle.hc_shape.proofs.Fences.{one_key}
use Rattle.hc_shape.proofs.laws.shape_unput.Goals as goal

pub returns : goal.returns
returns c = λ node s n key older new h. (unput_shape node s n key older new h, one_key node s h.shape n new key older h.leaf h.within h.unput.unput)
