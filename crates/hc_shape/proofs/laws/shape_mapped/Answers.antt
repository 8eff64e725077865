use Rattle.hc_shape.proofs.Changes.{mapped_entries, mapped_shape}
use Rattle.hc_shape.proofs.laws.shape_mapped.Goals as goal

pub returns : goal.returns
returns c = λ node s n c shape unreached. (mapped_shape node s n c shape unreached, mapped_entries node s n c shape unreached)
