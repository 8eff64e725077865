use Rattle.std.proofs.Common.{[], ◌∷◌}
use Rattle.hc_value.specs.declared.value.Value.TheVariants.{Null, Int}
use Rattle.hc_table.proofs.Short.{row_record_short}
use Rattle.hc_table.proofs.rows.value_in.Goals as goal

pub returns : goal.returns
returns c = λ v fits is. c.integer_at.ensures (Null ∷ Int v ∷ []) (tt, (fits, tt)) (row_record_short v) is
