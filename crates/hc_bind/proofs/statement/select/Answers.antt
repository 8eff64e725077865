use Rattle.std.proofs.Common.{ap, Ok}
use Rattle.hc_schema.specs.Binding.Faults.{after}
use Rattle.hc_schema.specs.Binding.Statements.{Select as Bound-Select}
use Rattle.hc_bind.proofs.statement.select.Goals as goal

pub returns-in-Ok : goal.returns-in-Ok
returns-in-Ok c = ap (λ j. after j (λ b. Ok (Bound-Select b))) c.in-Ok.ensures
