use Rattle.std.proofs.Common.{arith}
use Rattle.hc_core.proofs.Steps.{match_map}
use Rattle.hc_core.proofs.log.newest_with.Goals as goal

-- each place is from the first one on
pub returns : goal.returns
returns c = match_map c.newest_from.result _ _ _ _ c.newest_from.ensures (λ none place within. none place (omega arith) within) (λ place last. last.0)
