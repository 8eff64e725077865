use Rattle.hc_meaning.proofs.Table.Runs.{IsDb-state}
use Rattle.hc_meaning.proofs.laws.every_state_is_in_order.Goals as goal

pub returns : goal.returns
returns c = IsDb-state
