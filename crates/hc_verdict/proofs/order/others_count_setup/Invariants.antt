-- Each of another connection so far counts the setup's commits.
use Rattle.std.proofs.Common.{take}
use Rattle.std.specs.Prelude.{All}
use Rattle.hc_verdict.specs.Orders.{CountsSetup}
use Rattle.hc_verdict.proofs.order.others_count_setup.Given as goal

abbrev pub invariant-loop-transaction : goal.invariant-loop-transaction
invariant-loop-transaction l = All (λ t. CountsSetup l.setup t) (take l.transaction-index l.transactions)
