-- Each so far is at its place.
use Rattle.std.proofs.Common.{take}
use Rattle.std.specs.Prelude.{All}
use Rattle.hc_verdict.specs.Histories.{IsPlaced}
use Rattle.hc_verdict.proofs.history.each_is_placed.Given as goal

abbrev pub invariant-loop-transaction : goal.invariant-loop-transaction
invariant-loop-transaction l = All (λ t. IsPlaced l.history t) (take l.transaction-index l.transactions)
