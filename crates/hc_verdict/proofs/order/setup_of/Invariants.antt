-- Each so far is connection 0's.
use Rattle.std.proofs.Common.{◌≡◌, take}
use Rattle.std.specs.Prelude.{All}
use Rattle.hc_verdict.proofs.order.setup_of.Given as goal

abbrev pub invariant-loop-k : goal.invariant-loop-k
invariant-loop-k l = All (λ t. t.conn ≡ 0) (take l.k l.history)
