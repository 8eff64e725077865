-- Each so far may follow.
use Rattle.std.proofs.Common.{take}
use Rattle.std.specs.Prelude.{All}
use Rattle.hc_verdict.specs.Orders.{MayFollow}
use Rattle.hc_verdict.proofs.order.each_may_follow.Given as goal

abbrev pub invariant-loop-later : goal.invariant-loop-later
invariant-loop-later l = All (λ u. MayFollow l.earlier u) (take l.later-index l.transactions)
