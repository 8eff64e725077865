-- After each so far the numbers rise.
use Rattle.std.proofs.Common.{take}
use Rattle.std.specs.Prelude.{All}
use Rattle.hc_base.specs.Lookup.{Among}
use Rattle.hc_meaning.specs.Runs.Cut.{Transaction}
use Rattle.hc_verdict.specs.Orders.{MayFollow}
use Rattle.hc_verdict.proofs.order.numbers_rise.Given as goal

abbrev pub invariant-loop-transaction : goal.invariant-loop-transaction
invariant-loop-transaction l = All (λ t. (u : Transaction) → Among u l.transactions → MayFollow t u) (take l.transaction-index l.transactions)
