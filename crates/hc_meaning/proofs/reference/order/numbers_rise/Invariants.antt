-- After each so far the numbers rise.
use Rattle.std.proofs.Common.{take}
use Rattle.std.specs.Prelude.{All, Contains}
use Rattle.hc_meaning.specs.declared.transaction.Transaction.{Transaction}
use Rattle.hc_meaning.proofs.Loops.Follows.{MayFollow}
use Rattle.hc_meaning.proofs.reference.order.numbers_rise.Given as goal

abbrev pub invariant-loop-transaction : goal.invariant-loop-transaction
invariant-loop-transaction l = All (λ t. (u : Transaction) → Contains l.transactions u → MayFollow t u) (take l.transaction-index l.transactions)
