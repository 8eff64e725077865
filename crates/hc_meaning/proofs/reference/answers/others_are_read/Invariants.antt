-- Each so far was read.
use Rattle.std.proofs.Common.{take}
use Rattle.std.specs.Prelude.{All}
use Rattle.hc_meaning.specs.RightOutput.{IsReadUnlessCommitted}
use Rattle.hc_meaning.proofs.reference.answers.others_are_read.Given as goal

abbrev pub invariant-loop-transaction : goal.invariant-loop-transaction
invariant-loop-transaction l = All (λ t. IsReadUnlessCommitted l.history t t.ending) (take l.transaction-index l.transactions)
