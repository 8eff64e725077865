-- No transaction so far printed the number.
use Rattle.std.proofs.Common.{◌≡◌, take}
use Rattle.std.specs.Prelude.{All}
use Rattle.hc_transcript.specs.declared.reply.Ending.TheVariants.{Commit}
use Rattle.hc_verdict.proofs.history.with_commit.Given as goal

abbrev pub invariant-loop-transaction : goal.invariant-loop-transaction
invariant-loop-transaction l = All (λ t. t.ending ≡ Commit l.k → ⊥) (take l.transaction-index l.transactions)
