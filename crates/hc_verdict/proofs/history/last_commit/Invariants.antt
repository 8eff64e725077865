-- No commit number so far is greater, and one is it.
use Rattle.std.proofs.Common.{◌≡◌, ◌<◌, ◌≤◌, take, ℕ}
use Rattle.std.specs.Prelude.{All}
use Rattle.hc_base.specs.Lookup.{Among}
use Rattle.hc_transcript.specs.declared.reply.Ending.TheVariants.{Commit}
use Rattle.hc_meaning.specs.Runs.Cut.{Transaction}
use Rattle.hc_verdict.proofs.history.last_commit.Given as goal

abbrev pub invariant-loop-transaction : goal.invariant-loop-transaction
invariant-loop-transaction l = record {
  greatest : All (λ t. (k : ℕ) → t.ending ≡ Commit k → k ≤ l.last) (take l.transaction-index l.transactions);
  printed : 0 < l.last → (t : Transaction) × Among t l.transactions × (t.ending ≡ Commit l.last);
}
