-- Each of another connection so far counts the setup's commits.
use Rattle.std.proofs.Common.{◌≢◌, ◌≤◌, take}
use Rattle.std.specs.Prelude.{All}
use Rattle.hc_transcript.specs.Text.{ending_number}
use Rattle.hc_meaning.proofs.reference.order.others_count_setup.Given as goal

abbrev pub invariant-loop-transaction : goal.invariant-loop-transaction
invariant-loop-transaction l = All (λ t. t.conn ≢ 0 → l.setup ≤ ending_number t.ending) (take l.transaction-index l.transactions)
