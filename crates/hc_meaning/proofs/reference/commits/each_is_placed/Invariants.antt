-- Each so far is at its place.
use Rattle.std.proofs.Common.{◌≡◌, ◌-◌, ◌<◌, take, ℕ, Some}
use Rattle.std.specs.Prelude.{All, slice_get}
use Rattle.hc_transcript.specs.declared.reply.Ending.TheVariants.{Commit}
use Rattle.hc_meaning.proofs.reference.commits.each_is_placed.Given as goal

abbrev pub invariant-loop-transaction : goal.invariant-loop-transaction
invariant-loop-transaction l = All (λ t. (k : ℕ) → t.ending ≡ Commit k → (0 < k) × (slice_get l.history (k - 1) ≡ Some t)) (take l.transaction-index l.transactions)
