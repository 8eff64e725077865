-- So far connection 0's transactions are those of the setup.
use Rattle.std.proofs.Common.{◌≡◌, ◌<◌, ℕ, Some}
use Rattle.std.specs.Prelude.{◌↔◌, slice_get}
use Rattle.hc_meaning.specs.Runs.Cut.{Transaction}
use Rattle.hc_verdict.proofs.order.is_setup_first.Given as goal

abbrev pub invariant-loop-k : goal.invariant-loop-k
invariant-loop-k l = (i : ℕ) (t : Transaction) → i < l.k → slice_get l.history i ≡ Some t → (t.conn ≡ 0) ↔ (i < l.setup)
