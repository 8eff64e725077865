-- Each so far is legal.
use Rattle.std.proofs.Common.{◌≡◌, ◌<◌, ℕ, Some}
use Rattle.std.specs.Prelude.{slice_get}
use Rattle.hc_meaning.specs.History.{state, IsLegalAt}
use Rattle.hc_meaning.specs.declared.transaction.Transaction.{Transaction}
use Rattle.hc_meaning.proofs.reference.answers.is_legal.Given as goal

abbrev pub invariant-loop-k : goal.invariant-loop-k
invariant-loop-k l = (i : ℕ) (t : Transaction) → i < l.k → slice_get l.history i ≡ Some t → IsLegalAt (state l.history i) t
