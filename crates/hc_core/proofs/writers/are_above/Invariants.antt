use Rattle.std.proofs.Common.{ℕ, [], get_or, ◌<◌, ◌≤◌}
use Rattle.hc_core.specs.Account.{WhenOpen, txns}
use Rattle.hc_core.proofs.writers.are_above.Given as goal

-- each looked at so far sees the commit
abbrev pub invariant-loop-each : goal.invariant-loop-each
invariant-loop-each l = (i : ℕ) → i < l.each-index → WhenOpen (txns (get_or l.conns i [])) (λ t. t.snapshot ≤ l.place) → ⊥
