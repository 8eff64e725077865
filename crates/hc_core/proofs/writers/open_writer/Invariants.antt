use Rattle.std.proofs.Common.{◌≡◌, ◌≢◌, ℕ, [], get_or, ◌<◌}
use Rattle.hc_core.specs.Account.{HasWritten, WhenOpen, txns}
use Rattle.hc_core.proofs.writers.open_writer.Given as goal

-- none looked at so far has the key, but perhaps the connection itself
abbrev pub invariant-loop-conn : goal.invariant-loop-conn
invariant-loop-conn l = (i : ℕ) → i < l.conn → i ≢ l.own → WhenOpen (txns (get_or l.conns i [])) (λ t. (t.place ≡ 0) × HasWritten t l.key) → ⊥
