-- A desk beside which another connection makes its events.
use Rattle.std.specs.Prelude.{◌≢◌, ℕ, None}
use Rattle.hc_core.specs.Account.{WhenOpen}
use Rattle.hc_core.specs.Machine.{Machine, txns_of}

-- no desk has made room for the writes of a connection's open transaction, so events may come for it
abbrev pub IsFree : Machine → ℕ → Type 0
IsFree m i = WhenOpen (txns_of m i) (λ t. t.weight ≢ None) → ⊥

-- the other connection is another one, and events may come for it
abbrev pub IsMeddled : ℕ → Machine → ℕ → Type 0
IsMeddled conn m other = (other ≢ conn) × IsFree m other
