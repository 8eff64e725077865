-- Done: transactions of a connection before its next one.
use Rattle.std.specs.Prelude.{ℕ, ltb, Bool, true, ◌&&◌, List, [], ◌∷◌}
use Rattle.hc_core.specs.Account.{Txn}

-- each transaction has ended, and drew with an ordinal below this one, if at all
abbrev pub are_done : ℕ → List Txn → Bool
are_done number [] = true
are_done number (t ∷ ts) = t.ended && (ltb t.ord number && are_done number ts)
