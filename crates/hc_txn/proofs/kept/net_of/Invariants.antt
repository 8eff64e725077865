use Rattle.std.proofs.Common.{◌≡◌, ◌++◌}
use Rattle.hc_txn.specs.Net.{net}
use Rattle.hc_txn.proofs.KeptEntries.{seen}
use Rattle.hc_txn.proofs.kept.net_of.Given as goal

-- those that were taken and those that are left are all
abbrev pub invariant-loop-key : goal.invariant-loop-key
invariant-loop-key l = l.writes.items ++ net (seen (λ k. k.items) l.key-iterator) ≡ net (seen (λ k. k.items) l.fn.tree.entries)
