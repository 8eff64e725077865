use Rattle.hc_txn.proofs.RangeEntries.{ordered_seen}
use Rattle.hc_txn.proofs.kept.net_of.Goals as goal

pub returns-in_err-push_net-clause-ordered : goal.returns-in_err-push_net-clause-ordered
returns-in_err-push_net-clause-ordered c = ordered_seen (λ k. k.items) c.args.tree.entries c.into_iter-key-iterator.ensures.into_iter_gives.5

pub returns-clause-ordered : goal.returns-clause-ordered
returns-clause-ordered c = ordered_seen (λ k. k.items) c.args.tree.entries c.into_iter-key-iterator.ensures.into_iter_gives.5
