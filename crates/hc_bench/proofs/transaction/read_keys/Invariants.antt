use Rattle.hc_txn.specs.Transactions.{IsOf}
use Rattle.hc_bench.proofs.transaction.read_keys.Given as goal

-- the transaction is of the desk still
abbrev pub invariant-loop-turn : goal.invariant-loop-turn
invariant-loop-turn g l = IsOf (g.D.Desk.account l.desk) l.txn
