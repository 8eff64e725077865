use Rattle.std.proofs.Common.{subst}
use Rattle.hc_txn.specs.Net.{IsNetOf}
use Rattle.hc_txn.specs.Transactions.{Transaction}
use Rattle.hc_txn.proofs.NetOf.{net_over}
use Rattle.hc_txn.proofs.txn.Txn.into_net.Goals as goal

pub returns-clause-net : goal.returns-clause-net
returns-clause-net c = λ account of store agrees.
    net_over c.args.self.own c.args.self.kept c.in_ok-writes.writes.items account c.args.self.snapshot c.args.self.log
    (subst (λ (txn : Transaction). IsNetOf txn.own txn.kept c.in_ok-writes.writes.items) c.self.view_is c.in_ok-writes.ensures) of store agrees
