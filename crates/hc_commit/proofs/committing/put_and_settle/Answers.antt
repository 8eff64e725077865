use Rattle.std.proofs.Common.{sym, subst, List}
use Rattle.hc_core.specs.Account.{WhenOpen, txns}
use Rattle.hc_core.specs.declared.account.Entry.{Entry}
use Rattle.hc_commit.specs.Stages.{IsReady}
use Rattle.hc_commit.proofs.Ready.{puts_ready}
use Rattle.hc_commit.proofs.committing.put_and_settle.Goals as goal

pub settle_or_unput-requires-clause-ready : goal.settle_or_unput-requires-clause-ready
settle_or_unput-requires-clause-ready g c =
    subst (λ (a : List Entry). WhenOpen (txns a) (IsReady c.args.writes.now c.args.log.now)) (sym c.in_ok-put_all.ensures.put)
    (puts_ready (g.D.Desk.conn c.args.desk.now) c.args.writes.now c.args.log.now (g.D.Desk.account c.args.desk.now) c.requires.room)
