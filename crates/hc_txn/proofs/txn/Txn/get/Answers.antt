use Rattle.std.proofs.Common.{sym, subst}
use Rattle.hc_txn.specs.Transactions.{Transaction, IsOf}
use Rattle.hc_txn.specs.Reading.{only}
use Rattle.hc_txn.proofs.Logging.{of_logged}
use Rattle.hc_txn.proofs.Seeing.{seen_there, logged_there, on_ok}
use Rattle.hc_txn.proofs.txn.Txn.get.Goals as goal

pub returns-in-Some-clause-found : goal.returns-in-Some-clause-found
returns-in-Some-clause-found g c =
    rw (← c.self.view_is) (seen_there (g.D.Desk.account c.args.desk.now) c.self.inside.snapshot.0 c.self.inside.log c.self.inside.own.kept
    (subst (λ (txn : Transaction). IsOf (g.D.Desk.account c.args.desk.now) txn) (sym c.self.view_is) c.requires.of)
    c.copy_seen.result c.self.inside.own.own c.args.key.now c.in-Some.kept.now.now c.in-Some.kept.now.before c.in-Some.ensures.kept c.in-Some.ensures.now c.copy_seen.ensures)

pub returns-in-Some-clause-log : goal.returns-in-Some-clause-log
returns-in-Some-clause-log g c =
    rw (← c.self.view_is) (on_ok c.copy_seen.result (logged_there (g.D.Desk.account c.args.desk.now) c.self.inside.snapshot.0 c.self.inside.log c.self.inside.own.kept
    (subst (λ (txn : Transaction). IsOf (g.D.Desk.account c.args.desk.now) txn) (sym c.self.view_is) c.requires.of) c.args.key.now c.in-Some.kept.now.before c.in-Some.ensures.kept))

pub returns-in-None-clause-of : goal.returns-in-None-clause-of
returns-in-None-clause-of g c =
    of_logged (g.D.Desk.conn c.args.desk.now) (only c.args.key.now) (g.D.Desk.account c.args.desk.now) _ c.self.inside.snapshot.0 c.self.inside.log c.read_key.new.log c.self.inside.own.kept
    (subst (λ (txn : Transaction). IsOf (g.D.Desk.account c.args.desk.now) txn) (sym c.self.view_is) c.requires.of) c.read_key.ensures.logged
