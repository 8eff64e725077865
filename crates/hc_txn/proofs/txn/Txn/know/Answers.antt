use Rattle.std.proofs.Common.{◌≡◌, sym, subst, ℕ, List, Option, Result, Ok, Err, inl, inr, refl, OnOk, OnErr, ◌⊎◌, ◌↔◌}
use Rattle.hc_range.specs.declared.range.Range.{Range}
use Rattle.hc_core.specs.Account.{HoldsKey, LiesInRead}
use Rattle.hc_base.specs.Lookup.{Among}
use Rattle.hc_core.specs.declared.account.Entry.{Entry}
use Rattle.hc_core.specs.declared.cells.Write.{Write}
use Rattle.hc_txn.specs.Transactions.{Transaction, IsOf, IsReadAs, reads_of}
use Rattle.hc_txn.specs.Reading.{IsFoundAt, only}
use Rattle.hc_txn.proofs.Logging.{of_logged}
use Rattle.hc_txn.proofs.Seeing.{of_kept, logged_there}
use Rattle.hc_txn.proofs.txn.Txn.know.Goals as goal

known_as : {T E : Type 0} (r : Result T E) (key : List ℕ) (before : Option (List ℕ)) (kept more : List Write)
    → OnOk r ((w : Write) → Among w more ↔ ((w ≡ record { key = key; rec = before }) ⊎ Among w kept)) → OnOk r (HoldsKey more key)
known_as (Ok t) key before kept more h = (before, (h (record { key = key; rec = before })).1 (inl refl))
known_as (Err f) key before kept more h = tt

-- whether or not there was memory to keep the record, the transaction is of the desk
of_either : {T E : Type 0} (r : Result T E) (account : List Entry) (snapshot : ℕ) (log : List Range) (kept more : List Write) (key : List ℕ) (before : Option (List ℕ))
    → IsReadAs account snapshot log kept → IsFoundAt account key before → LiesInRead (reads_of account) key
    → OnOk r ((w : Write) → Among w more ↔ ((w ≡ record { key = key; rec = before }) ⊎ Among w kept)) → OnErr r (more ≡ kept)
    → IsReadAs account snapshot log more
of_either (Ok t) account snapshot log kept more key before h found lies ok err = of_kept account snapshot log kept h key before more found lies (λ w a. (ok w).0 a)
of_either (Err f) account snapshot log kept more key before h found lies ok err = subst (λ (ws : List Write). IsReadAs account snapshot log ws) (sym err) h

pub returns-clause-known : goal.returns-clause-known
returns-clause-known g c = known_as c.add.result c.args.key.now c.in_ok-before.before c.self.inside.own.kept c.add.new.self.kept c.add.ensures.kept

pub returns-clause-of : goal.returns-clause-of
returns-clause-of g c =
    let of = of_logged (g.D.Desk.conn c.args.desk.now) (only c.args.key.now) (g.D.Desk.account c.args.desk.now) (g.D.Desk.account c.read_key.new.desk) c.self.inside.snapshot.0 c.self.inside.log c.read_key.new.log c.self.inside.own.kept
    (subst (λ (txn : Transaction). IsOf (g.D.Desk.account c.args.desk.now) txn) (sym c.self.view_is) c.requires.of) c.read_key.ensures.logged in
    of_either c.add.result (g.D.Desk.account c.read_key.new.desk) c.self.inside.snapshot.0 c.read_key.new.log c.self.inside.own.kept c.add.new.self.kept c.args.key.now c.in_ok-before.before
    of c.in_ok-before.ensures.found
    ((of.log c.args.key.now).0 ((c.in_ok-before.ensures.whole c.args.key.now).1 (inr refl)))
    c.add.ensures.kept c.add.ensures.no_memory

pub returns-in-Some-clause-known : goal.returns-in-Some-clause-known
returns-in-Some-clause-known g c = rw (← c.self.view_is) (c.in-Some._kept.now.before, c.in-Some.ensures.kept)

pub returns-in-Some-clause-log : goal.returns-in-Some-clause-log
returns-in-Some-clause-log g c =
    rw (← c.self.view_is) (logged_there (g.D.Desk.account c.args.desk.now) c.self.inside.snapshot.0 c.self.inside.log c.self.inside.own.kept
    (subst (λ (txn : Transaction). IsOf (g.D.Desk.account c.args.desk.now) txn) (sym c.self.view_is) c.requires.of) c.args.key.now c.in-Some._kept.now.before c.in-Some.ensures.kept)

pub returns-in_err-before-clause-of : goal.returns-in_err-before-clause-of
returns-in_err-before-clause-of g c =
    of_logged (g.D.Desk.conn c.args.desk.now) (only c.args.key.now) (g.D.Desk.account c.args.desk.now) (g.D.Desk.account c.read_key.new.desk) c.self.inside.snapshot.0 c.self.inside.log c.read_key.new.log c.self.inside.own.kept
    (subst (λ (txn : Transaction). IsOf (g.D.Desk.account c.args.desk.now) txn) (sym c.self.view_is) c.requires.of) c.read_key.ensures.logged
