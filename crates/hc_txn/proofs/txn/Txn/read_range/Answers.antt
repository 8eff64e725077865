use Rattle.std.proofs.Common.{◌∙◌, sym, subst, List, [], Result, Ok, Err, OnOk, ℕ}
use Rattle.std.proofs.lemmas.Bool.{true≢false}
use Rattle.std.proofs.lemmas.List.{append-nil}
use Rattle.hc_range.specs.Ranges.{InRange}
use Rattle.hc_range.specs.declared.range.Range.{Range}
use Rattle.hc_core.specs.declared.account.Entry.{Entry}
use Rattle.hc_core.specs.declared.cells.Cell.{Cell}
use Rattle.hc_core.specs.declared.cells.Write.{Write}
use Rattle.hc_txn.specs.Laying.{HasLaid, HasSeen}
use Rattle.hc_txn.specs.Stores.{Store, Agrees, HasExactly}
use Rattle.hc_txn.specs.Transactions.{Transaction, IsOf, reads_of}
use Rattle.hc_txn.proofs.Logging.{empty_range, empty_logged, exactly, of_logged, of_reads}
use Rattle.hc_txn.proofs.Seeing.{on_ok}
use Rattle.hc_txn.proofs.txn.Txn.read_range.Goals as goal

-- a range that is empty has no cells
nothing_seen : (own : List Write) (range : Range) (account : List Entry) (cells : List Cell) → ((key : List ℕ) → InRange range key → ⊥) → HasSeen own range account cells cells
nothing_seen own range account cells empty = ([], sym (append-nil cells), tt, λ store agrees key rec. (λ a. absurd a, λ h. absurd (empty key h.0)))

seen_when_ok : {T E : Type 0} (r : Result T E) (own : List Write) (range : Range) (account : List Entry) (found before after : List Cell) → OnOk r (HasLaid own range found before after)
    → ((store : Store) → Agrees (reads_of account) store → HasExactly store range found) → OnOk r (HasSeen own range account before after)
seen_when_ok (Ok t) own range account found before after h exact = (h.0, h.1, h.2, λ store agrees. h.3 store (exact store agrees))
seen_when_ok (Err f) own range account found before after h exact = h

pub returns-then-not-contains-clause-cells : goal.returns-then-not-contains-clause-cells
returns-then-not-contains-clause-cells g c =
    nothing_seen c.args.self.now.own c.args.range.now (g.D.Desk.account c.args.desk.now) c.args.out.now.cells
    (empty_range c.args.range.now (λ inside. true≢false (sym (c.contains.ensures.1 (subst (λ (lo : List ℕ). InRange c.args.range.now lo) (sym c.as_slice.ensures) inside)) ∙ c.if-not-contains.true)))

pub returns-then-not-contains-clause-log : goal.returns-then-not-contains-clause-log
returns-then-not-contains-clause-log g c =
    empty_logged c.args.range.now c.args.self.now.log
    (empty_range c.args.range.now (λ inside. true≢false (sym (c.contains.ensures.1 (subst (λ (lo : List ℕ). InRange c.args.range.now lo) (sym c.as_slice.ensures) inside)) ∙ c.if-not-contains.true)))

pub returns-in_err-read_logged-clause-of : goal.returns-in_err-read_logged-clause-of
returns-in_err-read_logged-clause-of g c =
    of_logged (g.D.Desk.conn c.args.desk.now) c.args.range.now (g.D.Desk.account c.args.desk.now) (g.D.Desk.account c.read_logged.new.desk) c.self.inside.snapshot.0 c.self.inside.log c.read_logged.new.log c.self.inside.own.kept
    (subst (λ (txn : Transaction). IsOf (g.D.Desk.account c.args.desk.now) txn) (sym c.self.view_is) c.requires.of) c.read_logged.ensures.logged

pub returns-clause-of : goal.returns-clause-of
returns-clause-of g c =
    of_logged (g.D.Desk.conn c.args.desk.now) c.args.range.now (g.D.Desk.account c.args.desk.now) (g.D.Desk.account c.read_logged.new.desk) c.self.inside.snapshot.0 c.self.inside.log c.read_logged.new.log c.self.inside.own.kept
    (subst (λ (txn : Transaction). IsOf (g.D.Desk.account c.args.desk.now) txn) (sym c.self.view_is) c.requires.of) c.read_logged.ensures.logged

pub returns-clause-log : goal.returns-clause-log
returns-clause-log g c = rw (← c.self.view_is) (on_ok c.lay_over.result c.in_ok-read_logged.ensures.whole)

pub returns-clause-cells : goal.returns-clause-cells
returns-clause-cells g c =
    rw (← c.self.view_is)
    (seen_when_ok c.lay_over.result c.self.inside.own.own c.args.range.now (g.D.Desk.account c.read_logged.new.desk) _ c.args.out.now.cells c.lay_over.new.out.cells c.lay_over.ensures
    (λ store agrees. exactly (g.D.Desk.conn c.args.desk.now) c.args.range.now (g.D.Desk.account c.args.desk.now) (g.D.Desk.account c.read_logged.new.desk) _ _ c.new.ensures
    (of_reads (g.D.Desk.account c.args.desk.now) c.args.self.now.snapshot c.args.self.now.log c.args.self.now.kept c.requires.of) c.in_ok-read_logged.ensures.read store agrees))
