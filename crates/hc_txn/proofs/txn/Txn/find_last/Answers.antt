use Rattle.std.proofs.Common.{◌≡◌, ◌∙◌, sym, subst, ap, ℕ, List, Option}
use Rattle.hc_range.specs.declared.range.Range.{Range}
use Rattle.hc_range.specs.Ranges.{InRange}
use Rattle.hc_core.specs.declared.cells.Cell.{Cell}
use Rattle.hc_txn.specs.Lasts.{HasReadDown, IsLastSeen, later_cell, part_from}
use Rattle.hc_txn.specs.Transactions.{Transaction, IsOf, LogsRangeToo, LogsWithin}
use Rattle.hc_txn.proofs.LastRead.{within_of}
use Rattle.hc_txn.proofs.LastSeen.{last_seen, own_inside, part_later}
use Rattle.hc_txn.proofs.Logging.{of_logged, of_reads}
use Rattle.hc_txn.proofs.txn.Txn.find_last.Goals as goal

pub returns-clause-last : goal.returns-clause-last
returns-clause-last g c =
    rw (← c.self.view_is)
    (subst (λ (found : Option Cell). IsLastSeen c.self.inside.own.own c.args.range.now (g.D.Desk.account c.read_down.new.desk) found) (sym c.later_cell.ensures)
    (last_seen (g.D.Desk.conn c.args.desk.now) c.self.inside.own.own c.args.range.now c.in_ok-own.own c.in_ok-found.found (g.D.Desk.account c.args.desk.now) (g.D.Desk.account c.read_down.new.desk)
    (of_reads (g.D.Desk.account c.args.desk.now) c.args.self.now.snapshot c.args.self.now.log c.args.self.now.kept c.requires.of) c.in_ok-own.ensures c.in_ok-found.ensures.left
    (subst (λ (part : Range). HasReadDown (g.D.Desk.conn c.args.desk.now) c.self.inside.own.own part c.in_ok-found.found (g.D.Desk.account c.args.desk.now) (g.D.Desk.account c.read_down.new.desk)) c.in_ok-part.ensures
    c.in_ok-found.ensures.last)))

-- the part that was read lies in the range
pub returns-clause-log : goal.returns-clause-log
returns-clause-log g c =
    let down = subst (λ (part : Range). HasReadDown (g.D.Desk.conn c.args.desk.now) c.self.inside.own.own part c.in_ok-found.found (g.D.Desk.account c.args.desk.now) (g.D.Desk.account c.read_down.new.desk))
    c.in_ok-part.ensures c.in_ok-found.ensures.last in
    rw (← c.self.view_is)
    (subst (λ (part : Range). LogsRangeToo part c.self.inside.log c.read_down.new.log)
    (ap (λ (part : Range). part_from part c.in_ok-found.found) c.in_ok-part.ensures ∙ part_later c.args.range.now c.in_ok-own.own c.in_ok-found.found down.inside
    ∙ ap (part_from c.args.range.now) (sym c.later_cell.ensures))
    c.in_ok-found.ensures.whole)

pub returns-clause-of : goal.returns-clause-of
returns-clause-of g c =
    of_logged (g.D.Desk.conn c.args.desk.now) c.in_ok-part.part (g.D.Desk.account c.args.desk.now) (g.D.Desk.account c.read_down.new.desk) c.self.inside.snapshot.0 c.self.inside.log c.read_down.new.log c.self.inside.own.kept
    (subst (λ (txn : Transaction). IsOf (g.D.Desk.account c.args.desk.now) txn) (sym c.self.view_is) c.requires.of) c.in_ok-found.ensures.logged

pub returns-in_err-found-clause-of : goal.returns-in_err-found-clause-of
returns-in_err-found-clause-of g c =
    of_logged (g.D.Desk.conn c.args.desk.now) c.in_ok-part.part (g.D.Desk.account c.args.desk.now) (g.D.Desk.account c.read_down.new.desk) c.self.inside.snapshot.0 c.self.inside.log c.read_down.new.log c.self.inside.own.kept
    (subst (λ (txn : Transaction). IsOf (g.D.Desk.account c.args.desk.now) txn) (sym c.self.view_is) c.requires.of) c.in_err-found.ensures.logged

pub returns-in_err-found-clause-within : goal.returns-in_err-found-clause-within
returns-in_err-found-clause-within g c =
    rw (← c.self.view_is)
    (within_of (g.D.Desk.conn c.args.desk.now) c.args.range.now c.in_ok-part.part (g.D.Desk.account c.args.desk.now) (g.D.Desk.account c.read_down.new.desk) c.self.inside.log c.read_down.new.log c.in_err-found.ensures.logged
    (subst (λ (part : Range). (key : List ℕ) → InRange part key → InRange c.args.range.now key) (sym c.in_ok-part.ensures)
    (own_inside c.self.inside.own.own c.args.range.now c.in_ok-own.own c.in_ok-own.ensures)))

pub returns-clause-within : goal.returns-clause-within
returns-clause-within g c =
    rw (← c.self.view_is)
    (within_of (g.D.Desk.conn c.args.desk.now) c.args.range.now c.in_ok-part.part (g.D.Desk.account c.args.desk.now) (g.D.Desk.account c.read_down.new.desk) c.self.inside.log c.read_down.new.log c.in_ok-found.ensures.logged
    (subst (λ (part : Range). (key : List ℕ) → InRange part key → InRange c.args.range.now key) (sym c.in_ok-part.ensures)
    (own_inside c.self.inside.own.own c.args.range.now c.in_ok-own.own c.in_ok-own.ensures)))
