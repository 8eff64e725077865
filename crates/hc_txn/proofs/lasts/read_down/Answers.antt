use Rattle.std.proofs.Common.{◌≡◌, sym, subst, ℕ, ◌<◌, Some, None, List, Option, rules}
use Rattle.hc_range.specs.declared.range.Range.{Range}
use Rattle.hc_range.specs.Ranges.{InRange}
use Rattle.hc_core.specs.Desk.{IsReading}
use Rattle.hc_core.specs.declared.cells.Cell.{Cell}
use Rattle.hc_txn.specs.Lasts.{HasReadDown, HasReadToLast, IsCellIn, part_from}
use Rattle.hc_txn.specs.Reading.{HasLogged}
use Rattle.hc_txn.specs.Stores.{latest}
use Rattle.hc_txn.specs.Transactions.{LogsRangeToo}
use Rattle.hc_txn.proofs.LastRead.{logged_more, part_below_inside, range_more}
use Rattle.hc_txn.proofs.LastSeen.{first_down, left_below, less_below, more_down}
use Rattle.hc_txn.proofs.Parts.{still_reading}
use Rattle.hc_txn.proofs.lasts.read_down.Goals as goal

pub loop-found-init : goal.loop-found-init
loop-found-init g c = record {
  read = first_down (g.D.Desk.conn c.args.desk.now) c.args.own.now.own c.args.range.now c.in_ok-found.found (g.D.Desk.account c.args.desk.now) (g.D.Desk.account c.read_last.new.desk) c.in_ok-found.ensures.last;
  logged = c.in_ok-found.ensures.logged;
  whole = c.in_ok-found.ensures.whole;
  on = c.in_ok-found.ensures.on;
}

pub read_last-requires-in-Some : goal.read_last-requires-in-Some
read_last-requires-in-Some g c = record {
  reading = subst IsReading (sym c.loop-found.invariant.read.grown)
      (still_reading (g.D.Desk.conn c.args.desk.now) c.loop-found.invariant.read.reads (g.D.Desk.account c.args.desk.now) c.requires.reading);
}

pub returns-in_err-found-2-clause-logged : goal.returns-in_err-found-2-clause-logged
returns-in_err-found-2-clause-logged g c =
    let at = subst (IsCellIn c.args.range.now) c.in-Some.is c.loop-found.invariant.read.inside in
    logged_more (g.D.Desk.conn c.args.desk.now) c.args.range.now c.in_ok-below.below (g.D.Desk.account c.args.desk.now) (g.D.Desk.account c.loop-found.desk) (g.D.Desk.account c.read_last-in-Some.new.desk)
    c.args.log.now c.loop-found.log c.read_last-in-Some.new.log c.loop-found.invariant.logged
    (subst (λ (n : ℕ). HasLogged n c.in_ok-below.below (g.D.Desk.account c.loop-found.desk) (g.D.Desk.account c.read_last-in-Some.new.desk) c.loop-found.log c.read_last-in-Some.new.log) c.loop-found.invariant.on.0
    c.in_err-found-2.ensures.logged)
    (λ key h. part_below_inside c.args.range.now c.in-Some.cell at key (subst (λ (part : Range). InRange part key) c.in_ok-below.ensures h))

pub loop-found-smaller : goal.loop-found-smaller
loop-found-smaller g c =
    let at = subst (IsCellIn c.args.range.now) c.in-Some.is c.loop-found.invariant.read.inside in
    subst (λ (found : Option Cell). left_below c.in_ok-found-2.found < left_below found) (sym c.in-Some.is)
    (less_below c.args.range.now c.in-Some.cell c.in_ok-found-2.found at (subst (λ (part : Range). IsCellIn part c.in_ok-found-2.found) c.in_ok-below.ensures c.in_ok-found-2.ensures.last.0))

pub loop-found-preserved : goal.loop-found-preserved
loop-found-preserved g c =
    let at = subst (IsCellIn c.args.range.now) c.in-Some.is c.loop-found.invariant.read.inside in
    let last = subst (λ (part : Range). HasReadToLast (g.D.Desk.conn c.args.desk.now) part c.in_ok-found-2.found (g.D.Desk.account c.loop-found.desk) (g.D.Desk.account c.read_last-in-Some.new.desk)) c.in_ok-below.ensures
    (subst (λ (n : ℕ). HasReadToLast n c.in_ok-below.below c.in_ok-found-2.found (g.D.Desk.account c.loop-found.desk) (g.D.Desk.account c.read_last-in-Some.new.desk)) c.loop-found.invariant.on.0 c.in_ok-found-2.ensures.last) in
    record {
      read = more_down (g.D.Desk.conn c.args.desk.now) c.args.own.now.own c.args.range.now c.in-Some.cell c.in_ok-found-2.found (g.D.Desk.account c.args.desk.now) (g.D.Desk.account c.loop-found.desk)
          (g.D.Desk.account c.read_last-in-Some.new.desk)
          (subst (λ (found : Option Cell). HasReadDown (g.D.Desk.conn c.args.desk.now) c.args.own.now.own c.args.range.now found (g.D.Desk.account c.args.desk.now) (g.D.Desk.account c.loop-found.desk)) c.in-Some.is
          c.loop-found.invariant.read)
          (subst (λ (key : List ℕ). latest c.args.own.now.own key ≡ Some None) c.as_slice.ensures (c.clears.ensures.0 c.if-not-clears.false))
          last;
      logged = logged_more (g.D.Desk.conn c.args.desk.now) c.args.range.now c.in_ok-below.below (g.D.Desk.account c.args.desk.now) (g.D.Desk.account c.loop-found.desk) (g.D.Desk.account c.read_last-in-Some.new.desk)
          c.args.log.now c.loop-found.log c.read_last-in-Some.new.log c.loop-found.invariant.logged
          (subst (λ (n : ℕ). HasLogged n c.in_ok-below.below (g.D.Desk.account c.loop-found.desk) (g.D.Desk.account c.read_last-in-Some.new.desk) c.loop-found.log c.read_last-in-Some.new.log) c.loop-found.invariant.on.0
          c.in_ok-found-2.ensures.logged)
          (λ key h. part_below_inside c.args.range.now c.in-Some.cell at key (subst (λ (part : Range). InRange part key) c.in_ok-below.ensures h));
      whole = range_more (g.D.Desk.conn c.args.desk.now) c.args.range.now c.in-Some.cell c.in_ok-found-2.found c.args.log.now c.loop-found.log c.read_last-in-Some.new.log at last.0
          (subst (λ (found : Option Cell). LogsRangeToo (part_from c.args.range.now found) c.args.log.now c.loop-found.log) c.in-Some.is c.loop-found.invariant.whole)
          (subst (λ (part : Range). LogsRangeToo (part_from part c.in_ok-found-2.found) c.loop-found.log c.read_last-in-Some.new.log) c.in_ok-below.ensures c.in_ok-found-2.ensures.whole);
      on = search rules;
    }
