use Rattle.std.proofs.Common.{◌∙◌, sym, subst, ℕ, List, ◌<◌, arith}
use Rattle.hc_range.specs.Ranges.{InRange}
use Rattle.hc_core.specs.Desk.{GoesOn, HasChecked, HasMet, IsProposing, StopsIn, end_of}
use Rattle.hc_core.specs.declared.stop.Next.{Next}
use Rattle.hc_txn.specs.Reading.{IsPlace, StopsAt}
use Rattle.hc_txn.proofs.Ranks.{StopsAbove, left_above, less_left}
use Rattle.hc_commit.specs.Stages.{HasCheckedUpto}
use Rattle.hc_commit.proofs.Checking.{first_check, met_first, met_next, next_check, stops_above, stops_at, still_proposing}
use Rattle.hc_commit.proofs.proposal.check_range.Goals as goal

pub check_part-requires-in-More-clause-proposing : goal.check_part-requires-in-More-clause-proposing
check_part-requires-in-More-clause-proposing g c =
    subst IsProposing (sym c.loop-next.invariant.checked.1)
    (still_proposing (g.D.Desk.conn c.args.desk.now) c.loop-next.invariant.checked.0 (g.D.Desk.account c.args.desk.now) c.requires.proposing)

pub returns-in-Err-clause-met : goal.returns-in-Err-clause-met
returns-in-Err-clause-met g c =
    met_first (g.D.Desk.conn c.args.desk.now) c.args.range.now c.in-Err.met (g.D.Desk.account c.args.desk.now) (g.D.Desk.account c.check_part.new.self) c.requires.some
    (subst (λ (lo : List ℕ). HasMet (g.D.Desk.conn c.args.desk.now) lo c.args.range.now c.in-Err.met (g.D.Desk.account c.args.desk.now) (g.D.Desk.account c.check_part.new.self)) c.as_slice.ensures c.in-Err.ensures.met)

pub loop-next-init : goal.loop-next-init
loop-next-init g c =
    rw c.place-next.ensures.same
    (record {
      checked = first_check (g.D.Desk.conn c.args.desk.now) c.args.range.now c.in-Ok.first _ _
          (subst (λ (lo : List ℕ). HasChecked (g.D.Desk.conn c.args.desk.now) lo (end_of c.args.range.now c.in-Ok.first) (g.D.Desk.account c.args.desk.now) (g.D.Desk.account c.check_part.new.self)) c.as_slice.ensures c.in-Ok.ensures.entry);
      stop = stops_at c.as_slice.result.now c.args.range.now c.in-Ok.first c.in-Ok.ensures.stop;
      place = c.place-next.ensures.place;
      on = c.in-Ok.ensures.on;
    })

pub loop-next-smaller : goal.loop-next-smaller
loop-next-smaller g c =
    subst (λ (next : Next). left_above c.place-next-in-Ok-check_part.result < left_above next) (sym c.in-More.is)
    (less_left c.in-More.key c.place-next-in-Ok-check_part.result (subst IsPlace c.in-More.is c.loop-next.invariant.place)
    (subst IsPlace (sym c.place-next-in-Ok-check_part.ensures.same) c.place-next-in-Ok-check_part.ensures.place)
    (subst (λ (next : Next). StopsAbove c.in-More.key next) (sym c.place-next-in-Ok-check_part.ensures.same)
    (subst (λ (from : List ℕ). StopsAbove from c.in-Ok-check_part.more) c.as_slice-in-More.ensures.bytes
    (stops_above c.as_slice-in-More.result.now c.args.range.now c.in-Ok-check_part.more c.in-Ok-check_part.ensures.stop))))

pub loop-next-preserved : goal.loop-next-preserved
loop-next-preserved g c =
    let inside : InRange c.args.range.now c.in-More.key = subst (λ (next : Next). StopsAt c.args.range.now next) c.in-More.is c.loop-next.invariant.stop in
    let stop : StopsIn c.in-More.key c.args.range.now c.in-Ok-check_part.more =
    subst (λ (from : List ℕ). StopsIn from c.args.range.now c.in-Ok-check_part.more) c.as_slice-in-More.ensures.bytes c.in-Ok-check_part.ensures.stop in
    let on : GoesOn g.D.Desk.conn g.D.Desk.most g.D.Desk.seen g.D.Desk.later c.args.desk.now c.check_part-in-More.new.self =
    let a = c.loop-next.invariant.on in
    let b = c.in-Ok-check_part.ensures.on in
    (b.0 ∙ a.0, b.1 ∙ a.1, omega (arith, a.2, b.2), g.met.D.Desk.later_trans c.args.desk.now c.loop-next.desk c.check_part-in-More.new.self a.3 b.3) in
    rw c.place-next-in-Ok-check_part.ensures.same
    (record {
      checked = next_check (g.D.Desk.conn c.args.desk.now) c.args.range.now c.in-More.key c.in-Ok-check_part.more (g.D.Desk.account c.args.desk.now) (g.D.Desk.account c.loop-next.desk) _ inside stop
          (subst (λ (next : Next). HasCheckedUpto (g.D.Desk.conn c.args.desk.now) c.args.range.now next (g.D.Desk.account c.args.desk.now) (g.D.Desk.account c.loop-next.desk)) c.in-More.is c.loop-next.invariant.checked)
          (subst (λ (from : List ℕ). HasChecked (g.D.Desk.conn c.args.desk.now) from (end_of c.args.range.now c.in-Ok-check_part.more) (g.D.Desk.account c.loop-next.desk) (g.D.Desk.account c.check_part-in-More.new.self)) c.as_slice-in-More.ensures.bytes
          (subst (λ (conn : ℕ). HasChecked conn c.as_slice-in-More.result.now (end_of c.args.range.now c.in-Ok-check_part.more) (g.D.Desk.account c.loop-next.desk) (g.D.Desk.account c.check_part-in-More.new.self)) c.loop-next.invariant.on.0 c.in-Ok-check_part.ensures.entry));
      stop = stops_at c.in-More.key c.args.range.now c.in-Ok-check_part.more stop;
      place = c.place-next-in-Ok-check_part.ensures.place;
      on = on;
    })

pub returns-in-Err-check_part-clause-met : goal.returns-in-Err-check_part-clause-met
returns-in-Err-check_part-clause-met g c =
    let inside : InRange c.args.range.now c.in-More.key = subst (λ (next : Next). StopsAt c.args.range.now next) c.in-More.is c.loop-next.invariant.stop in
    met_next (g.D.Desk.conn c.args.desk.now) c.args.range.now c.in-More.key c.in-Err-check_part.met (g.D.Desk.account c.args.desk.now) (g.D.Desk.account c.loop-next.desk) (g.D.Desk.account c.check_part-in-More.new.self) inside
    (subst (λ (next : Next). HasCheckedUpto (g.D.Desk.conn c.args.desk.now) c.args.range.now next (g.D.Desk.account c.args.desk.now) (g.D.Desk.account c.loop-next.desk)) c.in-More.is c.loop-next.invariant.checked)
    (subst (λ (from : List ℕ). HasMet (g.D.Desk.conn c.args.desk.now) from c.args.range.now c.in-Err-check_part.met (g.D.Desk.account c.loop-next.desk) (g.D.Desk.account c.check_part-in-More.new.self)) c.as_slice-in-More.ensures.bytes
    (subst (λ (conn : ℕ). HasMet conn c.as_slice-in-More.result.now c.args.range.now c.in-Err-check_part.met (g.D.Desk.account c.loop-next.desk) (g.D.Desk.account c.check_part-in-More.new.self)) c.loop-next.invariant.on.0 c.in-Err-check_part.ensures.met))
