use Rattle.std.proofs.Common.{sym, subst, rules}
use Rattle.std.proofs.lemmas.Result.{err_from_is_err_and}
use Rattle.hc_core.specs.Desk.{IsProposing}
use Rattle.hc_commit.proofs.Checking.{checked_next, met_at, some_at, still_proposing}
use Rattle.hc_commit.proofs.proposal.check_all.Goals as goal

pub check_range-requires-clause-proposing : goal.check_range-requires-clause-proposing
check_range-requires-clause-proposing g c =
    subst IsProposing (sym c.loop-range.invariant.checked.2)
    (still_proposing (g.D.Desk.conn c.args.desk.now) c.loop-range.invariant.checked.0 (g.D.Desk.account c.args.desk.now) c.requires.proposing)

pub check_range-requires-clause-some : goal.check_range-requires-clause-some
check_range-requires-clause-some g c =
    some_at (g.D.Desk.conn c.args.desk.now) c.args.log.now c.loop-range.range-index c.range-item.result c.loop-range-test.true c.range-item.is c.requires.normal

pub returns-in_err-check_range-clause-met : goal.returns-in_err-check_range-clause-met
returns-in_err-check_range-clause-met g c =
    let p = err_from_is_err_and c.from_residual.result c.from_residual.ensures.1 in
    rw (p.1, p.2)
    (met_at (g.D.Desk.conn c.args.desk.now) c.args.log.now c.loop-range.range-index c.range-item.result c.loop-range-test.true c.range-item.is c.requires.normal
    (g.D.Desk.conn c.loop-range.desk) c.loop-range.invariant.on.0 (g.D.Desk.account c.args.desk.now) (g.D.Desk.account c.loop-range.desk) (g.D.Desk.account c.check_range.new.desk)
    c.loop-range.invariant.checked c.in_err-check_range.field-0.0 c.in_err-check_range.ensures.met)

pub loop-range-preserved : goal.loop-range-preserved
loop-range-preserved g c = record {
  checked = checked_next (g.D.Desk.conn c.args.desk.now) c.args.log.now c.loop-range.range-index c.range-item.result c.loop-range-test.true c.range-item.is c.requires.normal
      (g.D.Desk.conn c.loop-range.desk) c.loop-range.invariant.on.0 (g.D.Desk.account c.args.desk.now) (g.D.Desk.account c.loop-range.desk) (g.D.Desk.account c.check_range.new.desk)
      c.loop-range.invariant.checked c.in_ok-check_range.ensures.checked;
  on = search rules;
}
