use Rattle.std.proofs.Common.{sym, subst, List}
use Rattle.hc_core.specs.Account.{HoldsKey}
use Rattle.hc_base.specs.Lookup.{Among}
use Rattle.hc_core.specs.declared.cells.Write.{Write}
use Rattle.hc_test_desks.proofs.Guards.{may_propose, writer}
use Rattle.hc_test_desks.proofs.guard.Guard.propose.Goals as goal

pub propose-number-requires : goal.propose-number-requires
propose-number-requires g c = record {
  put = may_propose c.args.self.now (g.D.Desk.account c.args.desk.now)
      (writer c.args.self.now c.args.self.now.stage (g.D.Desk.account c.args.desk.now) c.in-Writing.is c.requires.0)
      (λ w there. subst (λ (ws : List Write). HoldsKey ws w.key) c.as_slice-2.ensures.value
      (c.are_all_put.ensures c.if-not-are_all_put.false w (subst (Among w) (sym c.as_slice.ensures.value) there)));
}
