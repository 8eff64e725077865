-- What is undecided and has put nothing says that it is rolled back, and ends.
use Rattle.std.proofs.Common.{sym, ap, subst, arith}
use Rattle.atomic_table.specs.Table.{Me}
use Rattle.hc_base.specs.declared.tid_word.TidWord.TheVariants.{RolledBack}
use Rattle.hc_rule.specs.declared.view.View.{View}
use Rattle.hc_rule.specs.Kinds.TidWord.{MayStoreTid}
use Rattle.hc_steps.specs.Own.{own_store}
use Rattle.hc_test_txns.proofs.Staged.{may_roll_back, may_end}
use Rattle.hc_test_txns.proofs.lone.Lone.roll_back.Goals as goal

pub set_state-requires : goal.set_state-requires
set_state-requires c =
    let y = c.args.self.now.grip in
    record {
      may = subst (λ n. MayStoreTid (own_store y.conn (RolledBack n c.args.self.now.ord) y.seat.me.0) y.seat.me.0) (sym c.from-conn.ensures)
          (may_roll_back y.conn c.args.t.0 c.args.self.now.ord y.seat.me.0 c.requires.drawn (omega (arith, y.dealt, y.ranged.seats), c.requires.ord.0, c.requires.ord.1));
    }

pub end-requires-clause-may : goal.end-requires-clause-may
end-requires-clause-may c =
    let y = c.args.self.now.grip in
    may_end c.args.t.0 c.args.self.now.ord 0 0 (RolledBack c.from-conn.result c.args.self.now.ord) y.seat.me.0 c.set_state.new.grip.seat.me.0 c.requires.drawn (ap (λ (m : Me Unit View). m.0) c.set_state.ensures.said)
