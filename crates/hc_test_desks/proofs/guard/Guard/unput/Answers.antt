use Rattle.std.proofs.Common.{◌∙◌, sym, ap}
use Rattle.hc_core.specs.Running.{holds_key}
use Rattle.hc_test_desks.proofs.Guards.{may_unput, writer}
use Rattle.hc_test_desks.proofs.guard.Guard.unput.Goals as goal

pub unput-requires : goal.unput-requires
unput-requires g c = record {
  put = may_unput c.args.self.now (g.D.Desk.account c.args.desk.now) c.args.key.now
      (writer c.args.self.now c.args.self.now.stage (g.D.Desk.account c.args.desk.now) c.in-Writing.is c.requires.0)
      (ap (holds_key c.args.key.now) (sym c.as_slice.ensures.value) ∙ sym c.has_key.ensures ∙ c.if-not-has_key.false);
}
