use Rattle.std.proofs.Common.{inr, refl}
use Rattle.hc_core.proofs.Steps.{not_both_ways}
use Rattle.hc_core.proofs.Won.{decide_disabled, decide_enabled}
use Rattle.hc_core.proofs.machine.Core.decide.Goals as goal

-- it may not decide
pub returns-then-not-may_decide-clause-answer : goal.returns-then-not-may_decide-clause-answer
returns-then-not-may_decide-clause-answer c = inr (
  decide_disabled c.args.self.now c.args.conn c.in-Some.running.now c.in-Some.ensures c.requires.seen (λ may. not_both_ways _ (c.may_decide.ensures.1 may) c.if-not-may_decide.true),
  refl,
)

-- it may
pub settle-requires : goal.settle-requires
settle-requires c = record { enabled = decide_enabled c.args.self.now c.args.conn c.in-Some.running.now c.in-Some.ensures c.requires.seen (c.may_decide.ensures.0 c.if-not-may_decide.false) }
