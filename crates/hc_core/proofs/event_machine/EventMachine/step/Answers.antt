use Rattle.hc_core.proofs.EventsAlone.{none_answered}
use Rattle.hc_core.proofs.event_machine.EventMachine.step.Goals as goal

-- no open transaction becomes a desk's
pub invariant_of-self : goal.invariant_of-self
invariant_of-self c = record { events = none_answered c.args.self.now.core c.step.new.self c.args.event.now c.step.result c.args.self.now.events c.step.ensures.after c.step.ensures.no_memory }
