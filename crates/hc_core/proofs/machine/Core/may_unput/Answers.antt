use Rattle.std.proofs.Common.{◌≡◌, ◌∙◌, sym, true}
use Rattle.hc_core.specs.Account.{HasWritten}
use Rattle.hc_core.specs.Running.{Matches, holds_key}
use Rattle.hc_core.proofs.Conns.{of_both}
use Rattle.hc_core.proofs.Steps.{held_of, when_map, written_of}
use Rattle.hc_core.proofs.machine.Core.may_unput.Goals as goal

-- what is kept tells so
pub returns-then-running-eq0 : goal.returns-then-running-eq0
returns-then-running-eq0 c = (
  λ held. when_map (Matches c.in-Some.running.now) _ _ (λ t h. written_of c.in-Some.running.now t c.args.key.now h c.if-running-eq0.true (sym c.has.ensures ∙ held)) c.in-Some.ensures,
  λ enabled. c.has.ensures ∙ of_both (Matches c.in-Some.running.now) (λ t. HasWritten t c.args.key.now × (t.place ≡ 0)) (holds_key c.args.key.now c.in-Some.running.now.writes.put ≡ true) _
      c.in-Some.ensures enabled (λ t h q. held_of c.in-Some.running.now t c.args.key.now h q.1 q.0),
)
