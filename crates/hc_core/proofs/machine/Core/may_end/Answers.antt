use Rattle.std.proofs.Common.{◌≡◌, ◌≢◌, ◌⊎◌, [], true}
use Rattle.hc_core.specs.Running.{Matches}
use Rattle.hc_core.proofs.Conns.{of_both}
use Rattle.hc_core.proofs.Steps.{may_end_of, when_map}
use Rattle.hc_core.proofs.machine.Core.may_end.Goals as goal

-- what is kept tells so
pub returns-in-Some : goal.returns-in-Some
returns-in-Some c = (
  λ may. when_map (Matches c.in-Some.running.now) _ _ (λ t h. (may_end_of c.in-Some.running.now t h).0 (c.may_end.ensures.0 may)) c.in-Some.ensures,
  λ enabled. of_both (Matches c.in-Some.running.now) (λ t. (t.place ≢ 0) ⊎ (t.write_set ≡ [])) (c.may_end.result ≡ true) _ c.in-Some.ensures enabled
      (λ t h q. c.may_end.ensures.1 ((may_end_of c.in-Some.running.now t h).1 q)),
)
