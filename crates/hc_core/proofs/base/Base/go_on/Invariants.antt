use Rattle.std.proofs.Common.{◌≤◌, ◌-◌, length}
use Rattle.hc_core.specs.Base.{IsBased}
use Rattle.hc_core.proofs.base.Base.go_on.Given as goal

-- it is based on what was gone over
abbrev pub invariant-loop-self : goal.invariant-loop-self
invariant-loop-self l = IsBased l.self l.log

abbrev pub decreases-loop-self : goal.decreases-loop-self
decreases-loop-self l = l.upto - l.self.count
