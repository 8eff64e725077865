use Rattle.std.proofs.Common.{◌≡◌}
use Rattle.hc_core.specs.Account.{without}
use Rattle.hc_test_desks.proofs.guard.all_but.Given as goal

-- of those so far the others are there
abbrev pub invariant-loop-write : goal.invariant-loop-write
invariant-loop-write l = l.others.items ≡ without l.key l.yielded
