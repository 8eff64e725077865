use Rattle.std.proofs.Common.{◌≡◌, None, drop}
use Rattle.hc_core.specs.Account.{part_of}
use Rattle.hc_core.specs.Commits.{AreShort, least_of}
use Rattle.hc_core.proofs.log.least_key.Given as goal

-- what is left is short, and gives what the whole gives
abbrev pub invariant-loop-commit : goal.invariant-loop-commit
invariant-loop-commit l = record {
  short : AreShort (drop l.commit-index l.log);
  same : least_of (part_of l.fn.from l.fn.upto) None l.log ≡ least_of (part_of l.fn.from l.fn.upto) l.least (drop l.commit-index l.log);
}
