use Rattle.std.proofs.Common.{◌≡◌, drop}
use Rattle.hc_core.specs.Account.{part_of}
use Rattle.hc_core.specs.Commits.{AreShortWrites, least_with}
use Rattle.hc_core.proofs.log.least_among.Given as goal

-- what is left is short, and gives what the whole gives
abbrev pub invariant-loop-write : goal.invariant-loop-write
invariant-loop-write l = record {
  short : AreShortWrites (drop l.write-index l.writes);
  same : least_with (part_of l.fn.from l.fn.upto) l.fn.best l.writes ≡ least_with (part_of l.fn.from l.fn.upto) l.least (drop l.write-index l.writes);
}
