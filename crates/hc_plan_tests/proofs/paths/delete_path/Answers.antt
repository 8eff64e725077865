use Rattle.std.proofs.Common.{arith}
use Rattle.hc_plan_tests.proofs.paths.delete_path.Goals as goal

pub path-requires : goal.path-requires
path-requires c = (omega (arith, c.requires.conjuncts), omega (arith, c.requires.indexes))
