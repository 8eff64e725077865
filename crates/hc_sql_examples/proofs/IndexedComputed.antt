-- Each by computing. A table `u` with an index of two columns.
use Rattle.std.proofs.Common.{refl}
use Rattle.hc_sql_examples.specs.Worked.{Makes}
use Rattle.hc_sql_examples.specs.Indexed as worked
use Rattle.hc_sql_examples.proofs.Compute.{everything}
use Rattle.hc_sql_examples.proofs.Trees.{trees}

pub makes_unindexed : Makes worked.unindexed
unfolding everything
makes_unindexed = (refl, refl)

pub makes_with_index : Makes worked.with_index
unfolding everything
makes_with_index = (refl, refl)

pub makes_indexed : Makes worked.indexed
unfolding everything
makes_indexed = (simp trees, simp trees)
