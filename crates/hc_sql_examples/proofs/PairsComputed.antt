-- Each by computing. A table `t` of two columns, of which the first is the rowid.
use Rattle.std.proofs.Common.{refl}
use Rattle.hc_sql_examples.specs.Worked.{Makes}
use Rattle.hc_sql_examples.specs.Pairs as worked
use Rattle.hc_sql_examples.proofs.Compute.{everything}
use Rattle.hc_sql_examples.proofs.Trees.{trees}

pub makes_bare : Makes worked.bare
unfolding everything
makes_bare = (refl, refl)

pub makes_pairs : Makes worked.pairs
unfolding everything
makes_pairs = (simp trees, simp trees)

pub makes_emptied : Makes worked.emptied
unfolding everything
makes_emptied = (refl, refl)

pub makes_dropped : Makes worked.dropped
unfolding everything
makes_dropped = (refl, refl)

pub makes_full : Makes worked.full
unfolding everything
makes_full = (simp trees, simp trees)

pub makes_repeating : Makes worked.repeating
unfolding everything
makes_repeating = (simp trees, simp trees)
