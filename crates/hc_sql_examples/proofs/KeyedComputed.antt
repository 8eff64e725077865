-- Each by computing. Tables with rules: `k` with a UNIQUE text, and `p` with a primary key of two columns.
use Rattle.std.proofs.Common.{refl}
use Rattle.hc_sql_examples.specs.Worked.{Makes}
use Rattle.hc_sql_examples.specs.Keyed as worked
use Rattle.hc_sql_examples.proofs.Compute.{everything}
use Rattle.hc_sql_examples.proofs.Trees.{trees}

pub makes_keyless : Makes worked.keyless
unfolding everything
makes_keyless = (refl, refl)

pub makes_keyed : Makes worked.keyed
unfolding everything
makes_keyed = (simp trees, simp trees)

pub makes_unpaired : Makes worked.unpaired
unfolding everything
makes_unpaired = (refl, refl)

pub makes_paired : Makes worked.paired
unfolding everything
makes_paired = (simp trees, simp trees)
