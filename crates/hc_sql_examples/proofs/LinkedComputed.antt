-- Each by computing. Two tables `a` and `b`, whose first columns are their rowids. In `a` there is the greatest integer.
use Rattle.std.proofs.Common.{refl}
use Rattle.hc_sql_examples.specs.Worked.{Makes}
use Rattle.hc_sql_examples.specs.Linked as worked
use Rattle.hc_sql_examples.proofs.Compute.{everything}
use Rattle.hc_sql_examples.proofs.Trees.{trees}

pub makes_one_table : Makes worked.one_table
unfolding everything
makes_one_table = (refl, refl)

pub makes_two_tables : Makes worked.two_tables
unfolding everything
makes_two_tables = (refl, refl)

pub makes_half_linked : Makes worked.half_linked
unfolding everything
makes_half_linked = (simp trees, simp trees)

pub makes_linked : Makes worked.linked
unfolding everything
makes_linked = (simp trees, simp trees)
