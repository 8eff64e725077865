use Rattle.hc_sql_examples.proofs.DropsComputed.{if_exists_reads_the_catalog_and_does_nothing}
use Rattle.hc_sql_examples.proofs.drops.if_exists_reads_the_catalog_and_does_nothing.Goals as goal

pub returns : goal.returns
returns c = if_exists_reads_the_catalog_and_does_nothing
