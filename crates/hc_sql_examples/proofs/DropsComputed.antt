-- Each by computing. DROP TABLE and DROP INDEX.
use Rattle.std.proofs.Common.{refl}
use Rattle.hc_sql_examples.specs.Worked.{Holds}
use Rattle.hc_sql_examples.specs.Drops as worked
use Rattle.hc_sql_examples.proofs.Compute.{everything}

pub a_table_goes_with_its_rows : Holds worked.a_table_goes_with_its_rows
unfolding everything
a_table_goes_with_its_rows = record { written = refl; answered = refl; changed = refl; looked = refl }

pub a_table_goes_with_the_names_of_its_automatic_indexes : Holds worked.a_table_goes_with_the_names_of_its_automatic_indexes
unfolding everything
a_table_goes_with_the_names_of_its_automatic_indexes = record { written = refl; answered = refl; changed = refl; looked = refl }

pub an_index_goes_alone : Holds worked.an_index_goes_alone
unfolding everything
an_index_goes_alone = record { written = refl; answered = refl; changed = refl; looked = refl }

pub an_automatic_index_is_not_dropped : Holds worked.an_automatic_index_is_not_dropped
unfolding everything
an_automatic_index_is_not_dropped = record { written = refl; answered = refl; changed = refl; looked = refl }

pub if_exists_reads_the_catalog_and_does_nothing : Holds worked.if_exists_reads_the_catalog_and_does_nothing
unfolding everything
if_exists_reads_the_catalog_and_does_nothing = record { written = refl; answered = refl; changed = refl; looked = refl }

pub a_missing_index_is_refused : Holds worked.a_missing_index_is_refused
unfolding everything
a_missing_index_is_refused = record { written = refl; answered = refl; changed = refl; looked = refl }
