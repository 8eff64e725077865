-- Each by computing. CREATE TABLE and CREATE INDEX.
use Rattle.std.proofs.Common.{refl}
use Rattle.hc_sql_examples.specs.Worked.{Holds}
use Rattle.hc_sql_examples.specs.Creates as worked
use Rattle.hc_sql_examples.proofs.Compute.{everything}

pub a_unique_index_over_repeats_is_refused : Holds worked.a_unique_index_over_repeats_is_refused
unfolding everything
a_unique_index_over_repeats_is_refused = record { written = refl; answered = refl; changed = refl; looked = refl }

pub a_unique_index_has_an_entry_for_each_row : Holds worked.a_unique_index_has_an_entry_for_each_row
unfolding everything
a_unique_index_has_an_entry_for_each_row = record { written = refl; answered = refl; changed = refl; looked = refl }

pub if_not_exists_reads_the_catalog_and_does_nothing : Holds worked.if_not_exists_reads_the_catalog_and_does_nothing
unfolding everything
if_not_exists_reads_the_catalog_and_does_nothing = record { written = refl; answered = refl; changed = refl; looked = refl }

pub a_tree_number_is_used_again : Holds worked.a_tree_number_is_used_again
unfolding everything
a_tree_number_is_used_again = record { written = refl; answered = refl; changed = refl; looked = refl }

pub no_tree_number_follows_the_last : Holds worked.no_tree_number_follows_the_last
unfolding everything
no_tree_number_follows_the_last = record { written = refl; answered = refl; changed = refl; looked = refl }

pub a_long_name_is_too_big_for_its_cell : Holds worked.a_long_name_is_too_big_for_its_cell
unfolding everything
a_long_name_is_too_big_for_its_cell = record { written = refl; answered = refl; changed = refl; looked = refl }

pub a_name_in_use_is_refused : Holds worked.a_name_in_use_is_refused
unfolding everything
a_name_in_use_is_refused = record { written = refl; answered = refl; changed = refl; looked = refl }

pub an_index_wants_its_table_first : Holds worked.an_index_wants_its_table_first
unfolding everything
an_index_wants_its_table_first = record { written = refl; answered = refl; changed = refl; looked = refl }
