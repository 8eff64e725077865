-- Each by computing. INSERT.
use Rattle.hc_sql_examples.specs.Worked.{Holds}
use Rattle.hc_sql_examples.specs.Inserts as worked
use Rattle.hc_sql_examples.proofs.Compute.{everything}
use Rattle.hc_sql_examples.proofs.Trees.{trees}

pub null_takes_an_automatic_rowid : Holds worked.null_takes_an_automatic_rowid
unfolding everything
null_takes_an_automatic_rowid = record { written = simp trees; answered = simp trees; changed = simp trees; looked = simp trees }

pub an_emptied_table_begins_at_one : Holds worked.an_emptied_table_begins_at_one
unfolding everything
an_emptied_table_begins_at_one = record { written = simp trees; answered = simp trees; changed = simp trees; looked = simp trees }

pub no_rowid_follows_the_greatest : Holds worked.no_rowid_follows_the_greatest
unfolding everything
no_rowid_follows_the_greatest = record { written = simp trees; answered = simp trees; changed = simp trees; looked = simp trees }

pub a_row_meets_one_of_its_own_statement : Holds worked.a_row_meets_one_of_its_own_statement
unfolding everything
a_row_meets_one_of_its_own_statement = record { written = simp trees; answered = simp trees; changed = simp trees; looked = simp trees }

pub a_repeat_comes_before_a_later_overflow : Holds worked.a_repeat_comes_before_a_later_overflow
unfolding everything
a_repeat_comes_before_a_later_overflow = record { written = simp trees; answered = simp trees; changed = simp trees; looked = simp trees }

pub nulls_are_different_in_a_unique_index : Holds worked.nulls_are_different_in_a_unique_index
unfolding everything
nulls_are_different_in_a_unique_index = record { written = simp trees; answered = simp trees; changed = simp trees; looked = simp trees }

pub a_text_twice_is_refused : Holds worked.a_text_twice_is_refused
unfolding everything
a_text_twice_is_refused = record { written = simp trees; answered = simp trees; changed = simp trees; looked = simp trees }

pub a_primary_key_comes_before_unique_columns : Holds worked.a_primary_key_comes_before_unique_columns
unfolding everything
a_primary_key_comes_before_unique_columns = record { written = simp trees; answered = simp trees; changed = simp trees; looked = simp trees }

pub a_column_of_the_primary_key_refuses_null : Holds worked.a_column_of_the_primary_key_refuses_null
unfolding everything
a_column_of_the_primary_key_refuses_null = record { written = simp trees; answered = simp trees; changed = simp trees; looked = simp trees }

pub two_values_for_three_columns_are_refused : Holds worked.two_values_for_three_columns_are_refused
unfolding everything
two_values_for_three_columns_are_refused = record { written = simp trees; answered = simp trees; changed = simp trees; looked = simp trees }
