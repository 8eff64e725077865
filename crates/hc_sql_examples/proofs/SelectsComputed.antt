-- Each by computing. SELECT.
use Rattle.std.proofs.Common.{refl}
use Rattle.hc_sql_examples.specs.Worked.{Holds}
use Rattle.hc_sql_examples.specs.Selects as worked
use Rattle.hc_sql_examples.proofs.Compute.{everything}
use Rattle.hc_sql_examples.proofs.Trees.{trees}

pub an_overflow_in_a_condition_ends_the_reading : Holds worked.an_overflow_in_a_condition_ends_the_reading
unfolding everything
an_overflow_in_a_condition_ends_the_reading = record { written = simp trees; answered = simp trees; changed = simp trees; looked = simp trees }

pub an_overflow_in_an_aggregate_ends_no_reading : Holds worked.an_overflow_in_an_aggregate_ends_no_reading
unfolding everything
an_overflow_in_an_aggregate_ends_no_reading = record { written = simp trees; answered = simp trees; changed = simp trees; looked = simp trees }

pub an_inner_path_is_read_for_each_outer_row : Holds worked.an_inner_path_is_read_for_each_outer_row
unfolding everything
an_inner_path_is_read_for_each_outer_row = record { written = simp trees; answered = simp trees; changed = simp trees; looked = simp trees }

pub an_empty_outer_table_reads_no_inner_one : Holds worked.an_empty_outer_table_reads_no_inner_one
unfolding everything
an_empty_outer_table_reads_no_inner_one = record { written = refl; answered = refl; changed = refl; looked = refl }

pub a_path_of_null_reads_nothing : Holds worked.a_path_of_null_reads_nothing
unfolding everything
a_path_of_null_reads_nothing = record { written = simp trees; answered = simp trees; changed = simp trees; looked = simp trees }

pub an_index_of_two_columns_keeps_the_order_of_rowids : Holds worked.an_index_of_two_columns_keeps_the_order_of_rowids
unfolding everything
an_index_of_two_columns_keeps_the_order_of_rowids = record { written = simp trees; answered = simp trees; changed = simp trees; looked = simp trees }

pub an_index_is_read_at_each_entry_of_its_loop : Holds worked.an_index_is_read_at_each_entry_of_its_loop
unfolding everything
an_index_is_read_at_each_entry_of_its_loop = record { written = simp trees; answered = simp trees; changed = simp trees; looked = simp trees }

pub aggregates_over_no_row_are_one_group : Holds worked.aggregates_over_no_row_are_one_group
unfolding everything
aggregates_over_no_row_are_one_group = record { written = simp trees; answered = simp trees; changed = simp trees; looked = simp trees }

pub no_row_makes_no_group : Holds worked.no_row_makes_no_group
unfolding everything
no_row_makes_no_group = record { written = simp trees; answered = simp trees; changed = simp trees; looked = simp trees }

pub aggregates_need_no_table : Holds worked.aggregates_need_no_table
unfolding everything
aggregates_need_no_table = record { written = simp trees; answered = simp trees; changed = simp trees; looked = simp trees }

pub a_refused_binding_reads_all_names : Holds worked.a_refused_binding_reads_all_names
unfolding everything
a_refused_binding_reads_all_names = record { written = refl; answered = refl; changed = refl; looked = refl }

pub a_key_turned_round_is_descending : Holds worked.a_key_turned_round_is_descending
unfolding everything
a_key_turned_round_is_descending = record { written = simp trees; answered = simp trees; changed = simp trees; looked = simp trees }

pub rows_in_descending_order_stay_so : Holds worked.rows_in_descending_order_stay_so
unfolding everything
rows_in_descending_order_stay_so = record { written = simp trees; answered = simp trees; changed = simp trees; looked = simp trees }
