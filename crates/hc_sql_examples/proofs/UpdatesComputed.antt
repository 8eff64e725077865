-- Each by computing. UPDATE.
use Rattle.hc_sql_examples.specs.Worked.{Holds}
use Rattle.hc_sql_examples.specs.Updates as worked
use Rattle.hc_sql_examples.proofs.Compute.{everything}
use Rattle.hc_sql_examples.proofs.Trees.{trees}

pub each_rowid_one_up_meets_the_next_row : Holds worked.each_rowid_one_up_meets_the_next_row
unfolding everything
each_rowid_one_up_meets_the_next_row = record { written = simp trees; answered = simp trees; changed = simp trees; looked = simp trees }

pub each_rowid_one_down_is_free : Holds worked.each_rowid_one_down_is_free
unfolding everything
each_rowid_one_down_is_free = record { written = simp trees; answered = simp trees; changed = simp trees; looked = simp trees }

pub a_new_rowid_moves_the_index_entry : Holds worked.a_new_rowid_moves_the_index_entry
unfolding everything
a_new_rowid_moves_the_index_entry = record { written = simp trees; answered = simp trees; changed = simp trees; looked = simp trees }

pub an_unchanged_index_entry_stays : Holds worked.an_unchanged_index_entry_stays
unfolding everything
an_unchanged_index_entry_stays = record { written = simp trees; answered = simp trees; changed = simp trees; looked = simp trees }

pub a_rowid_is_not_set_to_null : Holds worked.a_rowid_is_not_set_to_null
unfolding everything
a_rowid_is_not_set_to_null = record { written = simp trees; answered = simp trees; changed = simp trees; looked = simp trees }

pub an_overflow_in_set_changes_nothing : Holds worked.an_overflow_in_set_changes_nothing
unfolding everything
an_overflow_in_set_changes_nothing = record { written = simp trees; answered = simp trees; changed = simp trees; looked = simp trees }

pub a_text_is_moved_in_its_unique_index : Holds worked.a_text_is_moved_in_its_unique_index
unfolding everything
a_text_is_moved_in_its_unique_index = record { written = simp trees; answered = simp trees; changed = simp trees; looked = simp trees }
