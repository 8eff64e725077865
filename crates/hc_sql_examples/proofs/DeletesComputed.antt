-- Each by computing. DELETE.
use Rattle.hc_sql_examples.specs.Worked.{Holds}
use Rattle.hc_sql_examples.specs.Deletes as worked
use Rattle.hc_sql_examples.proofs.Compute.{everything}
use Rattle.hc_sql_examples.proofs.Trees.{trees}

pub a_row_is_deleted_by_its_rowid : Holds worked.a_row_is_deleted_by_its_rowid
unfolding everything
a_row_is_deleted_by_its_rowid = record { written = simp trees; answered = simp trees; changed = simp trees; looked = simp trees }

pub an_overflow_deletes_nothing : Holds worked.an_overflow_deletes_nothing
unfolding everything
an_overflow_deletes_nothing = record { written = simp trees; answered = simp trees; changed = simp trees; looked = simp trees }

pub a_row_is_deleted_by_an_index : Holds worked.a_row_is_deleted_by_an_index
unfolding everything
a_row_is_deleted_by_an_index = record { written = simp trees; answered = simp trees; changed = simp trees; looked = simp trees }

pub a_missing_row_is_read_and_not_cleared : Holds worked.a_missing_row_is_read_and_not_cleared
unfolding everything
a_missing_row_is_read_and_not_cleared = record { written = simp trees; answered = simp trees; changed = simp trees; looked = simp trees }
