-- UPDATE.
use Rattle.std.specs.Prelude.{[], ◌∷◌, Some, None, codes}
use Rattle.hc_value.specs.declared.value.Value.TheVariants.{Null, Text}
use Rattle.hc_ast.specs.declared.operator.BinaryOp.TheVariants as op
use Rattle.hc_ast.specs.declared.expression.Expr.TheVariants as expr
use Rattle.hc_ast.specs.declared.statement.Stmt.TheVariants as stmt
use Rattle.hc_transcript.specs.declared.refusal.Refusal.TheVariants as refusal
use Rattle.hc_schema.specs.Cells.{catalog_range, tree_range, value_range}
use Rattle.hc_sql_examples.specs.Worked.{Worked, db_of}
use Rattle.hc_sql_examples.specs.Words.{int, at, filled, literal, nothing, column, set, does, refuses, row_cell, index_cell}
use Rattle.hc_sql_examples.specs.Pairs.{t, pairs}
use Rattle.hc_sql_examples.specs.Linked.{linked}
use Rattle.hc_sql_examples.specs.Indexed.{u, indexed}
use Rattle.hc_sql_examples.specs.Keyed.{k, keyed}

-- Row after row: the first would take the rowid of the second, which is still there.
abbrev pub each_rowid_one_up_meets_the_next_row : Worked
each_rowid_one_up_meets_the_next_row = record {
  on = pairs;
  text = codes "UPDATE \"t\" SET \"id\" = ( \"id\" + 1 )";
  statement = stmt.Update (codes "t") (set (codes "id") (expr.Binary op.Add (column (codes "id")) (literal 1)) ∷ []) None;
  reply = refuses (refusal.Primary (codes "t") (codes "id"));
  after = db_of pairs;
  reads = catalog_range (codes "t") ∷ tree_range 1 ∷ row_cell 1 2 ∷ [];
}

-- Row after row: the second takes the rowid that the first has left.
abbrev pub each_rowid_one_down_is_free : Worked
each_rowid_one_down_is_free = record {
  on = pairs;
  text = codes "UPDATE \"t\" SET \"id\" = ( \"id\" - 1 )";
  statement = stmt.Update (codes "t") (set (codes "id") (expr.Binary op.Sub (column (codes "id")) (literal 1)) ∷ []) None;
  reply = does 2;
  after = filled t (at 0 (int 0 ∷ int 10 ∷ []) ∷ at 1 (int 1 ∷ int 20 ∷ []) ∷ []) ∷ [];
  reads = catalog_range (codes "t") ∷ tree_range 1 ∷ row_cell 1 0 ∷ row_cell 1 0 ∷ row_cell 1 1 ∷ row_cell 1 1 ∷ row_cell 1 1 ∷ row_cell 1 2 ∷ [];
}

-- The row's own cell and its entry in the index are set under the new rowid and cleared under the old one.
abbrev pub a_new_rowid_moves_the_index_entry : Worked
a_new_rowid_moves_the_index_entry = record {
  on = indexed;
  text = codes "UPDATE \"u\" SET \"id\" = 7 WHERE ( \"id\" = 1 )";
  statement = stmt.Update (codes "u") (set (codes "id") (literal 7) ∷ []) (Some (expr.Binary op.Eq (column (codes "id")) (literal 1)));
  reply = does 1;
  after = filled u (at 2 (int 2 ∷ int 5 ∷ int 3 ∷ []) ∷ at 3 (int 3 ∷ int 6 ∷ int 1 ∷ []) ∷ at 7 (int 7 ∷ int 5 ∷ int 9 ∷ []) ∷ []) ∷ [];
  reads = catalog_range (codes "u") ∷ row_cell 1 1 ∷ row_cell 1 7 ∷ row_cell 1 7 ∷ index_cell 2 (int 5 ∷ int 9 ∷ []) 7 ∷ row_cell 1 1 ∷ index_cell 2 (int 5 ∷ int 9 ∷ []) 1 ∷ [];
}

-- Only the row's own cell is set where no column of the index changes.
abbrev pub an_unchanged_index_entry_stays : Worked
an_unchanged_index_entry_stays = record {
  on = pairs;
  text = codes "UPDATE \"t\" SET \"v\" = 10 WHERE ( \"id\" = 1 )";
  statement = stmt.Update (codes "t") (set (codes "v") (literal 10) ∷ []) (Some (expr.Binary op.Eq (column (codes "id")) (literal 1)));
  reply = does 1;
  after = db_of pairs;
  reads = catalog_range (codes "t") ∷ row_cell 1 1 ∷ row_cell 1 1 ∷ [];
}

-- NULL for the rowid is refused as for any column that refuses NULL.
abbrev pub a_rowid_is_not_set_to_null : Worked
a_rowid_is_not_set_to_null = record {
  on = pairs;
  text = codes "UPDATE \"t\" SET \"id\" = NULL WHERE ( \"id\" = 1 )";
  statement = stmt.Update (codes "t") (set (codes "id") (nothing) ∷ []) (Some (expr.Binary op.Eq (column (codes "id")) (literal 1)));
  reply = refuses (refusal.NotNull (codes "t") (codes "id"));
  after = db_of pairs;
  reads = catalog_range (codes "t") ∷ row_cell 1 1 ∷ [];
}

-- All new values are computed before the first row is changed.
abbrev pub an_overflow_in_set_changes_nothing : Worked
an_overflow_in_set_changes_nothing = record {
  on = linked;
  text = codes "UPDATE \"a\" SET \"v\" = ( \"v\" + 1 )";
  statement = stmt.Update (codes "a") (set (codes "v") (expr.Binary op.Add (column (codes "v")) (literal 1)) ∷ []) None;
  reply = refuses refusal.Overflow;
  after = db_of linked;
  reads = catalog_range (codes "a") ∷ tree_range 1 ∷ [];
}

-- The index's range of the new text is read; its entry is set, and the old one cleared.
abbrev pub a_text_is_moved_in_its_unique_index : Worked
a_text_is_moved_in_its_unique_index = record {
  on = keyed;
  text = codes "UPDATE \"k\" SET \"e\" = 'b' WHERE ( \"id\" = 1 )";
  statement = stmt.Update (codes "k") (set (codes "e") (expr.Value (Text (codes "b"))) ∷ []) (Some (expr.Binary op.Eq (column (codes "id")) (literal 1)));
  reply = does 1;
  after = filled k (at 1 (int 1 ∷ Text (codes "b") ∷ []) ∷ at 2 (int 2 ∷ Null ∷ []) ∷ []) ∷ [];
  reads = catalog_range (codes "k") ∷ row_cell 1 1 ∷ value_range 2 (Text (codes "b") ∷ []) ∷ row_cell 1 1 ∷ index_cell 2 (Text (codes "b") ∷ []) 1 ∷ index_cell 2 (Text (codes "a") ∷ []) 1 ∷ [];
}
