-- DELETE.
use Rattle.std.specs.Prelude.{[], ◌∷◌, Some, codes}
use Rattle.hc_ast.specs.declared.operator.BinaryOp.TheVariants as op
use Rattle.hc_ast.specs.declared.expression.Expr.TheVariants as expr
use Rattle.hc_ast.specs.declared.statement.Stmt.TheVariants as stmt
use Rattle.hc_transcript.specs.declared.refusal.Refusal.TheVariants as refusal
use Rattle.hc_schema.specs.Cells.{catalog_range, tree_range, value_range}
use Rattle.hc_sql_examples.specs.Worked.{Worked, db_of}
use Rattle.hc_sql_examples.specs.Words.{int, at, filled, literal, column, does, refuses, row_cell, index_cell}
use Rattle.hc_sql_examples.specs.Pairs.{t, pairs}
use Rattle.hc_sql_examples.specs.Linked.{linked}
use Rattle.hc_sql_examples.specs.Indexed.{u, indexed}

-- Its key is read, and cleared.
abbrev pub a_row_is_deleted_by_its_rowid : Worked
a_row_is_deleted_by_its_rowid = record {
  on = pairs;
  text = codes "DELETE FROM \"t\" WHERE ( \"id\" = 2 )";
  statement = stmt.Delete (codes "t") (Some (expr.Binary op.Eq (column (codes "id")) (literal 2)));
  reply = does 1;
  after = filled t (at 1 (int 1 ∷ int 10 ∷ []) ∷ []) ∷ [];
  reads = catalog_range (codes "t") ∷ row_cell 1 2 ∷ row_cell 1 2 ∷ [];
}

-- The condition is evaluated on all rows before the first is deleted.
abbrev pub an_overflow_deletes_nothing : Worked
an_overflow_deletes_nothing = record {
  on = linked;
  text = codes "DELETE FROM \"a\" WHERE ( ( \"v\" + 1 ) > 0 )";
  statement = stmt.Delete (codes "a") (Some (expr.Binary op.Gt (expr.Binary op.Add (column (codes "v")) (literal 1)) (literal 0)));
  reply = refuses refusal.Overflow;
  after = db_of linked;
  reads = catalog_range (codes "a") ∷ tree_range 1 ∷ [];
}

-- The index's range is read, then the row; both cells are cleared.
abbrev pub a_row_is_deleted_by_an_index : Worked
a_row_is_deleted_by_an_index = record {
  on = indexed;
  text = codes "DELETE FROM \"u\" WHERE ( \"a\" = 6 )";
  statement = stmt.Delete (codes "u") (Some (expr.Binary op.Eq (column (codes "a")) (literal 6)));
  reply = does 1;
  after = filled u (at 1 (int 1 ∷ int 5 ∷ int 9 ∷ []) ∷ at 2 (int 2 ∷ int 5 ∷ int 3 ∷ []) ∷ []) ∷ [];
  reads = catalog_range (codes "u") ∷ value_range 2 (int 6 ∷ []) ∷ row_cell 1 3 ∷ row_cell 1 3 ∷ index_cell 2 (int 6 ∷ int 1 ∷ []) 3 ∷ [];
}

-- Its key is read, and nothing is there.
abbrev pub a_missing_row_is_read_and_not_cleared : Worked
a_missing_row_is_read_and_not_cleared = record {
  on = pairs;
  text = codes "DELETE FROM \"t\" WHERE ( \"id\" = 9 )";
  statement = stmt.Delete (codes "t") (Some (expr.Binary op.Eq (column (codes "id")) (literal 9)));
  reply = does 0;
  after = db_of pairs;
  reads = catalog_range (codes "t") ∷ row_cell 1 9 ∷ [];
}
