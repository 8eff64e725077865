-- INSERT.
use Rattle.std.specs.Prelude.{[], ◌∷◌, Some, None, codes}
use Rattle.hc_value.specs.declared.value.Value.TheVariants.{Null, Text}
use Rattle.hc_ast.specs.declared.operator.BinaryOp.TheVariants as op
use Rattle.hc_ast.specs.declared.expression.Expr.TheVariants as expr
use Rattle.hc_ast.specs.declared.statement.Stmt.TheVariants as stmt
use Rattle.hc_transcript.specs.declared.refusal.Refusal.TheVariants as refusal
use Rattle.hc_schema.specs.Cells.{catalog_range, tree_range, value_range}
use Rattle.hc_sql_examples.specs.Worked.{Worked, db_of}
use Rattle.hc_sql_examples.specs.Words.{int, at, filled, literal, nothing, row, does, refuses, row_cell, index_cell, from_row}
use Rattle.hc_sql_examples.specs.Pairs.{t, pairs, emptied, full}
use Rattle.hc_sql_examples.specs.Indexed.{indexed}
use Rattle.hc_sql_examples.specs.Keyed.{k, keyed, paired}

-- NULL for the rowid takes the one after the greatest: what is read is from the last row on.
abbrev pub null_takes_an_automatic_rowid : Worked
null_takes_an_automatic_rowid = record {
  on = pairs;
  text = codes "INSERT INTO \"t\" VALUES ( NULL , 30 )";
  statement = stmt.Insert (codes "t") None (row (nothing ∷ literal 30 ∷ []) ∷ []);
  reply = does 1;
  after = filled t (at 1 (int 1 ∷ int 10 ∷ []) ∷ at 2 (int 2 ∷ int 20 ∷ []) ∷ at 3 (int 3 ∷ int 30 ∷ []) ∷ []) ∷ [];
  reads = catalog_range (codes "t") ∷ from_row 1 2 ∷ row_cell 1 3 ∷ [];
}

-- After its rows were deleted, the first automatic rowid is 1 again, and the whole table is read.
abbrev pub an_emptied_table_begins_at_one : Worked
an_emptied_table_begins_at_one = record {
  on = emptied;
  text = codes "INSERT INTO \"t\" ( \"v\" ) VALUES ( 7 )";
  statement = stmt.Insert (codes "t") (Some (codes "v" ∷ [])) (row (literal 7 ∷ []) ∷ []);
  reply = does 1;
  after = filled t (at 1 (int 1 ∷ int 7 ∷ []) ∷ []) ∷ [];
  reads = catalog_range (codes "t") ∷ tree_range 1 ∷ row_cell 1 1 ∷ [];
}

-- After the greatest rowid there is none, and no other is tried.
abbrev pub no_rowid_follows_the_greatest : Worked
no_rowid_follows_the_greatest = record {
  on = full;
  text = codes "INSERT INTO \"t\" VALUES ( NULL , 1 )";
  statement = stmt.Insert (codes "t") None (row (nothing ∷ literal 1 ∷ []) ∷ []);
  reply = refuses (refusal.Rowid (codes "t"));
  after = db_of full;
  reads = catalog_range (codes "t") ∷ from_row 1 9223372036854775807 ∷ [];
}

-- A row is tested against the rows of its own statement: the second is refused, and nothing is left of the first.
abbrev pub a_row_meets_one_of_its_own_statement : Worked
a_row_meets_one_of_its_own_statement = record {
  on = pairs;
  text = codes "INSERT INTO \"t\" VALUES ( 3 , 0 ) , ( 3 , 1 )";
  statement = stmt.Insert (codes "t") None (row (literal 3 ∷ literal 0 ∷ []) ∷ row (literal 3 ∷ literal 1 ∷ []) ∷ []);
  reply = refuses (refusal.Primary (codes "t") (codes "id"));
  after = db_of pairs;
  reads = catalog_range (codes "t") ∷ row_cell 1 3 ∷ row_cell 1 3 ∷ row_cell 1 3 ∷ [];
}

-- The values of a row are computed as it is reached, so the repeat in the first row is found first.
abbrev pub a_repeat_comes_before_a_later_overflow : Worked
a_repeat_comes_before_a_later_overflow = record {
  on = pairs;
  text = codes "INSERT INTO \"t\" VALUES ( 1 , 0 ) , ( 3 , ( 9223372036854775807 + 1 ) )";
  statement = stmt.Insert (codes "t") None (row (literal 1 ∷ literal 0 ∷ []) ∷ row (literal 3 ∷ expr.Binary op.Add (literal 9223372036854775807) (literal 1) ∷ []) ∷ []);
  reply = refuses (refusal.Primary (codes "t") (codes "id"));
  after = db_of pairs;
  reads = catalog_range (codes "t") ∷ row_cell 1 1 ∷ [];
}

-- A NULL is tested against no row, so no range of the index is read.
abbrev pub nulls_are_different_in_a_unique_index : Worked
nulls_are_different_in_a_unique_index = record {
  on = keyed;
  text = codes "INSERT INTO \"k\" VALUES ( 3 , NULL )";
  statement = stmt.Insert (codes "k") None (row (literal 3 ∷ nothing ∷ []) ∷ []);
  reply = does 1;
  after = filled k (at 1 (int 1 ∷ Text (codes "a") ∷ []) ∷ at 2 (int 2 ∷ Null ∷ []) ∷ at 3 (int 3 ∷ Null ∷ []) ∷ []) ∷ [];
  reads = catalog_range (codes "k") ∷ row_cell 1 3 ∷ row_cell 1 3 ∷ index_cell 2 (Null ∷ []) 3 ∷ [];
}

-- The index's range of the text is read, and a row is there.
abbrev pub a_text_twice_is_refused : Worked
a_text_twice_is_refused = record {
  on = keyed;
  text = codes "INSERT INTO \"k\" VALUES ( 3 , 'a' )";
  statement = stmt.Insert (codes "k") None (row (literal 3 ∷ expr.Value (Text (codes "a")) ∷ []) ∷ []);
  reply = refuses (refusal.Unique (codes "k") (codes "sqlite_autoindex_k_1"));
  after = db_of keyed;
  reads = catalog_range (codes "k") ∷ row_cell 1 3 ∷ value_range 2 (Text (codes "a") ∷ []) ∷ [];
}

-- Both the primary key and the UNIQUE column made before it are broken: the primary key is tested first.
abbrev pub a_primary_key_comes_before_unique_columns : Worked
a_primary_key_comes_before_unique_columns = record {
  on = paired;
  text = codes "INSERT INTO \"p\" VALUES ( 1 , 2 )";
  statement = stmt.Insert (codes "p") None (row (literal 1 ∷ literal 2 ∷ []) ∷ []);
  reply = refuses (refusal.Primary (codes "p") (codes "sqlite_autoindex_p_2"));
  after = db_of paired;
  reads = catalog_range (codes "p") ∷ from_row 1 1 ∷ value_range 3 (int 1 ∷ int 2 ∷ []) ∷ [];
}

-- NOT NULL is tested after the rowid and before the keys.
abbrev pub a_column_of_the_primary_key_refuses_null : Worked
a_column_of_the_primary_key_refuses_null = record {
  on = paired;
  text = codes "INSERT INTO \"p\" VALUES ( NULL , 3 )";
  statement = stmt.Insert (codes "p") None (row (nothing ∷ literal 3 ∷ []) ∷ []);
  reply = refuses (refusal.NotNull (codes "p") (codes "x"));
  after = db_of paired;
  reads = catalog_range (codes "p") ∷ from_row 1 1 ∷ [];
}

-- The number of values is a fault of binding: only the name is read.
abbrev pub two_values_for_three_columns_are_refused : Worked
two_values_for_three_columns_are_refused = record {
  on = indexed;
  text = codes "INSERT INTO \"u\" VALUES ( 1 , 2 )";
  statement = stmt.Insert (codes "u") None (row (literal 1 ∷ literal 2 ∷ []) ∷ []);
  reply = refuses (refusal.Arity 2 3);
  after = db_of indexed;
  reads = catalog_range (codes "u") ∷ [];
}
