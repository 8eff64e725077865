-- SELECT.
use Rattle.std.specs.Prelude.{true, false, [], ◌∷◌, Some, None, codes}
use Rattle.hc_value.specs.declared.value.Value.TheVariants.{Null}
use Rattle.hc_ast.specs.declared.operator.BinaryOp.TheVariants as op
use Rattle.hc_ast.specs.declared.expression.Expr.TheVariants as expr
use Rattle.hc_ast.specs.declared.query.Item.TheVariants.{All}
use Rattle.hc_ast.specs.declared.statement.Stmt.TheVariants as stmt
use Rattle.hc_transcript.specs.declared.refusal.Refusal.TheVariants as refusal
use Rattle.hc_schema.specs.Cells.{catalog_range, tree_range, value_range}
use Rattle.hc_sql_examples.specs.Worked.{Worked, db_of}
use Rattle.hc_sql_examples.specs.Words.{int, literal, nothing, column, column_of, from, joined, one, query, shows, refuses, row_cell}
use Rattle.hc_sql_examples.specs.Pairs.{pairs}
use Rattle.hc_sql_examples.specs.Linked.{two_tables, linked}
use Rattle.hc_sql_examples.specs.Indexed.{indexed}

-- The condition overflows on the first candidate: the row of `b` for the second row of `a` is not read.
abbrev pub an_overflow_in_a_condition_ends_the_reading : Worked
an_overflow_in_a_condition_ends_the_reading = record {
  on = linked;
  text = codes "SELECT \"a\" . \"id\" FROM \"a\" JOIN \"b\" ON ( \"b\" . \"id\" = \"a\" . \"id\" ) WHERE ( ( \"a\" . \"v\" + 1 ) > 0 )";
  statement = stmt.Select (query (one (column_of (codes "a") (codes "id")) ∷ []) (from (codes "a") ∷ joined (codes "b") (expr.Binary op.Eq (column_of (codes "b") (codes "id")) (column_of (codes "a") (codes "id"))) ∷ []) (Some (expr.Binary op.Gt (expr.Binary op.Add (column_of (codes "a") (codes "v")) (literal 1)) (literal 0))));
  reply = refuses refusal.Overflow;
  after = db_of linked;
  reads = catalog_range (codes "a") ∷ catalog_range (codes "b") ∷ tree_range 1 ∷ row_cell 2 1 ∷ [];
}

-- An aggregate is computed when all candidates are found, so all paths were read.
abbrev pub an_overflow_in_an_aggregate_ends_no_reading : Worked
an_overflow_in_an_aggregate_ends_no_reading = record {
  on = linked;
  text = codes "SELECT \"sum\" ( \"a\" . \"v\" ) FROM \"a\" JOIN \"b\" ON ( \"b\" . \"id\" = \"a\" . \"id\" )";
  statement = stmt.Select (query (one (expr.Call (codes "sum") (column_of (codes "a") (codes "v") ∷ [])) ∷ []) (from (codes "a") ∷ joined (codes "b") (expr.Binary op.Eq (column_of (codes "b") (codes "id")) (column_of (codes "a") (codes "id"))) ∷ []) None);
  reply = refuses refusal.Overflow;
  after = db_of linked;
  reads = catalog_range (codes "a") ∷ catalog_range (codes "b") ∷ tree_range 1 ∷ row_cell 2 1 ∷ row_cell 2 2 ∷ [];
}

-- The path of `b` is read once for each row of `a`, also where it finds no row.
abbrev pub an_inner_path_is_read_for_each_outer_row : Worked
an_inner_path_is_read_for_each_outer_row = record {
  on = linked;
  text = codes "SELECT \"w\" FROM \"a\" JOIN \"b\" ON ( \"b\" . \"id\" = \"a\" . \"v\" )";
  statement = stmt.Select (query (one (column (codes "w")) ∷ []) (from (codes "a") ∷ joined (codes "b") (expr.Binary op.Eq (column_of (codes "b") (codes "id")) (column_of (codes "a") (codes "v"))) ∷ []) None);
  reply = shows ((int 5 ∷ []) ∷ []);
  after = db_of linked;
  reads = catalog_range (codes "a") ∷ catalog_range (codes "b") ∷ tree_range 1 ∷ row_cell 2 9223372036854775807 ∷ row_cell 2 1 ∷ [];
}

-- No row of `a` reaches the loop over `b`.
abbrev pub an_empty_outer_table_reads_no_inner_one : Worked
an_empty_outer_table_reads_no_inner_one = record {
  on = two_tables;
  text = codes "SELECT * FROM \"a\" , \"b\"";
  statement = stmt.Select (query (All ∷ []) (from (codes "a") ∷ from (codes "b") ∷ []) None);
  reply = shows [];
  after = db_of two_tables;
  reads = catalog_range (codes "a") ∷ catalog_range (codes "b") ∷ tree_range 1 ∷ [];
}

-- No rowid is NULL, and none is looked for.
abbrev pub a_path_of_null_reads_nothing : Worked
a_path_of_null_reads_nothing = record {
  on = pairs;
  text = codes "SELECT \"v\" FROM \"t\" WHERE ( \"id\" = NULL )";
  statement = stmt.Select (query (one (column (codes "v")) ∷ []) (from (codes "t") ∷ []) (Some (expr.Binary op.Eq (column (codes "id")) (nothing))));
  reply = shows [];
  after = db_of pairs;
  reads = catalog_range (codes "t") ∷ [];
}

-- The rows under 5 are in order of rowids and not of `b`. The index's range of 5 is read, and then the key of each row.
abbrev pub an_index_of_two_columns_keeps_the_order_of_rowids : Worked
an_index_of_two_columns_keeps_the_order_of_rowids = record {
  on = indexed;
  text = codes "SELECT \"id\" FROM \"u\" WHERE ( \"a\" = 5 )";
  statement = stmt.Select (query (one (column (codes "id")) ∷ []) (from (codes "u") ∷ []) (Some (expr.Binary op.Eq (column (codes "a")) (literal 5))));
  reply = shows ((int 1 ∷ []) ∷ (int 2 ∷ []) ∷ []);
  after = db_of indexed;
  reads = catalog_range (codes "u") ∷ value_range 2 (int 5 ∷ []) ∷ row_cell 1 1 ∷ row_cell 1 2 ∷ [];
}

-- The index is read at each entry of the inner loop, and then each row by its key: two rows of `x` have 5, and one has 6.
abbrev pub an_index_is_read_at_each_entry_of_its_loop : Worked
an_index_is_read_at_each_entry_of_its_loop = record {
  on = indexed;
  text = codes "SELECT \"x\" . \"id\" , \"u\" . \"id\" FROM \"u\" AS \"x\" JOIN \"u\" ON ( \"u\" . \"a\" = \"x\" . \"a\" ) ORDER BY 1 ASC , 2 ASC";
  statement = stmt.Select (record {
    distinct = false;
    items = one (column_of (codes "x") (codes "id")) ∷ one (column_of (codes "u") (codes "id")) ∷ [];
    tables =
        record { name = codes "u"; alias = Some (codes "x"); joined = false; on = None }
        ∷ joined (codes "u") (expr.Binary op.Eq (column_of (codes "u") (codes "a")) (column_of (codes "x") (codes "a"))) ∷ [];
    filter = None;
    groups = [];
    having = None;
    order = record { value = literal 1; desc = false } ∷ record { value = literal 2; desc = false } ∷ [];
    limit = None;
    offset = None;
  });
  reply = shows ((int 1 ∷ int 1 ∷ []) ∷ (int 1 ∷ int 2 ∷ []) ∷ (int 2 ∷ int 1 ∷ []) ∷ (int 2 ∷ int 2 ∷ []) ∷ (int 3 ∷ int 3 ∷ []) ∷ []);
  after = db_of indexed;
  reads =
      catalog_range (codes "u") ∷ catalog_range (codes "u") ∷ tree_range 1
      ∷ value_range 2 (int 5 ∷ []) ∷ row_cell 1 1 ∷ row_cell 1 2
      ∷ value_range 2 (int 5 ∷ []) ∷ row_cell 1 1 ∷ row_cell 1 2
      ∷ value_range 2 (int 6 ∷ []) ∷ row_cell 1 3 ∷ [];
}

-- Without GROUP BY there is one group, also of no row: it counts 0, and its sum is NULL.
abbrev pub aggregates_over_no_row_are_one_group : Worked
aggregates_over_no_row_are_one_group = record {
  on = pairs;
  text = codes "SELECT \"count\" ( * ) , \"sum\" ( \"v\" ) FROM \"t\" WHERE 0";
  statement = stmt.Select (query (one (expr.CallAll (codes "count")) ∷ one (expr.Call (codes "sum") (column (codes "v") ∷ [])) ∷ []) (from (codes "t") ∷ []) (Some (literal 0)));
  reply = shows ((int 0 ∷ Null ∷ []) ∷ []);
  after = db_of pairs;
  reads = catalog_range (codes "t") ∷ tree_range 1 ∷ [];
}

-- With GROUP BY there is no group of no row.
abbrev pub no_row_makes_no_group : Worked
no_row_makes_no_group = record {
  on = pairs;
  text = codes "SELECT \"count\" ( * ) FROM \"t\" WHERE 0 GROUP BY \"v\"";
  statement = stmt.Select (record { distinct = false; items = one (expr.CallAll (codes "count")) ∷ []; tables = from (codes "t") ∷ []; filter = Some (literal 0); groups = column (codes "v") ∷ []; having = None; order = []; limit = None; offset = None });
  reply = shows [];
  after = db_of pairs;
  reads = catalog_range (codes "t") ∷ tree_range 1 ∷ [];
}

-- Without FROM there is one candidate without columns, which the condition drops; nothing is read.
abbrev pub aggregates_need_no_table : Worked
aggregates_need_no_table = record {
  on = pairs;
  text = codes "SELECT \"count\" ( * ) , \"sum\" ( 1 ) WHERE 0";
  statement = stmt.Select (query (one (expr.CallAll (codes "count")) ∷ one (expr.Call (codes "sum") (literal 1 ∷ [])) ∷ []) ([]) (Some (literal 0)));
  reply = shows ((int 0 ∷ Null ∷ []) ∷ []);
  after = db_of pairs;
  reads = [];
}

-- The first table is missing; the catalog range of the second is read all the same.
abbrev pub a_refused_binding_reads_all_names : Worked
a_refused_binding_reads_all_names = record {
  on = pairs;
  text = codes "SELECT * FROM \"nope\" , \"t\"";
  statement = stmt.Select (query (All ∷ []) (from (codes "nope") ∷ from (codes "t") ∷ []) None);
  reply = refuses (refusal.NoTable (codes "nope"));
  after = db_of pairs;
  reads = catalog_range (codes "nope") ∷ catalog_range (codes "t") ∷ [];
}

-- Rows in descending order of `v`; the whole table is read.
abbrev pub a_key_turned_round_is_descending : Worked
a_key_turned_round_is_descending = record {
  on = pairs;
  text = codes "SELECT \"v\" FROM \"t\" ORDER BY \"v\" DESC";
  statement = stmt.Select (record { distinct = false; items = one (column (codes "v")) ∷ []; tables = from (codes "t") ∷ []; filter = None; groups = []; having = None; order = record { value = column (codes "v"); desc = true } ∷ []; limit = None; offset = None });
  reply = shows ((int 20 ∷ []) ∷ (int 10 ∷ []) ∷ []);
  after = db_of pairs;
  reads = catalog_range (codes "t") ∷ tree_range 1 ∷ [];
}

-- Rows that come in descending order stay so.
abbrev pub rows_in_descending_order_stay_so : Worked
rows_in_descending_order_stay_so = record {
  on = indexed;
  text = codes "SELECT \"b\" FROM \"u\" ORDER BY \"b\" DESC";
  statement = stmt.Select (record { distinct = false; items = one (column (codes "b")) ∷ []; tables = from (codes "u") ∷ []; filter = None; groups = []; having = None; order = record { value = column (codes "b"); desc = true } ∷ []; limit = None; offset = None });
  reply = shows ((int 9 ∷ []) ∷ (int 3 ∷ []) ∷ (int 1 ∷ []) ∷ []);
  after = db_of indexed;
  reads = catalog_range (codes "u") ∷ tree_range 1 ∷ [];
}
