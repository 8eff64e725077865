-- CREATE TABLE and CREATE INDEX.
use Rattle.std.specs.Prelude.{true, false, [], ◌∷◌, Some, codes}
use Rattle.hc_value.specs.declared.value.Value.TheVariants.{Null}
use Rattle.hc_value.specs.declared.storage.Class.TheVariants as class
use Rattle.hc_ast.specs.declared.statement.Stmt.TheVariants as stmt
use Rattle.hc_ast.specs.declared.table.ColumnRule.TheVariants.{PrimaryKey}
use Rattle.hc_transcript.specs.declared.refusal.Refusal.TheVariants as refusal
use Rattle.hc_schema.specs.declared.table.Table.{Table}
use Rattle.hc_schema.specs.declared.table.Index.{Index}
use Rattle.hc_schema.specs.declared.table.IndexKind.TheVariants as kind
use Rattle.hc_schema.specs.Cells.{whole_catalog, tree_range}
use Rattle.hc_sql_examples.specs.Worked.{Worked, Setup, Given, db_of}
use Rattle.hc_sql_examples.specs.Words.{int, at, filled, typed, defined, does, refuses, index_cell, catalog_cell, column_cell}
use Rattle.hc_sql_examples.specs.Pairs.{bare, pairs, dropped, repeating}
use Rattle.hc_sql_examples.specs.Indexed.{indexed}

abbrev pub unique_v : Index
unique_v = record { name = codes "i"; tree = 2; kind = kind.Unique; columns = 1 ∷ [] }

abbrev pub t_with_i : Table
t_with_i = record {
  name = codes "t";
  tree = 1;
  columns =
      typed (codes "id") class.Int true
      ∷ typed (codes "v") class.Int false
      ∷ [];
  alias = Some 0;
  indexes = unique_v ∷ [];
}

abbrev pub last_table : Table
last_table = record {
  name = codes "t";
  tree = 4294967295;
  columns =
      typed (codes "id") class.Int true
      ∷ typed (codes "v") class.Int false
      ∷ [];
  alias = Some 0;
  indexes = [];
}

-- a table with the last tree number
abbrev pub at_the_end : Setup
at_the_end = Given (filled last_table [] ∷ [])

-- NULLs are no repeats. The entries before the repeat are set by then; no range of the new index is read.
abbrev pub a_unique_index_over_repeats_is_refused : Worked
a_unique_index_over_repeats_is_refused = record {
  on = repeating;
  text = codes "CREATE UNIQUE INDEX \"i\" ON \"t\" ( \"v\" )";
  statement = stmt.CreateIndex true false (codes "i") (codes "t") (codes "v" ∷ []);
  reply = refuses (refusal.Unique (codes "t") (codes "i"));
  after = db_of repeating;
  reads = whole_catalog ∷ tree_range 1 ∷ index_cell 2 (int 10 ∷ []) 1 ∷ index_cell 2 (Null ∷ []) 2 ∷ index_cell 2 (Null ∷ []) 3 ∷ [];
}

-- Row after row its entry is set, and then the index's own cells.
abbrev pub a_unique_index_has_an_entry_for_each_row : Worked
a_unique_index_has_an_entry_for_each_row = record {
  on = pairs;
  text = codes "CREATE UNIQUE INDEX \"i\" ON \"t\" ( \"v\" )";
  statement = stmt.CreateIndex true false (codes "i") (codes "t") (codes "v" ∷ []);
  reply = does 0;
  after = filled t_with_i (at 1 (int 1 ∷ int 10 ∷ []) ∷ at 2 (int 2 ∷ int 20 ∷ []) ∷ []) ∷ [];
  reads = whole_catalog ∷ tree_range 1 ∷ index_cell 2 (int 10 ∷ []) 1 ∷ index_cell 2 (int 20 ∷ []) 2 ∷ catalog_cell (codes "t") 2 ∷ catalog_cell (codes "i") 0 ∷ [];
}

-- A table has the name, so not even the columns are looked at.
abbrev pub if_not_exists_reads_the_catalog_and_does_nothing : Worked
if_not_exists_reads_the_catalog_and_does_nothing = record {
  on = pairs;
  text = codes "CREATE TABLE IF NOT EXISTS \"t\" ( \"x\" INTEGER , \"x\" INTEGER ) STRICT";
  statement = stmt.CreateTable true (codes "t") (defined (codes "x") class.Int [] ∷ defined (codes "x") class.Int [] ∷ []) [];
  reply = does 0;
  after = db_of pairs;
  reads = whole_catalog ∷ [];
}

-- The table of tree 1 was dropped, so the next table has it again.
abbrev pub a_tree_number_is_used_again : Worked
a_tree_number_is_used_again = record {
  on = dropped;
  text = codes "CREATE TABLE \"t\" ( \"id\" INTEGER PRIMARY KEY , \"v\" INTEGER ) STRICT";
  statement = stmt.CreateTable false (codes "t") (defined (codes "id") class.Int (PrimaryKey ∷ []) ∷ defined (codes "v") class.Int [] ∷ []) [];
  reply = does 0;
  after = db_of bare;
  reads = whole_catalog ∷ catalog_cell (codes "t") 0 ∷ column_cell (codes "t") 1 ∷ column_cell (codes "t") 2 ∷ [];
}

-- After the greatest number of 32 bits there is none.
abbrev pub no_tree_number_follows_the_last : Worked
no_tree_number_follows_the_last = record {
  on = at_the_end;
  text = codes "CREATE TABLE \"x\" ( \"c\" INTEGER ) STRICT";
  statement = stmt.CreateTable false (codes "x") (defined (codes "c") class.Int [] ∷ []) [];
  reply = refuses refusal.Trees;
  after = db_of at_the_end;
  reads = whole_catalog ∷ [];
}

-- The table's own cell is the first in order of keys: 16 bytes, 238 of the key, 229 of the record.
abbrev pub a_long_name_is_too_big_for_its_cell : Worked
a_long_name_is_too_big_for_its_cell = record {
  on = pairs;
  text = codes "CREATE TABLE \"nnnnnnnnnnnnnnnnnnnnnnnnnnnnnnnnnnnnnnnnnnnnnnnnnnnnnnnnnnnnnnnnnnnnnnnnnnnnnnnnnnnnnnnnnnnnnnnnnnnnnnnnnnnnnnnnnnnnnnnnnnnnnnnnnnnnnnnnnnnnnnnnnnnnnnnnnnnnnnnnnnnnnnnnnnnnnnnnnnnnnnnnnnnnnnnnnnnnnnnnnnnnnnnnnnnnnnnnnnnnnn\" ( \"c\" INTEGER ) STRICT";
  statement = stmt.CreateTable false (codes "nnnnnnnnnnnnnnnnnnnnnnnnnnnnnnnnnnnnnnnnnnnnnnnnnnnnnnnnnnnnnnnnnnnnnnnnnnnnnnnnnnnnnnnnnnnnnnnnnnnnnnnnnnnnnnnnnnnnnnnnnnnnnnnnnnnnnnnnnnnnnnnnnnnnnnnnnnnnnnnnnnnnnnnnnnnnnnnnnnnnnnnnnnnnnnnnnnnnnnnnnnnnnnnnnnnnnnnnnnnnnn") (defined (codes "c") class.Int [] ∷ []) [];
  reply = refuses (refusal.TooBig 483);
  after = db_of pairs;
  reads = whole_catalog ∷ [];
}

-- Tables and indexes share one name space.
abbrev pub a_name_in_use_is_refused : Worked
a_name_in_use_is_refused = record {
  on = pairs;
  text = codes "CREATE INDEX \"t\" ON \"t\" ( \"v\" )";
  statement = stmt.CreateIndex false false (codes "t") (codes "t") (codes "v" ∷ []);
  reply = refuses (refusal.Exists (codes "t"));
  after = db_of pairs;
  reads = whole_catalog ∷ [];
}

-- The table is looked for before IF NOT EXISTS.
abbrev pub an_index_wants_its_table_first : Worked
an_index_wants_its_table_first = record {
  on = indexed;
  text = codes "CREATE INDEX IF NOT EXISTS \"ab\" ON \"nope\" ( \"a\" )";
  statement = stmt.CreateIndex false true (codes "ab") (codes "nope") (codes "a" ∷ []);
  reply = refuses (refusal.NoTable (codes "nope"));
  after = db_of indexed;
  reads = whole_catalog ∷ [];
}
