-- DROP TABLE and DROP INDEX.
use Rattle.std.specs.Prelude.{true, false, [], ◌∷◌, codes}
use Rattle.hc_ast.specs.declared.statement.Stmt.TheVariants as stmt
use Rattle.hc_transcript.specs.declared.refusal.Refusal.TheVariants as refusal
use Rattle.hc_schema.specs.Cells.{whole_catalog, tree_range}
use Rattle.hc_sql_examples.specs.Worked.{Worked, db_of}
use Rattle.hc_sql_examples.specs.Words.{int, at, filled, does, refuses, catalog_cell, column_cell}
use Rattle.hc_sql_examples.specs.Pairs.{pairs}
use Rattle.hc_sql_examples.specs.Indexed.{plain_u, indexed}
use Rattle.hc_sql_examples.specs.Keyed.{keyed}

-- Its range and its catalog cells are cleared.
abbrev pub a_table_goes_with_its_rows : Worked
a_table_goes_with_its_rows = record {
  on = pairs;
  text = codes "DROP TABLE \"t\"";
  statement = stmt.DropTable false (codes "t");
  reply = does 0;
  after = [];
  reads = whole_catalog ∷ tree_range 1 ∷ catalog_cell (codes "t") 0 ∷ column_cell (codes "t") 1 ∷ column_cell (codes "t") 2 ∷ [];
}

-- Also the cell of the name of its automatic index is cleared.
abbrev pub a_table_goes_with_the_names_of_its_automatic_indexes : Worked
a_table_goes_with_the_names_of_its_automatic_indexes = record {
  on = keyed;
  text = codes "DROP TABLE \"k\"";
  statement = stmt.DropTable false (codes "k");
  reply = does 0;
  after = [];
  reads = whole_catalog ∷ tree_range 1 ∷ tree_range 2 ∷ catalog_cell (codes "k") 0 ∷ column_cell (codes "k") 1 ∷ column_cell (codes "k") 2 ∷ catalog_cell (codes "k") 2 ∷ catalog_cell (codes "sqlite_autoindex_k_1") 0 ∷ [];
}

-- Its range and its two catalog cells are cleared; the rows stay.
abbrev pub an_index_goes_alone : Worked
an_index_goes_alone = record {
  on = indexed;
  text = codes "DROP INDEX \"ab\"";
  statement = stmt.DropIndex false (codes "ab");
  reply = does 0;
  after = filled plain_u (at 1 (int 1 ∷ int 5 ∷ int 9 ∷ []) ∷ at 2 (int 2 ∷ int 5 ∷ int 3 ∷ []) ∷ at 3 (int 3 ∷ int 6 ∷ int 1 ∷ []) ∷ []) ∷ [];
  reads = whole_catalog ∷ tree_range 2 ∷ catalog_cell (codes "u") 2 ∷ catalog_cell (codes "ab") 0 ∷ [];
}

-- It stays as long as its table.
abbrev pub an_automatic_index_is_not_dropped : Worked
an_automatic_index_is_not_dropped = record {
  on = keyed;
  text = codes "DROP INDEX \"sqlite_autoindex_k_1\"";
  statement = stmt.DropIndex false (codes "sqlite_autoindex_k_1");
  reply = refuses (refusal.Reserved (codes "sqlite_autoindex_k_1"));
  after = db_of keyed;
  reads = whole_catalog ∷ [];
}

-- No table has the name.
abbrev pub if_exists_reads_the_catalog_and_does_nothing : Worked
if_exists_reads_the_catalog_and_does_nothing = record {
  on = pairs;
  text = codes "DROP TABLE IF EXISTS \"nope\"";
  statement = stmt.DropTable true (codes "nope");
  reply = does 0;
  after = db_of pairs;
  reads = whole_catalog ∷ [];
}

-- A table of the name is no index.
abbrev pub a_missing_index_is_refused : Worked
a_missing_index_is_refused = record {
  on = pairs;
  text = codes "DROP INDEX \"t\"";
  statement = stmt.DropIndex false (codes "t");
  reply = refuses (refusal.NoIndex (codes "t"));
  after = db_of pairs;
  reads = whole_catalog ∷ [];
}
