-- Two tables `a` and `b`, whose first columns are their rowids. In `a` there is the greatest integer.
use Rattle.std.specs.Prelude.{true, false, [], ◌∷◌, Some, None, codes}
use Rattle.hc_value.specs.declared.storage.Class.TheVariants as class
use Rattle.hc_ast.specs.declared.statement.Stmt.TheVariants as stmt
use Rattle.hc_ast.specs.declared.table.ColumnRule.TheVariants.{PrimaryKey}
use Rattle.hc_schema.specs.declared.table.Table.{Table}
use Rattle.hc_sql_examples.specs.Worked.{Setup, Empty, After}
use Rattle.hc_sql_examples.specs.Words.{int, at, filled, typed, defined, literal, row}

abbrev pub a : Table
a = record {
  name = codes "a";
  tree = 1;
  columns =
      typed (codes "id") class.Int true
      ∷ typed (codes "v") class.Int false
      ∷ [];
  alias = Some 0;
  indexes = [];
}

abbrev pub b : Table
b = record {
  name = codes "b";
  tree = 2;
  columns =
      typed (codes "id") class.Int true
      ∷ typed (codes "w") class.Int false
      ∷ [];
  alias = Some 0;
  indexes = [];
}

-- the first table alone
abbrev pub one_table : Setup
one_table = After Empty
    (codes "CREATE TABLE \"a\" ( \"id\" INTEGER PRIMARY KEY , \"v\" INTEGER ) STRICT")
    (stmt.CreateTable false (codes "a") (defined (codes "id") class.Int (PrimaryKey ∷ []) ∷ defined (codes "v") class.Int [] ∷ []) [])
    (filled a [] ∷ [])

-- both, without rows
abbrev pub two_tables : Setup
two_tables = After one_table
    (codes "CREATE TABLE \"b\" ( \"id\" INTEGER PRIMARY KEY , \"w\" INTEGER ) STRICT")
    (stmt.CreateTable false (codes "b") (defined (codes "id") class.Int (PrimaryKey ∷ []) ∷ defined (codes "w") class.Int [] ∷ []) [])
    (filled a [] ∷ filled b [] ∷ [])

-- rows in the first
abbrev pub half_linked : Setup
half_linked = After two_tables
    (codes "INSERT INTO \"a\" VALUES ( 1 , 9223372036854775807 ) , ( 2 , 1 )")
    (stmt.Insert (codes "a") None (row (literal 1 ∷ literal 9223372036854775807 ∷ []) ∷ row (literal 2 ∷ literal 1 ∷ []) ∷ []))
    (filled a (at 1 (int 1 ∷ int 9223372036854775807 ∷ []) ∷ at 2 (int 2 ∷ int 1 ∷ []) ∷ []) ∷ filled b [] ∷ [])

-- rows in both
abbrev pub linked : Setup
linked = After half_linked
    (codes "INSERT INTO \"b\" VALUES ( 1 , 5 ) , ( 2 , 6 )")
    (stmt.Insert (codes "b") None (row (literal 1 ∷ literal 5 ∷ []) ∷ row (literal 2 ∷ literal 6 ∷ []) ∷ []))
    (filled a (at 1 (int 1 ∷ int 9223372036854775807 ∷ []) ∷ at 2 (int 2 ∷ int 1 ∷ []) ∷ []) ∷ filled b (at 1 (int 1 ∷ int 5 ∷ []) ∷ at 2 (int 2 ∷ int 6 ∷ []) ∷ []) ∷ [])
