-- A table `t` of two columns, of which the first is the rowid.
use Rattle.std.specs.Prelude.{true, false, [], ◌∷◌, Some, None, codes}
use Rattle.hc_value.specs.declared.value.Value.TheVariants.{Null}
use Rattle.hc_value.specs.declared.storage.Class.TheVariants as class
use Rattle.hc_ast.specs.declared.statement.Stmt.TheVariants as stmt
use Rattle.hc_ast.specs.declared.table.ColumnRule.TheVariants.{PrimaryKey}
use Rattle.hc_schema.specs.declared.table.Table.{Table}
use Rattle.hc_sql_examples.specs.Worked.{Setup, Empty, After}
use Rattle.hc_sql_examples.specs.Words.{int, at, filled, typed, defined, literal, nothing, row}

abbrev pub t : Table
t = record {
  name = codes "t";
  tree = 1;
  columns =
      typed (codes "id") class.Int true
      ∷ typed (codes "v") class.Int false
      ∷ [];
  alias = Some 0;
  indexes = [];
}

-- no row
abbrev pub bare : Setup
bare = After Empty
    (codes "CREATE TABLE \"t\" ( \"id\" INTEGER PRIMARY KEY , \"v\" INTEGER ) STRICT")
    (stmt.CreateTable false (codes "t") (defined (codes "id") class.Int (PrimaryKey ∷ []) ∷ defined (codes "v") class.Int [] ∷ []) [])
    (filled t [] ∷ [])

-- two rows, 1 and 2
abbrev pub pairs : Setup
pairs = After bare
    (codes "INSERT INTO \"t\" VALUES ( 1 , 10 ) , ( 2 , 20 )")
    (stmt.Insert (codes "t") None (row (literal 1 ∷ literal 10 ∷ []) ∷ row (literal 2 ∷ literal 20 ∷ []) ∷ []))
    (filled t (at 1 (int 1 ∷ int 10 ∷ []) ∷ at 2 (int 2 ∷ int 20 ∷ []) ∷ []) ∷ [])

-- its rows were deleted
abbrev pub emptied : Setup
emptied = After pairs
    (codes "DELETE FROM \"t\"")
    (stmt.Delete (codes "t") None)
    (filled t [] ∷ [])

-- it was dropped
abbrev pub dropped : Setup
dropped = After pairs
    (codes "DROP TABLE \"t\"")
    (stmt.DropTable false (codes "t"))
    ([])

-- a row of the greatest rowid
abbrev pub full : Setup
full = After bare
    (codes "INSERT INTO \"t\" VALUES ( 9223372036854775807 , 0 )")
    (stmt.Insert (codes "t") None (row (literal 9223372036854775807 ∷ literal 0 ∷ []) ∷ []))
    (filled t (at 9223372036854775807 (int 9223372036854775807 ∷ int 0 ∷ []) ∷ []) ∷ [])

-- four rows: 10 twice, and NULL twice between them
abbrev pub repeating : Setup
repeating = After bare
    (codes "INSERT INTO \"t\" VALUES ( 1 , 10 ) , ( 2 , NULL ) , ( 3 , NULL ) , ( 4 , 10 )")
    (stmt.Insert (codes "t") None (row (literal 1 ∷ literal 10 ∷ []) ∷ row (literal 2 ∷ nothing ∷ []) ∷ row (literal 3 ∷ nothing ∷ []) ∷ row (literal 4 ∷ literal 10 ∷ []) ∷ []))
    (filled t (at 1 (int 1 ∷ int 10 ∷ []) ∷ at 2 (int 2 ∷ Null ∷ []) ∷ at 3 (int 3 ∷ Null ∷ []) ∷ at 4 (int 4 ∷ int 10 ∷ []) ∷ []) ∷ [])
