-- A table `u` with an index of two columns.
use Rattle.std.specs.Prelude.{true, false, [], ◌∷◌, Some, None, codes}
use Rattle.hc_value.specs.declared.storage.Class.TheVariants as class
use Rattle.hc_ast.specs.declared.statement.Stmt.TheVariants as stmt
use Rattle.hc_ast.specs.declared.table.ColumnRule.TheVariants.{PrimaryKey}
use Rattle.hc_schema.specs.declared.table.Table.{Table}
use Rattle.hc_schema.specs.declared.table.Index.{Index}
use Rattle.hc_schema.specs.declared.table.IndexKind.TheVariants as kind
use Rattle.hc_sql_examples.specs.Worked.{Setup, Empty, After}
use Rattle.hc_sql_examples.specs.Words.{int, at, filled, typed, defined, literal, row}

abbrev pub ab : Index
ab = record { name = codes "ab"; tree = 2; kind = kind.Plain; columns = 1 ∷ 2 ∷ [] }

abbrev pub plain_u : Table
plain_u = record {
  name = codes "u";
  tree = 1;
  columns =
      typed (codes "id") class.Int true
      ∷ typed (codes "a") class.Int false
      ∷ typed (codes "b") class.Int false
      ∷ [];
  alias = Some 0;
  indexes = [];
}

abbrev pub u : Table
u = record {
  name = codes "u";
  tree = 1;
  columns =
      typed (codes "id") class.Int true
      ∷ typed (codes "a") class.Int false
      ∷ typed (codes "b") class.Int false
      ∷ [];
  alias = Some 0;
  indexes = ab ∷ [];
}

-- the table without index and rows
abbrev pub unindexed : Setup
unindexed = After Empty
    (codes "CREATE TABLE \"u\" ( \"id\" INTEGER PRIMARY KEY , \"a\" INTEGER , \"b\" INTEGER ) STRICT")
    (stmt.CreateTable false (codes "u") (defined (codes "id") class.Int (PrimaryKey ∷ []) ∷ defined (codes "a") class.Int [] ∷ defined (codes "b") class.Int [] ∷ []) [])
    (filled plain_u [] ∷ [])

-- with its index
abbrev pub with_index : Setup
with_index = After unindexed
    (codes "CREATE INDEX \"ab\" ON \"u\" ( \"a\" , \"b\" )")
    (stmt.CreateIndex false false (codes "ab") (codes "u") (codes "a" ∷ codes "b" ∷ []))
    (filled u [] ∷ [])

-- three rows, two of which have the same `a`
abbrev pub indexed : Setup
indexed = After with_index
    (codes "INSERT INTO \"u\" VALUES ( 1 , 5 , 9 ) , ( 2 , 5 , 3 ) , ( 3 , 6 , 1 )")
    (stmt.Insert (codes "u") None (row (literal 1 ∷ literal 5 ∷ literal 9 ∷ []) ∷ row (literal 2 ∷ literal 5 ∷ literal 3 ∷ []) ∷ row (literal 3 ∷ literal 6 ∷ literal 1 ∷ []) ∷ []))
    (filled u (at 1 (int 1 ∷ int 5 ∷ int 9 ∷ []) ∷ at 2 (int 2 ∷ int 5 ∷ int 3 ∷ []) ∷ at 3 (int 3 ∷ int 6 ∷ int 1 ∷ []) ∷ []) ∷ [])
