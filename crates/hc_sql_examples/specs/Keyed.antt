-- Tables with rules: `k` with a UNIQUE text, and `p` with a primary key of two columns.
use Rattle.std.specs.Prelude.{true, false, [], ◌∷◌, Some, None, codes}
use Rattle.hc_value.specs.declared.value.Value.TheVariants.{Null, Text}
use Rattle.hc_value.specs.declared.storage.Class.TheVariants as class
use Rattle.hc_ast.specs.declared.expression.Expr.TheVariants as expr
use Rattle.hc_ast.specs.declared.statement.Stmt.TheVariants as stmt
use Rattle.hc_ast.specs.declared.table.ColumnRule.TheVariants.{PrimaryKey, Unique}
use Rattle.hc_schema.specs.declared.table.Table.{Table}
use Rattle.hc_schema.specs.declared.table.Index.{Index}
use Rattle.hc_schema.specs.declared.table.IndexKind.TheVariants as kind
use Rattle.hc_sql_examples.specs.Worked.{Setup, Empty, After}
use Rattle.hc_sql_examples.specs.Words.{int, at, filled, typed, defined, literal, nothing, row}

abbrev pub unique_e : Index
unique_e = record { name = codes "sqlite_autoindex_k_1"; tree = 2; kind = kind.UniqueRule; columns = 1 ∷ [] }

abbrev pub k : Table
k = record {
  name = codes "k";
  tree = 1;
  columns =
      typed (codes "id") class.Int true
      ∷ typed (codes "e") class.Text false
      ∷ [];
  alias = Some 0;
  indexes = unique_e ∷ [];
}

-- `k` without rows
abbrev pub keyless : Setup
keyless = After Empty
    (codes "CREATE TABLE \"k\" ( \"id\" INTEGER PRIMARY KEY , \"e\" TEXT UNIQUE ) STRICT")
    (stmt.CreateTable false (codes "k") (defined (codes "id") class.Int (PrimaryKey ∷ []) ∷ defined (codes "e") class.Text (Unique ∷ []) ∷ []) [])
    (filled k [] ∷ [])

-- `k` with a text and a NULL
abbrev pub keyed : Setup
keyed = After keyless
    (codes "INSERT INTO \"k\" VALUES ( 1 , 'a' ) , ( 2 , NULL )")
    (stmt.Insert (codes "k") None (row (literal 1 ∷ expr.Value (Text (codes "a")) ∷ []) ∷ row (literal 2 ∷ nothing ∷ []) ∷ []))
    (filled k (at 1 (int 1 ∷ Text (codes "a") ∷ []) ∷ at 2 (int 2 ∷ Null ∷ []) ∷ []) ∷ [])

abbrev pub unique_y : Index
unique_y = record { name = codes "sqlite_autoindex_p_1"; tree = 2; kind = kind.UniqueRule; columns = 1 ∷ [] }

abbrev pub primary_xy : Index
primary_xy = record { name = codes "sqlite_autoindex_p_2"; tree = 3; kind = kind.Primary; columns = 0 ∷ 1 ∷ [] }

abbrev pub p : Table
p = record {
  name = codes "p";
  tree = 1;
  columns =
      typed (codes "x") class.Int true
      ∷ typed (codes "y") class.Int true
      ∷ [];
  alias = None;
  indexes = unique_y ∷ primary_xy ∷ [];
}

-- `p` without rows
abbrev pub unpaired : Setup
unpaired = After Empty
    (codes "CREATE TABLE \"p\" ( \"x\" INTEGER , \"y\" INTEGER UNIQUE , PRIMARY KEY ( \"x\" , \"y\" ) ) STRICT")
    (stmt.CreateTable false (codes "p") (defined (codes "x") class.Int [] ∷ defined (codes "y") class.Int (Unique ∷ []) ∷ []) (record { primary = true; columns = codes "x" ∷ codes "y" ∷ [] } ∷ []))
    (filled p [] ∷ [])

-- `p` with one row
abbrev pub paired : Setup
paired = After unpaired
    (codes "INSERT INTO \"p\" VALUES ( 1 , 2 )")
    (stmt.Insert (codes "p") None (row (literal 1 ∷ literal 2 ∷ []) ∷ []))
    (filled p (at 1 (int 1 ∷ int 2 ∷ []) ∷ []) ∷ [])
