-- The rows that a SELECT goes over, in SQL's words. Each law is the contract of a function that does nothing.
use Rattle.std.specs.Prelude.{◌≡◌, ℕ, ℤ, ◌+◌, Bool, false, List, [], ◌∷◌, ◌++◌, length, flat_map, Some, Ok}
use Rattle.std.specs.List.{AllByRecursion, filter}
use Rattle.std.specs.Option.{unwrap_or}
use Rattle.std.specs.Ordering.{int_eq}
use Rattle.hc_value.specs.declared.value.Value.{Value}
use Rattle.hc_value.specs.declared.value.Value.TheVariants.{Int}
use Rattle.hc_ast.specs.declared.bound.Bound.{Bound}
use Rattle.hc_schema.specs.declared.table.Table.{Table}
use Rattle.hc_schema.specs.declared.table.Index.{Index}
use Rattle.hc_schema.specs.declared.row.Row.{Row}
use Rattle.hc_schema.specs.declared.path.Path.TheVariants.{Whole}
use Rattle.hc_schema.specs.Databases.{Database, IsDatabase}
use Rattle.hc_schema.specs.Paths.{path_of}
use Rattle.hc_sql.specs.Stored.{rows_in}
use Rattle.hc_sql.specs.Looks.{is_indexed, find_indexed}
use Rattle.hc_sql.specs.Select.{meets, rows_by_rowid, candidates}

-- The rows of the product of the tables in FROM's order, each after a row of the tables before; the last table's row changes fastest.
abbrev pub product_after : Database → List Table → List Value → List (List Value)
product_after db [] row = row ∷ []
product_after db (t ∷ tables) row = flat_map (λ r. product_after db tables (row ++ r.values)) (rows_in db t.tree)

abbrev pub product : Database → List Table → List (List Value)
product db tables = product_after db tables []

-- no conjunct overflows on the row
abbrev pub IsDecided : List Bound → List Value → Type 0
IsDecided conjuncts row = (met : Bool) × (meets conjuncts row ≡ Some met)

-- the row meets the condition
abbrev pub is_met : List Bound → List Value → Bool
is_met conjuncts row = unwrap_or (meets conjuncts row) false

-- no conjunct gives a path to a table of these, whose columns begin at the offset
abbrev pub AreReadWhole : List Bound → List Table → ℕ → Type 0
AreReadWhole conjuncts [] offset = Unit {0}
AreReadWhole conjuncts (t ∷ tables) offset = (path_of t offset conjuncts ≡ Whole) × AreReadWhole conjuncts tables (offset + length t.columns)

-- Where no conjunct gives a path and none overflows on the product, the rows that pass are those of the product that meet the
-- condition, in its order.
abbrev pub WholeReadsGiveTheProduct : Type 0
WholeReadsGiveTheProduct = (db : Database) (tables : List Table) (conjuncts : List Bound) → AreReadWhole conjuncts tables 0
    → AllByRecursion (IsDecided conjuncts) (product db tables)
    → (candidates tables conjuncts db).result ≡ Ok (filter (is_met conjuncts) (product db tables))

-- ---- what is found on a path

-- By a rowid the rows of the table with it are found: one or none.
abbrev pub ARowidGivesItsRow : Type 0
ARowidGivesItsRow = (db : Database) (t : Table) (k : ℤ) → IsDatabase db → (rows_by_rowid t (Int k) db).result ≡ Ok (filter (λ (row : Row). int_eq row.rowid k) (rows_in db t.tree))

-- Under some values in an index the rows of the table whose values in it begin with them are found, in order of rowids.
abbrev pub AnIndexGivesItsRows : Type 0
AnIndexGivesItsRows = (db : Database) (t : Table) (index : Index) (values : List Value) → IsDatabase db → (find_indexed t index values db).result ≡ Ok (filter (is_indexed index values) (rows_in db t.tree))
