-- Rows: which candidate rows are on the path of a table. A candidate row has the columns of the tables in FROM's order, and
-- the table's own begin at an offset.
use Rattle.std.specs.Prelude.{◌≡◌, ◌⊎◌, ℕ, ◌+◌, ◌<◌, true, List, slice_get, slice_index_or, Option, Some, None}
use Rattle.hc_value.specs.declared.value.Value.{Value}
use Rattle.hc_value.specs.declared.value.Value.TheVariants.{Null}
use Rattle.hc_ast.specs.declared.operator.BinaryOp.TheVariants.{Eq}
use Rattle.hc_ast.specs.declared.bound.Bound.{Bound}
use Rattle.hc_ast.specs.declared.bound.Bound.TheVariants as bound
use Rattle.hc_expr.specs.Logic.{truth_of}
use Rattle.hc_expr.specs.Values.{value_of, are_equal}
use Rattle.hc_schema.specs.declared.table.Table.{Table}
use Rattle.hc_schema.specs.declared.table.Index.{Index}
use Rattle.hc_schema.specs.declared.path.Path.{Path}
use Rattle.hc_schema.specs.declared.path.Path.TheVariants.{Rowid, ByIndex, Whole}
use Rattle.hc_schema.specs.Paths.{facts}

-- an expression is true on a row
abbrev pub IsTrueOn : List Value → Bound → Type 0
IsTrueOn row e = (v : Value) × (value_of row e ≡ Some v) × (truth_of v ≡ Some true)

-- the rows have the same values before an offset
abbrev pub AgreeBefore : ℕ → List Value → List Value → Type 0
AgreeBefore offset row other = (place : ℕ) → place < offset → slice_index_or row place Null ≡ slice_index_or other place Null

-- A conjunct says what the column at a place equals: it is an `=` between the column and another side, all of whose columns
-- are before the offset.
pub record SaysWhat (offset place : ℕ) (conjunct other : Bound) : Type 0 where
  pub form : (conjunct ≡ bound.Binary Eq (bound.Column place) other) ⊎ (conjunct ≡ bound.Binary Eq other (bound.Column place))
  pub before : (facts offset other).before ≡ true

-- The row has what the conjunct says: the other side has a value, the same on every row with the same values before the offset,
-- and the row's column equals it.
abbrev pub HasWhat : ℕ → ℕ → Bound → List Value → Type 0
HasWhat offset place conjunct row =
    (other : Bound) × (v : Value) × SaysWhat offset place conjunct other
    × ((like : List Value) → AgreeBefore offset row like → value_of like other ≡ Some v) × (are_equal (slice_index_or row place Null) v ≡ Some true)

-- the place of the conjunct by which a path reaches rows
abbrev pub conjunct_of : Path → Option ℕ
conjunct_of (Rowid n) = Some n
conjunct_of (ByIndex index n) = Some n
conjunct_of Whole = None

-- A row is on the path of a table: it has the rowid that the conjunct says, or in the index's first column the value that the
-- conjunct says; all rows are on the whole path.
abbrev pub IsOnPath : Table → ℕ → List Bound → Path → List Value → Type 0
IsOnPath t offset conjuncts (Rowid n) row =
    (k : ℕ) × (conjunct : Bound) × (t.alias ≡ Some k) × (slice_get conjuncts n ≡ Some conjunct) × HasWhat offset (offset + k) conjunct row
IsOnPath t offset conjuncts (ByIndex i n) row =
    (index : Index) × (k : ℕ) × (conjunct : Bound) × (slice_get t.indexes i ≡ Some index) × (slice_get index.columns 0 ≡ Some k)
    × (slice_get conjuncts n ≡ Some conjunct) × HasWhat offset (offset + k) conjunct row
IsOnPath t offset conjuncts Whole row = Unit {0}
