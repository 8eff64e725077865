-- The entries of a database can be read again: their numbers fit, their values are values, and their records are short.
use Rattle.std.proofs.Common.{◌≡◌, ℕ, zero, suc, ◌+◌, ◌<◌, ◌≤◌, ◌^◌, ℤ, List, [], ◌∷◌, ◌++◌, Option, Some, None, map, length, set, ap, FitsSigned, w64, IsUtf8, arith}
use Rattle.std.specs.List.{AllByRecursion}
use Rattle.hc_value.specs.declared.value.Value.{Value}
use Rattle.hc_value.specs.declared.value.Value.TheVariants.{Null, Int}
use Rattle.hc_value.specs.Values.{IsValue, AreValues}
use Rattle.hc_record.specs.Laws.{NoEncodingBeginsAnother}
use Rattle.hc_key.specs.Laws.{KeysDiffer}
use Rattle.hc_core.specs.declared.cells.Cell.{Cell}
use Rattle.hc_schema.specs.declared.entry.Entry.{Entry}
use Rattle.hc_schema.specs.declared.table.Table.{Table}
use Rattle.hc_schema.specs.declared.table.Column.{Column}
use Rattle.hc_schema.specs.declared.table.Index.{Index}
use Rattle.hc_schema.specs.Tables.{IsColumn, IsIndex}
use Rattle.hc_schema.specs.Cells.{cell_of, IsShort, IsTable, stored_values, value_at, table_entry, column_entries, index_entry, index_name_entry, row_entry, row_index_entry}
use Rattle.hc_schema.specs.declared.row.Row.{Row}
use Rattle.hc_schema.specs.Databases.{IsRow}
use Rattle.hc_schema.proofs.Lowered.{lowered}
use Rattle.hc_schema.proofs.TableCells.{number_is, table_are, column_are, index_are}

pub record IsGood (e : Entry) : Type 0 where
  pub tree : e.tree < 2 ^ 32
  pub key : AreValues e.key
  pub values : AreValues e.values
  pub short : IsShort e

-- entries with one cell are one
pub one_entry : KeysDiffer → NoEncodingBeginsAnother → (e f : Entry) → IsGood e → IsGood f → cell_of e ≡ cell_of f → e ≡ f
one_entry keys encodings e f good also same =
    let key = keys e.tree f.tree e.key f.key good.tree also.tree good.key also.key (ap (λ (c : Cell). c.key) same) in
    let rec = encodings e.values f.values [] [] good.values also.values good.short also.short (ap (λ (c : Cell). c.rec ++ []) same) in
    λ i. record { tree = key.0 i; key = key.1 i; values = rec.0 i }

-- ---- the catalog

pub table_good : (t : Table) → IsTable t → IsGood (table_entry t)
table_good t is = record {
  tree = omega arith;
  key = (lowered t.name is.form.name, (number_is 0 (omega arith), tt));
  values = table_are t is;
  short = is.short.0;
}

pub column_goods : (name : List ℕ) (k : ℕ) (columns : List Column) → IsUtf8 name → k + length columns ≤ 256 → AllByRecursion IsColumn columns → AllByRecursion IsShort (column_entries name k columns)
    → AllByRecursion IsGood (column_entries name k columns)
column_goods name k [] text few are short = tt
column_goods name k (column ∷ columns) text few are short = (
  record {
    tree = omega arith;
    key = (lowered name text, (number_is 0 (omega arith), (number_is k (omega (arith, few)), tt)));
    values = column_are column are.0;
    short = short.0;
  },
  column_goods name (k + 1) columns text (omega (arith, few)) are.1 short.1,
)

pub index_goods : (count : ℕ) (name : List ℕ) (indexes : List Index) → IsUtf8 name → count ≤ 255 → AllByRecursion (IsIndex count) indexes → AllByRecursion IsShort (map (index_entry name) indexes)
    → AllByRecursion IsGood (map (index_entry name) indexes)
index_goods count name [] text few are short = tt
index_goods count name (index ∷ indexes) text few are short = (
  record {
    tree = omega arith;
    key = (lowered name text, (number_is index.tree (omega (arith, are.0.1)), tt));
    values = index_are count index few are.0;
    short = short.0;
  },
  index_goods count name indexes text few are.1 short.1,
)

pub name_goods : (count : ℕ) (name : List ℕ) (indexes : List Index) → IsUtf8 name → AllByRecursion (IsIndex count) indexes → AllByRecursion IsShort (map (index_name_entry name) indexes)
    → AllByRecursion IsGood (map (index_name_entry name) indexes)
name_goods count name [] text are short = tt
name_goods count name (index ∷ indexes) text are short = (
  record {
    tree = omega arith;
    key = (lowered index.name are.0.0, (number_is 0 (omega arith), tt));
    values = (tt, (text, (number_is index.tree (omega (arith, are.0.1)), tt)));
    short = short.0;
  },
  name_goods count name indexes text are.1 short.1,
)

-- ---- rows

cleared : (values : List Value) (k : ℕ) → AreValues values → AreValues (set values k Null)
cleared [] k are = tt
cleared (v ∷ values) zero are = (tt, are.1)
cleared (v ∷ values) (suc k) are = (are.0, cleared values k are.1)

stored_are : (alias : Option ℕ) (values : List Value) → AreValues values → AreValues (stored_values alias values)
stored_are None values are = are
stored_are (Some k) values are = cleared values k are

value_is : (values : List Value) (k : ℕ) → AreValues values → IsValue (value_at values k)
value_is [] k are = tt
value_is (v ∷ values) zero are = are.0
value_is (v ∷ values) (suc k) are = value_is values k are.1

key_are : (rowid : ℤ) (values : List Value) (columns : List ℕ) → FitsSigned w64 rowid → AreValues values → AreValues (map (value_at values) columns ++ Int rowid ∷ [])
key_are rowid values [] fits are = (fits, tt)
key_are rowid values (k ∷ columns) fits are = (value_is values k are, key_are rowid values columns fits are)

pub row_good : (t : Table) (row : Row) → t.tree < 2 ^ 32 → IsRow t row → IsGood (row_entry t row.rowid row.values)
row_good t row fits is = record { tree = fits; key = (is.rowid, tt); values = stored_are t.alias row.values is.values; short = is.short.0 }

pub row_index_goods : (count : ℕ) (row : Row) (indexes : List Index) → FitsSigned w64 row.rowid → AreValues row.values → AllByRecursion (IsIndex count) indexes → AllByRecursion IsShort (map (row_index_entry row.rowid row.values) indexes)
    → AllByRecursion IsGood (map (row_index_entry row.rowid row.values) indexes)
row_index_goods count row [] fits are all short = tt
row_index_goods count row (index ∷ indexes) fits are all short = (
  record { tree = all.0.1; key = key_are row.rowid row.values index.columns fits are; values = tt; short = short.0 },
  row_index_goods count row indexes fits are all.1 short.1,
)
