-- A row and its own cell.
use Rattle.std.proofs.Common.{◌≡◌, ℕ, zero, suc, ◌<◌, ◌^◌, ℤ, List, [], ◌∷◌, inl, inr, Option, Some, None, true, length, set, refl, sym, ap, subst, ◌∙◌, FitsSigned, w64, arith}
use Rattle.std.specs.Prelude.{slice_get}
use Rattle.std.proofs.lemmas.Option.{slice_get_cases, slice_get_within, MatchOption-at_none}
use Rattle.hc_value.specs.declared.storage.Class.TheVariants as class
use Rattle.hc_value.specs.declared.value.Value.{Value}
use Rattle.hc_value.specs.declared.value.Value.TheVariants.{Null, Int}
use Rattle.hc_value.specs.Values.{IsValue, AreValues}
use Rattle.hc_record.specs.Record.{encoding}
use Rattle.hc_key.specs.Keys.{value_bytes, key_bytes}
use Rattle.hc_core.specs.declared.cells.Cell.{Cell}
use Rattle.hc_schema.specs.declared.row.Row.{Row}
use Rattle.hc_schema.specs.declared.table.Table.{Table}
use Rattle.hc_schema.specs.declared.table.Column.{Column}
use Rattle.hc_schema.specs.Tables.{Pairwise, IsAlias}
use Rattle.hc_schema.specs.Cells.{IsTable, stored_values, value_at}
use Rattle.hc_schema.specs.Databases.{FitsColumn, HasRowid, IsRow, IsRowCell, IsSized}
use Rattle.hc_schema.specs.Reading.{IsRecord}
use Rattle.hc_schema.proofs.GoodEntries.{row_good}
use Rattle.hc_schema.proofs.Recovered.{restored}
use Rattle.hc_schema.proofs.Shortness.{index_entries_short}
use Rattle.hc_schema.proofs.Pairs.{some_same}

pairs_len : {A B : Type 0} (R : A → B → Type 0) (xs : List A) (ys : List B) → Pairwise R xs ys → length xs ≡ length ys
pairs_len R [] [] pairs = refl
pairs_len R [] (y ∷ ys) pairs = absurd pairs
pairs_len R (x ∷ xs) [] pairs = absurd pairs
pairs_len R (x ∷ xs) (y ∷ ys) pairs = omega (arith, pairs_len R xs ys pairs.1)

alias_within : (columns : List Column) (alias : Option ℕ) (values : List Value) → IsAlias columns alias → length columns ≡ length values → IsSized alias values
alias_within columns None values is same = tt
alias_within columns (Some k) values is same =
    elim (slice_get_cases columns k).1 [
      | inl within ↦ omega (arith, same, within.1)
      | inr past ↦ absurd (MatchOption-at_none ⊥ (λ (column : Column). (column.class ≡ class.Int) × (column.not_null ≡ true)) past.1 is)
    ]

-- a row of the table has a value in the alias column's place
pub row_sized : (t : Table) (row : Row) → IsTable t → IsRow t row → IsSized t.alias row.values
row_sized t row is is_row = alias_within t.columns t.alias row.values is.form.alias (pairs_len FitsColumn t.columns row.values is_row.fit)

-- its record is that of the stored values
pub row_record : (t : Table) (cell : Cell) (row : Row) → IsTable t → IsRowCell t cell row → IsRecord (stored_values t.alias row.values) cell.rec
row_record t cell row is is_cell =
    let good = row_good t row is.form.tree.1 is_cell.0 in record { values = good.values; short = good.short; bytes = ap (λ (c : Cell). c.rec) is_cell.1 }

-- ---- the alias column's value

null_stays : (values : List Value) (k : ℕ) → slice_get values k ≡ Some Null → set values k Null ≡ values
null_stays [] k is = refl
null_stays (v ∷ values) zero is = ap (λ w. w ∷ values) (sym (some_same v Null is))
null_stays (v ∷ values) (suc k) is = ap (λ l. v ∷ l) (null_stays values k is)

set_twice : (values : List Value) (k : ℕ) (v w : Value) → set (set values k v) k w ≡ set values k w
set_twice [] k v w = refl
set_twice (u ∷ values) zero v w = refl
set_twice (u ∷ values) (suc k) v w = ap (λ l. u ∷ l) (set_twice values k v w)

set_is : (values : List Value) (k : ℕ) (v : Value) → k < length values → value_at (set values k v) k ≡ v
set_is [] k v lt = absurd (omega (arith, lt))
set_is (u ∷ values) zero v lt = refl
set_is (u ∷ values) (suc k) v lt = set_is values k v (omega (arith, lt))

-- NULL is stored where the rowid was
pub stored_back : (stored values : List Value) (k : ℕ) (v : Value) → slice_get stored k ≡ Some Null → values ≡ set stored k v → stored ≡ set values k Null
stored_back stored values k v is set_to = sym (ap (λ l. set l k Null) set_to ∙ set_twice stored k v Null ∙ null_stays stored k is)

pub has_rowid : (stored values : List Value) (k : ℕ) (v : Value) → slice_get stored k ≡ Some Null → values ≡ set stored k v → value_at values k ≡ v
has_rowid stored values k v is set_to = ap (λ l. value_at l k) set_to ∙ set_is stored k v (slice_get_within stored k Null is)

-- and the rowid is put back
pub put_back : (stored values new : List Value) (k : ℕ) (v : Value) → value_at values k ≡ v → stored ≡ set values k Null → new ≡ set stored k v → new ≡ values
put_back stored values new k v is cleared set_to =
    set_to ∙ ap (λ l. set l k v) cleared ∙ ap (λ w. set (set values k Null) k w) (sym is) ∙ restored values k

null_at : (values : List Value) (k : ℕ) → k < length values → slice_get (set values k Null) k ≡ Some Null
null_at [] k lt = absurd (omega (arith, lt))
null_at (v ∷ values) zero lt = refl
null_at (v ∷ values) (suc k) lt = null_at values k (omega (arith, lt))

pub cleared_null : (stored values : List Value) (k : ℕ) → k < length values → stored ≡ set values k Null → slice_get stored k ≡ Some Null
cleared_null stored values k lt cleared = ap (λ l. slice_get l k) cleared ∙ null_at values k lt

-- ---- what was read is a row

uncleared : (values : List Value) (k : ℕ) → AreValues (set values k Null) → IsValue (value_at values k) → AreValues values
uncleared [] k are is = tt
uncleared (v ∷ values) zero are is = (is, are.1)
uncleared (v ∷ values) (suc k) are is = (are.0, uncleared values k are.1 is)

values_are : (alias : Option ℕ) (row : Row) → FitsSigned w64 row.rowid → HasRowid alias row → AreValues (stored_values alias row.values) → AreValues row.values
values_are None row fits has are = are
values_are (Some k) row fits has are = uncleared row.values k are (subst IsValue (sym has) fits)

pub row_found : (t : Table) (cell : Cell) (row : Row) (stored : List Value) → FitsSigned w64 row.rowid → cell.key ≡ key_bytes t.tree (Int row.rowid ∷ []) → IsRecord stored cell.rec
    → stored ≡ stored_values t.alias row.values → HasRowid t.alias row → Pairwise FitsColumn t.columns row.values → IsRowCell t cell row
row_found t cell row stored fits key rec is has fit = (
  record {
    rowid = fits;
    values = values_are t.alias row fits has (subst AreValues is rec.values);
    fit = fit;
    alias = has;
    short = (subst (λ l. length (encoding l) < 2 ^ 32) is rec.short, index_entries_short row.rowid row.values t.indexes);
  },
  λ i. record { key = key i; rec = (rec.bytes ∙ ap encoding is) i },
)

-- the key of a row is short
pub row_key_len : (tree : ℕ) (rowid : ℤ) → length (key_bytes tree (Int rowid ∷ [])) ≡ 13
unfolding key_bytes value_bytes
row_key_len tree rowid = omega arith
