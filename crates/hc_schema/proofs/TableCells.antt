-- The cells of a table, one after another, as they are read.
use Rattle.std.proofs.Common.{◌≡◌, ℕ, ◌+◌, ◌-◌, ◌<◌, ◌≤◌, ◌^◌, pos, List, [], ◌∷◌, ◌++◌, Option, Some, None, inl, inr, map, length, get_or, take, drop, refl, sym, ap, subst, ◌∙◌, FitsSigned, w64, Bool, true, false, arith}
use Rattle.std.specs.List.{AllByRecursion}
use Rattle.std.proofs.lemmas.List.{map-append, length-append, length-map}
use Rattle.std.proofs.Math.Seq.{take-append_seam, drop-append_seam, take-length}
use Rattle.std.proofs.lemmas.Option.{slice_get_cases, MatchOption-at_none}
use Rattle.hc_value.specs.declared.value.Value.{Value}
use Rattle.hc_value.specs.declared.storage.Class.{Class}
use Rattle.hc_value.specs.declared.storage.Class.TheVariants as class
use Rattle.hc_schema.specs.declared.table.IndexKind.{IndexKind}
use Rattle.hc_schema.specs.declared.table.IndexKind.TheVariants as kind
use Rattle.hc_value.specs.Values.{IsValue, AreValues}
use Rattle.hc_core.specs.declared.cells.Cell.{Cell}
use Rattle.hc_schema.specs.declared.table.Table.{Table}
use Rattle.hc_schema.specs.declared.table.Column.{Column}
use Rattle.hc_schema.specs.declared.table.Index.{Index}
use Rattle.hc_schema.specs.declared.reading.Head.{Head}
use Rattle.hc_schema.specs.Tables.{Pairwise, IsColumn, IsIndex, IsAlias}
use Rattle.hc_schema.specs.Cells.{IsTable, IsShort, cell_of, number, alias_number, key_name, flag_number, class_number, kind_number, table_cells, column_entries, column_values, index_entry, index_values}
use Rattle.hc_schema.specs.Reading.{IsHead, IsAliasNumber, head_values, IsRecord, IsColumnCell, IsIndexCell, IsNumberOf, IsColumnNumber, IsRest}

-- ---- values

-- small numbers are values
pub number_is : (n : ℕ) → n < 2 ^ 63 → IsValue (number n)
number_is n small = omega arith

-- ---- lists

pub all_front : {A : Type 0} (P : A → Type 0) (xs ys : List A) → AllByRecursion P (xs ++ ys) → AllByRecursion P xs
all_front P [] ys all = tt
all_front P (x ∷ xs) ys all = (all.0, all_front P xs ys all.1)

pub all_back : {A : Type 0} (P : A → Type 0) (xs ys : List A) → AllByRecursion P (xs ++ ys) → AllByRecursion P ys
all_back P [] ys all = all
all_back P (x ∷ xs) ys all = all_back P xs ys all.1

-- ---- columns and indexes

flag_small : (flag : Bool) → flag_number flag < 2 ^ 63
flag_small false = omega arith
flag_small true = omega arith

class_small : (class : Class) → class_number class < 2 ^ 63
class_small class.Int = omega arith
class_small class.Text = omega arith
class_small class.Blob = omega arith
class_small class.Null = omega arith

kind_small : (kind : IndexKind) → kind_number kind < 2 ^ 63
kind_small kind.Plain = omega arith
kind_small kind.Unique = omega arith
kind_small kind.UniqueRule = omega arith
kind_small kind.Primary = omega arith

pub kind_fits : (kind : IndexKind) → FitsSigned w64 (pos (kind_number kind))
kind_fits kind = number_is (kind_number kind) (kind_small kind)

pub column_are : (column : Column) → IsColumn column → AreValues (column_values column)
column_are column is = (is.0, (number_is _ (class_small column.class), (number_is _ (flag_small column.not_null), tt)))

-- the columns' cells are those of the columns
column_cells : (table : List ℕ) (k : ℕ) (columns : List Column) → AllByRecursion IsColumn columns → AllByRecursion IsShort (column_entries table k columns)
    → Pairwise IsColumnCell (map cell_of (column_entries table k columns)) columns
column_cells table k [] are short = tt
column_cells table k (column ∷ columns) are short = (
  (
    are.0,
    record {
      values = column_are column are.0;
      short = short.0;
      bytes = refl;
    },
  ),
  column_cells table (k + 1) columns are.1 short.1,
)

-- columns of a table have numbers of 32 bits
numbers_small : (count : ℕ) (columns : List ℕ) → count ≤ 255 → AllByRecursion (λ k. k < count) columns → AllByRecursion IsColumnNumber columns
numbers_small count [] few all = tt
numbers_small count (k ∷ columns) few all = (omega (arith, few, all.0), numbers_small count columns few all.1)

numbers_are : (columns : List ℕ) → AllByRecursion IsColumnNumber columns → AreValues (map (λ k. number (k + 1)) columns)
numbers_are [] all = tt
numbers_are (k ∷ columns) all = (number_is (k + 1) (omega (arith, all.0)), numbers_are columns all.1)

-- the numbers of columns are those of the columns
pub number_pairs : (columns : List ℕ) → AllByRecursion IsColumnNumber columns → Pairwise IsNumberOf (map (λ k. number (k + 1)) columns) columns
number_pairs [] all = tt
number_pairs (k ∷ columns) all = ((all.0, refl), number_pairs columns all.1)

pub index_are : (count : ℕ) (index : Index) → count ≤ 255 → IsIndex count index → AreValues (index_values index)
index_are count index few is = (is.0, (number_is _ (kind_small index.kind), numbers_are index.columns (numbers_small count index.columns few is.2.1)))

-- the indexes' cells are those of the indexes
index_cells : (count : ℕ) (table : List ℕ) (indexes : List Index) → count ≤ 255 → AllByRecursion (IsIndex count) indexes → AllByRecursion IsShort (map (index_entry table) indexes)
    → Pairwise IsIndexCell (map cell_of (map (index_entry table) indexes)) indexes
index_cells count table [] few are short = tt
index_cells count table (index ∷ indexes) few are short =
    let columns = numbers_small count index.columns few are.0.2.1 in (
      record {
        tree = are.0.1;
        columns = columns;
        name = key_name table;
        key = refl;
        rec = record {
          values = index_are count index few are.0;
          short = short.0;
          bytes = refl;
        };
      },
      index_cells count table indexes few are.1 short.1,
    )

-- ---- the cells of a table

-- what a table's own cell tells
abbrev pub head_of : Table → Head
head_of t = record { name = t.name; tree = t.tree; count = length t.columns; alias = t.alias }

alias_small : (columns : List Column) (alias : Option ℕ) → length columns ≤ 255 → IsAlias columns alias → IsAliasNumber alias
alias_small columns None few is = tt
alias_small columns (Some k) few is =
    elim (slice_get_cases columns k).1 [
      | inl within ↦ omega (arith, few, within.1)
      | inr past ↦ absurd (MatchOption-at_none ⊥ (λ (column : Column). (column.class ≡ class.Int) × (column.not_null ≡ true)) past.1 is)
    ]

alias_value : (alias : Option ℕ) → IsAliasNumber alias → IsValue (number (alias_number alias))
alias_value None small = number_is 0 (omega arith)
alias_value (Some k) small = number_is (k + 1) (omega (arith, small))

pub head_is : (t : Table) → IsTable t → IsHead (head_of t)
head_is t is = record {
  tree = is.form.tree.1;
  count = omega (arith, is.form.count.1);
  alias = alias_small t.columns t.alias is.form.count.1 is.form.alias;
}

pub table_are : (t : Table) → IsTable t → AreValues (head_values (head_of t))
table_are t is = (
  is.form.name,
  (
    number_is t.tree (omega (arith, is.form.tree.1)),
    (number_is (length t.columns) (omega (arith, is.form.count.1)), (alias_value t.alias (alias_small t.columns t.alias is.form.count.1 is.form.alias), tt)),
  ),
)

-- the first cell is the table's own
pub first_is : (t : Table) (cells rest : List Cell) (first : Cell) → IsTable t → cells ≡ table_cells t → cells ≡ first ∷ rest → IsRecord (head_values (head_of t)) first.rec
first_is t cells rest first is all parts = record {
  values = table_are t is;
  short = is.short.0;
  bytes = ap (λ (l : List Cell). (get_or l 0 first).rec) (sym parts ∙ all);
}

column_entries_len : (table : List ℕ) (k : ℕ) (columns : List Column) → length (column_entries table k columns) ≡ length columns
column_entries_len table k [] = refl
column_entries_len table k (column ∷ columns) = omega (arith, column_entries_len table (k + 1) columns)

-- the cells after it are those of the columns and then those of the indexes
rest_is : (t : Table) (cells rest : List Cell) (first : Cell) → cells ≡ table_cells t → cells ≡ first ∷ rest
    → rest ≡ map cell_of (column_entries t.name 1 t.columns) ++ map cell_of (map (index_entry t.name) t.indexes)
rest_is t cells rest first all parts =
    ap (λ (l : List Cell). drop 1 l) (sym parts ∙ all) ∙ map-append cell_of (column_entries t.name 1 t.columns) (map (index_entry t.name) t.indexes)

columns_len : (t : Table) → length (map cell_of (column_entries t.name 1 t.columns)) ≡ length t.columns
columns_len t = length-map (column_entries t.name 1 t.columns) cell_of ∙ column_entries_len t.name 1 t.columns

pub rest_long : (t : Table) (cells rest : List Cell) (first : Cell) → cells ≡ table_cells t → cells ≡ first ∷ rest → length t.columns ≤ length rest
rest_long t cells rest first all parts =
    omega (arith, ap length (rest_is t cells rest first all parts), columns_len t, length-append (map cell_of (column_entries t.name 1 t.columns)) (map cell_of (map (index_entry t.name) t.indexes)))

pub rest_read : (t : Table) (cells rest before after : List Cell) (first : Cell) (head : Head) → IsTable t → cells ≡ table_cells t → cells ≡ first ∷ rest
    → head ≡ head_of t → before ≡ take head.count rest → after ≡ drop head.count rest → IsRest head before after t
rest_read t cells rest before after first head is all parts same front back =
    let columns = map cell_of (column_entries t.name 1 t.columns) in
    let indexes = map cell_of (map (index_entry t.name) t.indexes) in
    let whole : rest ≡ columns ++ indexes = rest_is t cells rest first all parts in
    let count : head.count ≡ length columns = ap (λ (h : Head). h.count) same ∙ sym (columns_len t) in
    let is_front : before ≡ columns = front ∙ ap (λ n. take n rest) count ∙ ap (λ l. take (length columns) l) whole ∙ take-append_seam columns indexes in
    let is_back : after ≡ indexes = back ∙ ap (λ n. drop n rest) count ∙ ap (λ l. drop (length columns) l) whole ∙ drop-append_seam columns indexes in
    let shorts = is.short.1 in
    record {
      name = ap (λ (h : Head). h.name) same;
      tree = ap (λ (h : Head). h.tree) same;
      alias = ap (λ (h : Head). h.alias) same;
      columns = subst (λ l. Pairwise IsColumnCell l t.columns) (sym is_front) (column_cells t.name 1 t.columns is.form.columns (all_front IsShort (column_entries t.name 1 t.columns) (map (index_entry t.name) t.indexes) shorts));
      indexes = subst (λ l. Pairwise IsIndexCell l t.indexes) (sym is_back) (index_cells (length t.columns) t.name t.indexes is.form.count.1 is.form.indexes (all_back IsShort (column_entries t.name 1 t.columns) (map (index_entry t.name) t.indexes) shorts));
    }

-- the numbers of columns are all of an index's record but the name and the kind
pub numbers_tail : (index : Index) (values : List Value) → values ≡ index_values index → take (length values - 2) (drop 2 values) ≡ map (λ k. number (k + 1)) index.columns
numbers_tail index values is =
    let numbers = map (λ k. number (k + 1)) index.columns in
    let e : length values - 2 ≡ length numbers = omega (arith, ap length is) in
    ap (λ n. take n (drop 2 values)) e ∙ ap (λ (l : List Value). take (length numbers) (drop 2 l)) is ∙ take-length numbers
