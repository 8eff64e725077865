-- Two databases with the same entries are one: each table is found by its name and its tree, and then its columns, its
-- indexes and its rows, which are in order.
use Rattle.std.proofs.Common.{◌≡◌, ℕ, zero, suc, ◌+◌, ◌-◌, Bool, true, false, Option, Some, None, List, [], ◌∷◌, map, length, set, refl, sym, ap, subst, ◌∙◌, arith}
use Rattle.hc_text.specs.Names.{SameName}
use Rattle.hc_value.specs.declared.storage.Class.{Class}
use Rattle.hc_value.specs.declared.storage.Class.TheVariants as class
use Rattle.hc_value.specs.declared.value.Value.{Value}
use Rattle.hc_value.specs.declared.value.Value.TheVariants.{Null, Int}
use Rattle.hc_base.specs.Lookup.{Among}
use Rattle.hc_schema.specs.declared.entry.Entry.{Entry}
use Rattle.hc_schema.specs.declared.table.Table.{Table}
use Rattle.hc_schema.specs.declared.table.Column.{Column}
use Rattle.hc_schema.specs.declared.table.Index.{Index}
use Rattle.hc_schema.specs.declared.table.IndexKind.{IndexKind}
use Rattle.hc_schema.specs.declared.table.IndexKind.TheVariants as kind
use Rattle.hc_schema.specs.Cells.{number, alias_number, class_number, flag_number, kind_number, table_entry, column_entries, column_values, index_entry, row_entry, stored_values, value_at}
use Rattle.hc_schema.specs.declared.row.Row.{Row}
use Rattle.hc_schema.specs.Databases.{Database, Filled, IsRow, HasRowid, IsFilled, IsDatabase, filled_entries, entries_of}
use Rattle.hc_schema.proofs.Orders.{among_flat, Within, from_flat, all_among}
use Rattle.hc_schema.proofs.EntryKinds.{text_of, int_of, nat_of, first_of, rest_of, second_of, third_of, table_place, column_place, index_place, row_place, table_here, column_here, column_kind, column_name, index_here, index_kind, row_here, row_kind}
use Rattle.hc_schema.proofs.SamePlaces.{one_name, one_tree, placed}

-- ---- what a part of an entry tells

pub alias_same : (a b : Option ℕ) → alias_number a ≡ alias_number b → a ≡ b
alias_same None None same = refl
alias_same None (Some k) same = absurd (omega (arith, same))
alias_same (Some k) None same = absurd (omega (arith, same))
alias_same (Some k) (Some l) same = let e : k ≡ l = omega (arith, same) in ap Some e

pub class_same : (a b : Class) → class_number a ≡ class_number b → a ≡ b
class_same class.Int class.Int same = refl
class_same class.Text class.Text same = refl
class_same class.Blob class.Blob same = refl
class_same class.Null class.Null same = refl
class_same a b same = absurd (omega (arith, same))

pub flag_same : (a b : Bool) → flag_number a ≡ flag_number b → a ≡ b
flag_same false false same = refl
flag_same true true same = refl
flag_same false true same = absurd (omega (arith, same))
flag_same true false same = absurd (omega (arith, same))

pub kind_same : (a b : IndexKind) → kind_number a ≡ kind_number b → a ≡ b
kind_same kind.Plain kind.Plain same = refl
kind_same kind.Unique kind.Unique same = refl
kind_same kind.UniqueRule kind.UniqueRule same = refl
kind_same kind.Primary kind.Primary same = refl
kind_same a b same = absurd (omega (arith, same))

pub column_same : (a b : Column) → column_values a ≡ column_values b → a ≡ b
column_same a b same =
    let name : a.name ≡ b.name = ap (λ l. text_of (first_of l)) same in
    let class : a.class ≡ b.class = class_same a.class b.class (ap (λ l. nat_of (second_of l)) same) in
    let flag : a.not_null ≡ b.not_null = flag_same a.not_null b.not_null (ap (λ l. nat_of (third_of l)) same) in
    λ i. record { name = name i; class = class i; not_null = flag i }

abbrev pub rest_after : List Entry → List Entry
rest_after [] = []
rest_after (e ∷ entries) = entries

abbrev pub first_values : List Entry → List Value
first_values [] = []
first_values (e ∷ entries) = e.values

pub columns_same : (name other : List ℕ) (k : ℕ) (a b : List Column) → column_entries name k a ≡ column_entries other k b → a ≡ b
columns_same name other k [] [] same = refl
columns_same name other k [] (d ∷ b) same = absurd (let e : 0 ≡ suc (length (column_entries other (k + 1) b)) = ap length same in omega (arith, e))
columns_same name other k (c ∷ a) [] same = absurd (let e : suc (length (column_entries name (k + 1) a)) ≡ 0 = ap length same in omega (arith, e))
columns_same name other k (c ∷ a) (d ∷ b) same =
    ap (λ x. x ∷ a) (column_same c d (ap first_values same)) ∙ ap (λ l. d ∷ l) (columns_same name other (k + 1) a b (ap rest_after same))

pub unnumbered : (columns : List ℕ) → map (λ v. nat_of v - 1) (map (λ k. number (k + 1)) columns) ≡ columns
unnumbered [] = refl
unnumbered (k ∷ columns) = let e : k + 1 - 1 ≡ k = omega arith in ap (λ n. n ∷ map (λ v. nat_of v - 1) (map (λ k. number (k + 1)) columns)) e ∙ ap (λ l. k ∷ l) (unnumbered columns)

pub index_same : (name other : List ℕ) (a b : Index) → index_entry name a ≡ index_entry other b → a ≡ b
index_same name other a b same =
    let values = ap (λ (e : Entry). e.values) same in
    let is_name : a.name ≡ b.name = ap (λ l. text_of (first_of l)) values in
    let tree : a.tree ≡ b.tree = ap (λ (e : Entry). nat_of (second_of e.key)) same in
    let is_kind : a.kind ≡ b.kind = kind_same a.kind b.kind (ap (λ l. nat_of (second_of l)) values) in
    let columns : a.columns ≡ b.columns = sym (unnumbered a.columns) ∙ ap (λ l. map (λ v. nat_of v - 1) (rest_of (rest_of l))) values ∙ unnumbered b.columns in
    λ i. record { name = is_name i; tree = tree i; kind = is_kind i; columns = columns i }

pub restored : (values : List Value) (k : ℕ) → set (set values k Null) k (value_at values k) ≡ values
restored [] k = refl
restored (v ∷ values) zero = refl
restored (v ∷ values) (suc k) = ap (λ l. v ∷ l) (restored values k)

pub stored_same : (alias : Option ℕ) (a b : Row) → HasRowid alias a → HasRowid alias b → a.rowid ≡ b.rowid → stored_values alias a.values ≡ stored_values alias b.values → a.values ≡ b.values
stored_same None a b left right rowid same = same
stored_same (Some k) a b left right rowid same =
    sym (restored a.values k)
    ∙ ap (λ l. set l k (value_at a.values k)) same
    ∙ ap (λ v. set (set b.values k Null) k v) (left ∙ ap Int rowid ∙ sym right)
    ∙ restored b.values k

pub row_same : (t u : Table) (a b : Row) → t.alias ≡ u.alias → IsRow t a → IsRow u b → row_entry t a.rowid a.values ≡ row_entry u b.rowid b.values → a ≡ b
row_same t u a b alias left right same =
    let rowid : a.rowid ≡ b.rowid = ap (λ (e : Entry). int_of (first_of e.key)) same in
    let stored : stored_values t.alias a.values ≡ stored_values t.alias b.values = ap (λ (e : Entry). e.values) same ∙ ap (λ o. stored_values o b.values) (sym alias) in
    let values : a.values ≡ b.values = stored_same t.alias a b left.alias (subst (λ o. HasRowid o b) (sym alias) right.alias) rowid stored in
    λ i. record { rowid = rowid i; values = values i }

-- ---- from one database to another that has its entries, all of them or those of a kind

module _ (a b : Database) (is_a : IsDatabase a) (is_b : IsDatabase b) (P : Entry → Type 0) (covered : (e : Entry) → P e → Among e (entries_of a) → Among e (entries_of b)) where
  carried : (f : Filled) (e : Entry) → P e → Among f a → Among e (filled_entries f) → Within filled_entries e b
  carried f e is in_a among = from_flat filled_entries e b (covered e is (among_flat filled_entries e f a in_a among))

  filled_of : (f : Filled) → Among f b → IsFilled f
  filled_of f among = all_among IsFilled f b is_b.filled among

  -- the table that has the same entry
  pub record Twin (f : Filled) : Type 0 where
    pub other : Filled
    pub among : Among other b
    pub same : table_entry f.table ≡ table_entry other.table

  pub twin : (f : Filled) → P (table_entry f.table) → Among f a → Twin f
  twin f is in_a =
      let within = carried f (table_entry f.table) is in_a (table_place f) in
      record {
        other = within.x;
        among = within.among;
        same = table_here within.x (placed within.x (filled_of within.x within.among)) (table_entry f.table) within.here refl;
      }

  module _ (f g : Filled) (in_a : Among f a) (in_b : Among g b) (name : SameName f.table.name g.table.name) (tree : f.table.tree ≡ g.table.tree) (alias : f.table.alias ≡ g.table.alias) where
    pub columns_over : (e : Entry) → P e → Among e (column_entries f.table.name 1 f.table.columns) → Among e (column_entries g.table.name 1 g.table.columns)
    columns_over e is among =
        let within = carried f e is in_a (column_place f e among) in
        let here = column_here within.x (placed within.x (filled_of within.x within.among)) e within.here (column_kind f e among) in
        let names : SameName within.x.table.name g.table.name =
        sym (column_name within.x.table.name 1 within.x.table.columns e here) ∙ column_name f.table.name 1 f.table.columns e among ∙ name in
        subst (λ (h : Filled). Among e (column_entries h.table.name 1 h.table.columns)) (one_name b within.x g is_b within.among in_b names) here

    pub indexes_over : IsFilled f → (index : Index) → P (index_entry f.table.name index) → Among index f.table.indexes → Among index g.table.indexes
    indexes_over is_f index is among =
        let e = index_entry f.table.name index in
        let above = (placed f is_f).index_trees index among in
        let within = carried f e is in_a (index_place f index among) in
        let here = index_here within.x (placed within.x (filled_of within.x within.among)) e within.here (index_kind f.table.name index above.0 above.1) in
        let names : SameName within.x.table.name g.table.name = sym (ap (λ (d : Entry). text_of (first_of d.key)) here.is) ∙ name in
        let same : index ≡ here.index = index_same f.table.name within.x.table.name index here.index here.is in
        subst (λ (h : Filled). Among index h.table.indexes) (one_name b within.x g is_b within.among in_b names) (subst (λ i. Among i within.x.table.indexes) (sym same) here.among)

    pub rows_over : IsFilled f → (row : Row) → P (row_entry f.table row.rowid row.values) → Among row f.rows → Among row g.rows
    rows_over is_f row is among =
        let e = row_entry f.table row.rowid row.values in
        let above = (placed f is_f).tree in
        let within = carried f e is in_a (row_place f row among) in
        let is_h = filled_of within.x within.among in
        let here = row_here within.x (placed within.x is_h) e within.here (row_kind f.table row.rowid row.values above.0 above.1) in
        let trees : within.x.table.tree ≡ g.table.tree = sym (ap (λ (d : Entry). d.tree) here.is) ∙ tree in
        let one : within.x ≡ g = one_tree b within.x g is_b within.among in_b trees in
        let aliases : f.table.alias ≡ within.x.table.alias = alias ∙ sym (ap (λ (h : Filled). h.table.alias) one) in
        let same : row ≡ here.row = row_same f.table within.x.table row here.row aliases (all_among (IsRow f.table) row f.rows is_f.rows among) (all_among (IsRow within.x.table) here.row within.x.rows is_h.rows here.among) here.is in
        subst (λ (h : Filled). Among row h.rows) one (subst (λ r. Among r within.x.rows) (sym same) here.among)
