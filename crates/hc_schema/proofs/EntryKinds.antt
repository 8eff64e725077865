-- The entries of a database by their kinds: each can be told from its tree, its key and its values.
use Rattle.std.proofs.Common.{◌≡◌, ◌≢◌, ℕ, zero, suc, ◌+◌, ◌*◌, ◌<◌, ℤ, pos, negsuc, List, [], ◌∷◌, ◌++◌, inl, inr, map, flat_map, length, refl, ap, ◌∙◌, arith}
use Rattle.hc_value.specs.declared.value.Value.{Value}
use Rattle.hc_value.specs.declared.value.Value.TheVariants.{Null, Int, Text, Blob}
use Rattle.hc_base.specs.Lookup.{Among}
use Rattle.hc_schema.specs.declared.entry.Entry.{Entry}
use Rattle.hc_schema.specs.declared.table.Table.{Table}
use Rattle.hc_schema.specs.declared.table.Column.{Column}
use Rattle.hc_schema.specs.declared.table.Index.{Index}
use Rattle.hc_schema.specs.Cells.{number, key_name, table_entry, column_entries, index_entry, index_name_entry, name_entries, row_entry, row_index_entry, row_entries, value_at, indexed_values}
use Rattle.hc_schema.specs.declared.row.Row.{Row}
use Rattle.hc_schema.specs.Databases.{Filled, filled_entries}
use Rattle.hc_schema.proofs.Orders.{among_front, among_back, among_either, among_map, among_flat, from_map, from_flat}

-- ---- what an entry is of

abbrev pub text_first : List Value → ℕ
text_first [] = 1
text_first (Null ∷ values) = 0
text_first (Int n ∷ values) = 1
text_first (Text t ∷ values) = 1
text_first (Blob b ∷ values) = 1

abbrev pub second_kind : Value → List Value → List Value → ℕ
second_kind (Int (pos zero)) [] values = 3 * text_first values
second_kind (Int (pos (suc n))) [] values = 2
second_kind second rest values = 1

abbrev pub catalog_kind : List Value → List Value → ℕ
catalog_kind [] values = 1
catalog_kind (name ∷ []) values = 1
catalog_kind (name ∷ second ∷ rest) values = second_kind second rest values

abbrev pub tree_kind : List Value → ℕ
tree_kind [] = 5
tree_kind (v ∷ []) = 4
tree_kind (v ∷ w ∷ key) = 5

-- 0 the name of an index, 1 a column, 2 an index of a table, 3 a table, 4 a row, 5 a row in an index
abbrev pub kind_in : ℕ → List Value → List Value → ℕ
kind_in zero key values = catalog_kind key values
kind_in (suc tree) key values = tree_kind key

abbrev pub kind_of : Entry → ℕ
kind_of e = kind_in e.tree e.key e.values

pub index_kind : (name : List ℕ) (index : Index) (n : ℕ) → index.tree ≡ suc n → kind_of (index_entry name index) ≡ 2
index_kind name index n is = ap (λ t. second_kind (number t) [] (index_entry name index).values) is

pub row_kind : (t : Table) (rowid : ℤ) (values : List Value) (n : ℕ) → t.tree ≡ suc n → kind_of (row_entry t rowid values) ≡ 4
row_kind t rowid values n is = ap (λ tree. kind_in tree (Int rowid ∷ []) (row_entry t rowid values).values) is

two_kind : (values : List Value) (v : Value) → 0 < length values → tree_kind (values ++ v ∷ []) ≡ 5
two_kind [] v some = absurd (omega arith)
two_kind (w ∷ []) v some = refl
two_kind (w ∷ x ∷ values) v some = refl

some_columns : (index : Index) (values : List Value) → index.columns ≢ [] → 0 < length (indexed_values index values)
some_columns index values some = by_list index.columns some
  where
    by_list : (columns : List ℕ) → columns ≢ [] → 0 < length (map (value_at values) columns)
    by_list [] some = absurd (some refl)
    by_list (k ∷ columns) some = omega arith

pub row_index_kind : (rowid : ℤ) (values : List Value) (index : Index) (n : ℕ) → index.tree ≡ suc n → index.columns ≢ [] → kind_of (row_index_entry rowid values index) ≡ 5
row_index_kind rowid values index n is some =
    ap (λ tree. kind_in tree (indexed_values index values ++ Int rowid ∷ []) []) is ∙ two_kind (indexed_values index values) (Int rowid) (some_columns index values some)

-- a number above 0 is a successor
pub above_zero : (n : ℕ) → 0 < n → (m : ℕ) × (n ≡ suc m)
above_zero zero some = absurd (omega arith)
above_zero (suc n) some = (n, refl)

-- ---- the parts of an entry

abbrev pub text_of : Value → List ℕ
text_of Null = []
text_of (Int n) = []
text_of (Text text) = text
text_of (Blob bytes) = []

abbrev pub int_of : Value → ℤ
int_of Null = pos 0
int_of (Int n) = n
int_of (Text text) = pos 0
int_of (Blob bytes) = pos 0

abbrev pub nat_in : ℤ → ℕ
nat_in (pos n) = n
nat_in (negsuc n) = 0

abbrev pub nat_of : Value → ℕ
nat_of v = nat_in (int_of v)

-- the values at the front of a list, NULL where it is shorter
abbrev pub first_of : List Value → Value
first_of [] = Null
first_of (v ∷ values) = v

abbrev pub rest_of : List Value → List Value
rest_of [] = []
rest_of (v ∷ values) = values

abbrev pub second_of : List Value → Value
second_of values = first_of (rest_of values)

abbrev pub third_of : List Value → Value
third_of values = first_of (rest_of (rest_of values))

abbrev pub fourth_of : List Value → Value
fourth_of values = first_of (rest_of (rest_of (rest_of values)))

-- ---- the place of an entry among those of a table and its rows

pub data Place (f : Filled) (e : Entry) : Type 0 where
  of_table : e ≡ table_entry f.table → Place f e
  of_column : Among e (column_entries f.table.name 1 f.table.columns) → Place f e
  of_index : (index : Index) → Among index f.table.indexes → e ≡ index_entry f.table.name index → Place f e
  of_name : (index : Index) → Among index f.table.indexes → e ≡ index_name_entry f.table.name index → Place f e
  of_row : (row : Row) → Among row f.rows → e ≡ row_entry f.table row.rowid row.values → Place f e
  of_row_index : (row : Row) (index : Index) → Among row f.rows → Among index f.table.indexes → e ≡ row_index_entry row.rowid row.values index → Place f e

in_row : (f : Filled) (e : Entry) (row : Row) → Among row f.rows → Among e (row_entries f.table row.rowid row.values) → Place f e
in_row f e row among (inl same) = of_row row among same
in_row f e row among (inr rest) =
    let from = from_map (row_index_entry row.rowid row.values) e f.table.indexes rest in of_row_index row from.x among from.among from.is

pub place_of : (f : Filled) (e : Entry) → Among e (filled_entries f) → Place f e
place_of f e (inl same) = of_table same
place_of f e (inr rest) =
    elim (among_either e (column_entries f.table.name 1 f.table.columns ++ map (index_entry f.table.name) f.table.indexes) (name_entries f.table ++ flat_map (λ (row : Row). row_entries f.table row.rowid row.values) f.rows) rest) [
      | inl catalog ↦ elim (among_either e (column_entries f.table.name 1 f.table.columns) (map (index_entry f.table.name) f.table.indexes) catalog) [
        | inl column ↦ of_column column
        | inr index ↦ let from = from_map (index_entry f.table.name) e f.table.indexes index in of_index from.x from.among from.is
      ]
      | inr later ↦ elim (among_either e (name_entries f.table) (flat_map (λ (row : Row). row_entries f.table row.rowid row.values) f.rows) later) [
        | inl name ↦ let from = from_map (index_name_entry f.table.name) e f.table.indexes name in of_name from.x from.among from.is
        | inr row ↦ let within = from_flat (λ (r : Row). row_entries f.table r.rowid r.values) e f.rows row in in_row f e within.x within.among within.here
      ]
    ]

-- ---- and the other way round

pub table_place : (f : Filled) → Among (table_entry f.table) (filled_entries f)
table_place f = inl refl

pub column_place : (f : Filled) (e : Entry) → Among e (column_entries f.table.name 1 f.table.columns) → Among e (filled_entries f)
column_place f e among =
    inr (among_front e (column_entries f.table.name 1 f.table.columns ++ map (index_entry f.table.name) f.table.indexes) (name_entries f.table ++ flat_map (λ (row : Row). row_entries f.table row.rowid row.values) f.rows)
    (among_front e (column_entries f.table.name 1 f.table.columns) (map (index_entry f.table.name) f.table.indexes) among))

pub index_place : (f : Filled) (index : Index) → Among index f.table.indexes → Among (index_entry f.table.name index) (filled_entries f)
index_place f index among =
    let e = index_entry f.table.name index in
    inr (among_front e (column_entries f.table.name 1 f.table.columns ++ map (index_entry f.table.name) f.table.indexes) (name_entries f.table ++ flat_map (λ (row : Row). row_entries f.table row.rowid row.values) f.rows)
    (among_back e (column_entries f.table.name 1 f.table.columns) (map (index_entry f.table.name) f.table.indexes) (among_map (index_entry f.table.name) index f.table.indexes among)))

pub row_place : (f : Filled) (row : Row) → Among row f.rows → Among (row_entry f.table row.rowid row.values) (filled_entries f)
row_place f row among =
    let e = row_entry f.table row.rowid row.values in
    let rows = flat_map (λ (r : Row). row_entries f.table r.rowid r.values) f.rows in
    inr (among_back e (column_entries f.table.name 1 f.table.columns ++ map (index_entry f.table.name) f.table.indexes) (name_entries f.table ++ rows)
    (among_back e (name_entries f.table) rows (among_flat (λ (r : Row). row_entries f.table r.rowid r.values) e row f.rows among (inl refl))))

pub row_index_place : (f : Filled) (row : Row) (index : Index) → Among row f.rows → Among index f.table.indexes → Among (row_index_entry row.rowid row.values index) (filled_entries f)
row_index_place f row index among listed =
    let e = row_index_entry row.rowid row.values index in
    let rows = flat_map (λ (r : Row). row_entries f.table r.rowid r.values) f.rows in
    inr (among_back e (column_entries f.table.name 1 f.table.columns ++ map (index_entry f.table.name) f.table.indexes) (name_entries f.table ++ rows)
    (among_back e (name_entries f.table) rows (among_flat (λ (r : Row). row_entries f.table r.rowid r.values) e row f.rows among
    (inr (among_map (row_index_entry row.rowid row.values) index f.table.indexes listed)))))

-- ---- the kind at each place

column_number : (name : List ℕ) (k : ℕ) (columns : List Column) (e : Entry) → Among e (column_entries name k columns) → (kind_of e ≡ 1) × (first_of e.key ≡ key_name name)
column_number name k [] e among = absurd among
column_number name k (column ∷ columns) e (inl same) = (ap kind_of same, ap (λ (d : Entry). first_of d.key) same)
column_number name k (column ∷ columns) e (inr among) = column_number name (k + 1) columns e among

pub column_name : (name : List ℕ) (k : ℕ) (columns : List Column) (e : Entry) → Among e (column_entries name k columns) → text_of (first_of e.key) ≡ text_of (key_name name)
column_name name k columns e among = ap text_of (column_number name k columns e among).1

-- the trees of a table and its indexes are above 0, and an index has columns
pub record IsPlaced (f : Filled) : Type 0 where
  pub tree : (n : ℕ) × (f.table.tree ≡ suc n)
  pub index_trees : (index : Index) → Among index f.table.indexes → (n : ℕ) × (index.tree ≡ suc n)
  pub columns : (index : Index) → Among index f.table.indexes → index.columns ≢ []

unfoldable pub kind_at : (f : Filled) → IsPlaced f → (e : Entry) → Place f e → ℕ
kind_at f is e (of_table same) = 3
kind_at f is e (of_column among) = 1
kind_at f is e (of_index index among same) = 2
kind_at f is e (of_name index among same) = 0
kind_at f is e (of_row row among same) = 4
kind_at f is e (of_row_index row index among in_table same) = 5

pub kind_is : (f : Filled) (is : IsPlaced f) (e : Entry) (place : Place f e) → kind_of e ≡ kind_at f is e place
unfolding kind_at
kind_is f is e (of_table same) = ap kind_of same
kind_is f is e (of_column among) = (column_number f.table.name 1 f.table.columns e among).0
kind_is f is e (of_index index among same) = let above = is.index_trees index among in ap kind_of same ∙ index_kind f.table.name index above.0 above.1
kind_is f is e (of_name index among same) = ap kind_of same
kind_is f is e (of_row row among same) = ap kind_of same ∙ row_kind f.table row.rowid row.values is.tree.0 is.tree.1
kind_is f is e (of_row_index row index among in_table same) =
    let above = is.index_trees index in_table in ap kind_of same ∙ row_index_kind row.rowid row.values index above.0 above.1 (is.columns index in_table)

-- ---- an entry of a kind is in the place of that kind

pub table_here : (f : Filled) → IsPlaced f → (e : Entry) → Among e (filled_entries f) → kind_of e ≡ 3 → e ≡ table_entry f.table
unfolding kind_at
table_here f is e among kind = by_place (place_of f e among)
  where
    by_place : Place f e → e ≡ table_entry f.table
    by_place (of_table same) = same
    by_place (of_column here) = absurd (omega (arith, kind, kind_is f is e (of_column here)))
    by_place (of_index index here same) = absurd (omega (arith, kind, kind_is f is e (of_index index here same)))
    by_place (of_name index here same) = absurd (omega (arith, kind, kind_is f is e (of_name index here same)))
    by_place (of_row row here same) = absurd (omega (arith, kind, kind_is f is e (of_row row here same)))
    by_place (of_row_index row index here there same) = absurd (omega (arith, kind, kind_is f is e (of_row_index row index here there same)))

pub column_here : (f : Filled) → IsPlaced f → (e : Entry) → Among e (filled_entries f) → kind_of e ≡ 1 → Among e (column_entries f.table.name 1 f.table.columns)
unfolding kind_at
column_here f is e among kind = by_place (place_of f e among)
  where
    by_place : Place f e → Among e (column_entries f.table.name 1 f.table.columns)
    by_place (of_table same) = absurd (omega (arith, kind, kind_is f is e (of_table same)))
    by_place (of_column here) = here
    by_place (of_index index here same) = absurd (omega (arith, kind, kind_is f is e (of_index index here same)))
    by_place (of_name index here same) = absurd (omega (arith, kind, kind_is f is e (of_name index here same)))
    by_place (of_row row here same) = absurd (omega (arith, kind, kind_is f is e (of_row row here same)))
    by_place (of_row_index row index here there same) = absurd (omega (arith, kind, kind_is f is e (of_row_index row index here there same)))

pub column_kind : (f : Filled) (e : Entry) → Among e (column_entries f.table.name 1 f.table.columns) → kind_of e ≡ 1
column_kind f e among = (column_number f.table.name 1 f.table.columns e among).0

pub record IndexHere (f : Filled) (e : Entry) : Type 0 where
  pub index : Index
  pub among : Among index f.table.indexes
  pub is : e ≡ index_entry f.table.name index

pub index_here : (f : Filled) → IsPlaced f → (e : Entry) → Among e (filled_entries f) → kind_of e ≡ 2 → IndexHere f e
unfolding kind_at
index_here f is e among kind = by_place (place_of f e among)
  where
    by_place : Place f e → IndexHere f e
    by_place (of_table same) = absurd (omega (arith, kind, kind_is f is e (of_table same)))
    by_place (of_column here) = absurd (omega (arith, kind, kind_is f is e (of_column here)))
    by_place (of_index index here same) = record { index = index; among = here; is = same }
    by_place (of_name index here same) = absurd (omega (arith, kind, kind_is f is e (of_name index here same)))
    by_place (of_row row here same) = absurd (omega (arith, kind, kind_is f is e (of_row row here same)))
    by_place (of_row_index row index here there same) = absurd (omega (arith, kind, kind_is f is e (of_row_index row index here there same)))

pub record RowHere (f : Filled) (e : Entry) : Type 0 where
  pub row : Row
  pub among : Among row f.rows
  pub is : e ≡ row_entry f.table row.rowid row.values

pub row_here : (f : Filled) → IsPlaced f → (e : Entry) → Among e (filled_entries f) → kind_of e ≡ 4 → RowHere f e
unfolding kind_at
row_here f is e among kind = by_place (place_of f e among)
  where
    by_place : Place f e → RowHere f e
    by_place (of_table same) = absurd (omega (arith, kind, kind_is f is e (of_table same)))
    by_place (of_column here) = absurd (omega (arith, kind, kind_is f is e (of_column here)))
    by_place (of_index index here same) = absurd (omega (arith, kind, kind_is f is e (of_index index here same)))
    by_place (of_name index here same) = absurd (omega (arith, kind, kind_is f is e (of_name index here same)))
    by_place (of_row row here same) = record { row = row; among = here; is = same }
    by_place (of_row_index row index here there same) = absurd (omega (arith, kind, kind_is f is e (of_row_index row index here there same)))

pub record RowIndexHere (f : Filled) (e : Entry) : Type 0 where
  pub row : Row
  pub index : Index
  pub among : Among row f.rows
  pub listed : Among index f.table.indexes
  pub is : e ≡ row_index_entry row.rowid row.values index

pub row_index_here : (f : Filled) → IsPlaced f → (e : Entry) → Among e (filled_entries f) → kind_of e ≡ 5 → RowIndexHere f e
unfolding kind_at
row_index_here f is e among kind = by_place (place_of f e among)
  where
    by_place : Place f e → RowIndexHere f e
    by_place (of_table same) = absurd (omega (arith, kind, kind_is f is e (of_table same)))
    by_place (of_column here) = absurd (omega (arith, kind, kind_is f is e (of_column here)))
    by_place (of_index index here same) = absurd (omega (arith, kind, kind_is f is e (of_index index here same)))
    by_place (of_name index here same) = absurd (omega (arith, kind, kind_is f is e (of_name index here same)))
    by_place (of_row row here same) = absurd (omega (arith, kind, kind_is f is e (of_row row here same)))
    by_place (of_row_index row index here there same) = record { row = row; index = index; among = here; listed = there; is = same }
