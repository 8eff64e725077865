-- What statements look at, with the ranges that are read for it.
use Rattle.std.specs.Prelude.{ℕ, ℤ, Bool, true, false, ◌&&◌, List, [], ◌∷◌, map, flat_map, Option, Some, None}
use Rattle.std.specs.Option.{option_to_list}
use Rattle.std.specs.List.{list_any, filter}
use Rattle.std.specs.Ordering.{is_eq}
use Rattle.std.specs.Cmp.Lexicographic.{slice_cmp}
use Rattle.hc_range.specs.declared.range.Range.{Range}
use Rattle.hc_range.specs.Order.{successor}
use Rattle.hc_value.specs.declared.value.Value.{Value}
use Rattle.hc_value.specs.declared.value.Value.TheVariants.{Int}
use Rattle.hc_value.specs.Order.{value_order}
use Rattle.hc_key.specs.Keys.{key_bytes}
use Rattle.hc_schema.specs.declared.row.Row.{Row}
use Rattle.hc_schema.specs.declared.table.Table.{Table}
use Rattle.hc_schema.specs.declared.table.Index.{Index}
use Rattle.hc_schema.specs.Cells.{catalog_range, whole_catalog, tree_range, value_range, indexed_values}
use Rattle.hc_sql.specs.Work.{Work, give, next, in_turn, look}
use Rattle.hc_sql.specs.Stored.{table_of, rows_in, row_at, last_rowid}

-- ---- values and keys

-- lists of values are the same, NULL as NULL
abbrev pub same_values : List Value → List Value → Bool
same_values a b = is_eq (slice_cmp value_order a b)

-- values begin with others
abbrev pub begins_with : List Value → List Value → Bool
begins_with values [] = true
begins_with [] (w ∷ others) = false
begins_with (v ∷ values) (w ∷ others) = is_eq (value_order v w) && begins_with values others

-- the one key, as a range
abbrev pub only : List ℕ → Range
only key = record { lo = key; hi = Some (successor key) }

abbrev pub row_key : Table → ℤ → List ℕ
row_key t rowid = key_bytes t.tree (Int rowid ∷ [])

-- ---- looks

-- the table of a name: the catalog range of the name is read
abbrev pub find_table : List ℕ → Work (Option Table)
find_table name = look (catalog_range name) (λ db. table_of db name)

-- all tables: the whole catalog is read
abbrev pub read_catalog : Work (List Table)
read_catalog = look whole_catalog (map (λ f. f.table))

-- all rows of a table, in order of rowids: the table's range is read
abbrev pub find_rows : Table → Work (List Row)
find_rows t = look (tree_range t.tree) (λ db. rows_in db t.tree)

-- the row with a rowid: its key is read
abbrev pub find_row : Table → ℤ → Work (Option Row)
find_row t rowid = look (only (row_key t rowid)) (λ db. row_at rowid (rows_in db t.tree))

-- a row is in the index under values that begin with these
abbrev pub is_indexed : Index → List Value → Row → Bool
is_indexed index values row = begins_with (indexed_values index row.values) values

-- the rowids under these values in an index, in order of rowids: the index's range of the values is read
abbrev pub find_rowids : Table → Index → List Value → Work (List ℤ)
find_rowids t index values =
    look (value_range index.tree values) (λ db. map (λ row. row.rowid) (filter (is_indexed index values) (rows_in db t.tree)))

-- the rows under these values in an index, in order of rowids: the index's range, and then the key of each of the rows
abbrev pub find_indexed : Table → Index → List Value → Work (List Row)
find_indexed t index values =
    next (find_rowids t index values) (λ rowids. next (in_turn (find_row t) rowids) (λ found. give (flat_map option_to_list found)))

-- whether any row has these values in an index: the index's range of the values is read
abbrev pub is_taken : Table → Index → List Value → Work Bool
is_taken t index values = look (value_range index.tree values) (λ db. list_any (is_indexed index values) (rows_in db t.tree))

-- from the last row's key to the table's end, or the whole table where it has no row
abbrev pub end_range : Table → Option ℤ → Range
end_range t None = tree_range t.tree
end_range t (Some rowid) = record { lo = row_key t rowid; hi = (tree_range t.tree).hi }

-- the greatest rowid of a table: what is read ends at the last row
abbrev pub find_last : Table → Work (Option ℤ)
find_last t db = look (end_range t (last_rowid (rows_in db t.tree))) (λ d. last_rowid (rows_in d t.tree)) db
