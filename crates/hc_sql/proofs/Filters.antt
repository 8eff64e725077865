-- What is found by a rowid and by an index are the rows of the table that pass a test, in their order.
use Rattle.std.proofs.Common.{◌≡◌, ℕ, ℤ, List, [], ◌∷◌, inl, inr, map, flat_map, Some, Bool, true, false, nat_eq, if◌then◌else◌, Ok, refl, sym, ap, subst, ◌∙◌}
use Rattle.std.specs.Prelude.{◌<ℤ◌}
use Rattle.std.specs.List.{AllByRecursion, filter}
use Rattle.std.specs.Option.{option_to_list}
use Rattle.std.specs.Ordering.{int_eq}
use Rattle.std.proofs.lemmas.Bool.{true≢false}
use Rattle.std.proofs.lemmas.Bool.Decides.{Decides-int_eq}
use Rattle.hc_value.specs.declared.value.Value.{Value}
use Rattle.hc_value.specs.declared.value.Value.TheVariants.{Int}
use Rattle.hc_base.specs.Lookup.{Among}
use Rattle.hc_schema.specs.declared.table.Table.{Table}
use Rattle.hc_schema.specs.declared.table.Index.{Index}
use Rattle.hc_schema.specs.declared.row.Row.{Row}
use Rattle.hc_schema.specs.Databases.{Database, IsFilled, IsDatabase, IsAboveNone, RowidsAscend}
use Rattle.hc_schema.proofs.Orders.{all_among, all_from}
use Rattle.hc_schema.proofs.SamePlaces.{never_below, rows_above}
use Rattle.hc_sql.specs.Work.{give, next, in_turn}
use Rattle.hc_sql.specs.Stored.{rows_in, row_at}
use Rattle.hc_sql.specs.Looks.{is_indexed, find_row, find_rowids, find_indexed}
use Rattle.hc_sql.specs.Select.{rows_by_rowid}
use Rattle.hc_sql.proofs.KeptDelete.{filtered}
use Rattle.hc_sql.proofs.Loops.{Comes, next_comes, turns_come}

-- the rows of a table of a database ascend
rows_ascend : (db : Database) (tree : ℕ) → AllByRecursion IsFilled db → RowidsAscend (rows_in db tree)
rows_ascend [] tree all = tt
rows_ascend (f ∷ db) tree all = by_test (nat_eq f.table.tree tree) (rows_ascend db tree all.1)
  where
    by_test : (here : Bool) → RowidsAscend (rows_in db tree) → RowidsAscend (if here then f.rows else rows_in db tree)
    by_test true rest = all.0.ascend
    by_test false rest = rest

-- ---- by a rowid

none_above : (k : ℤ) (rows : List Row) → IsAboveNone k rows → filter (λ (row : Row). int_eq row.rowid k) rows ≡ []
none_above k [] above = refl
none_above k (r ∷ rows) above = by_test (int_eq r.rowid k) refl (none_above k rows above.1)
  where
    by_test : (here : Bool) → int_eq r.rowid k ≡ here → filter (λ (row : Row). int_eq row.rowid k) rows ≡ [] → (if here then r ∷ filter (λ (row : Row). int_eq row.rowid k) rows else filter (λ (row : Row). int_eq row.rowid k) rows) ≡ []
    by_test true is rest = let less : k <ℤ k = subst (λ n. k <ℤ n) ((Decides-int_eq r.rowid k).0 is) above.0 in absurd (never_below k k less less)
    by_test false is rest = rest

one_row : (k : ℤ) (rows : List Row) → RowidsAscend rows → option_to_list (row_at k rows) ≡ filter (λ (row : Row). int_eq row.rowid k) rows
one_row k [] ascend = refl
one_row k (r ∷ rows) ascend = by_test (int_eq r.rowid k) refl (one_row k rows ascend.1)
  where
    by_test : (here : Bool) → int_eq r.rowid k ≡ here → option_to_list (row_at k rows) ≡ filter (λ (row : Row). int_eq row.rowid k) rows
        → option_to_list (if here then Some r else row_at k rows) ≡ (if here then r ∷ filter (λ (row : Row). int_eq row.rowid k) rows else filter (λ (row : Row). int_eq row.rowid k) rows)
    by_test true is rest = ap (λ l. r ∷ l) (sym (none_above k rows (subst (λ n. IsAboveNone n rows) ((Decides-int_eq r.rowid k).0 is) ascend.0)))
    by_test false is rest = rest

pub by_rowid : (db : Database) (t : Table) (k : ℤ) → IsDatabase db → (rows_by_rowid t (Int k) db).result ≡ Ok (filter (λ (row : Row). int_eq row.rowid k) (rows_in db t.tree))
by_rowid db t k is = ap Ok (one_row k (rows_in db t.tree) (rows_ascend db t.tree is.filled))

-- ---- by an index

-- a row is found by its rowid
found_by : (row : Row) (rows : List Row) → RowidsAscend rows → Among row rows → row_at row.rowid rows ≡ Some row
found_by row [] ascend among = absurd among
found_by row (r ∷ rows) ascend (inl same) = by_test (int_eq r.rowid row.rowid) ((Decides-int_eq r.rowid row.rowid).1 (ap (λ (x : Row). x.rowid) (sym same)))
  where
    by_test : (here : Bool) → here ≡ true → (if here then Some r else row_at row.rowid rows) ≡ Some row
    by_test true is = ap Some (sym same)
    by_test false is = absurd (true≢false (sym is))
found_by row (r ∷ rows) ascend (inr later) = by_test (int_eq r.rowid row.rowid) refl (found_by row rows ascend.1 later)
  where
    less : r.rowid <ℤ row.rowid
    less = all_among (λ (x : Row). r.rowid <ℤ x.rowid) row rows (rows_above r.rowid rows ascend.0) later

    by_test : (here : Bool) → int_eq r.rowid row.rowid ≡ here → row_at row.rowid rows ≡ Some row → (if here then Some r else row_at row.rowid rows) ≡ Some row
    by_test true is rest = let itself : row.rowid <ℤ row.rowid = subst (λ n. n <ℤ row.rowid) ((Decides-int_eq r.rowid row.rowid).0 is) less in absurd (never_below row.rowid row.rowid itself itself)
    by_test false is rest = rest

-- rows that are found by their rowids
all_found : (found rows : List Row) → AllByRecursion (λ (row : Row). row_at row.rowid rows ≡ Some row) found → flat_map option_to_list (map (λ k. row_at k rows) (map (λ (row : Row). row.rowid) found)) ≡ found
all_found [] rows all = refl
all_found (row ∷ found) rows all = ap (λ o. flat_map option_to_list (o ∷ map (λ k. row_at k rows) (map (λ (r : Row). r.rowid) found))) all.0 ∙ ap (λ l. row ∷ l) (all_found found rows all.1)

pub by_index : (db : Database) (t : Table) (index : Index) (values : List Value) → IsDatabase db → (find_indexed t index values db).result ≡ Ok (filter (is_indexed index values) (rows_in db t.tree))
by_index db t index values is =
    let rows = rows_in db t.tree in
    let found = filter (is_indexed index values) rows in
    let rowids = map (λ (row : Row). row.rowid) found in
    let rows_found = all_from (λ (row : Row). row_at row.rowid rows ≡ Some row) found (λ row among. found_by row rows (rows_ascend db t.tree is.filled) (filtered (is_indexed index values) rows row among)) in
    (next_comes (find_rowids t index values) (λ ks. next (in_turn (find_row t) ks) (λ list. give (flat_map option_to_list list))) db rowids found (refl, refl)
    (next_comes (in_turn (find_row t) rowids) (λ list. give (flat_map option_to_list list)) db (map (λ k. row_at k rows) rowids) found
    (turns_come (find_row t) (λ k. row_at k rows) db rowids (all_from (λ k. Comes (find_row t k) db (row_at k rows)) rowids (λ k among. (refl, refl))))
    (ap Ok (all_found found rows rows_found), refl))).0
