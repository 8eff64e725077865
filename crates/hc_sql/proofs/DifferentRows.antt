-- The rows that meet a condition have different rowids.
use Rattle.std.proofs.Common.{◌≡◌, ◌+◌, ℤ, List, [], ◌∷◌, ◌++◌, inl, inr, map, flat_map, Option, Some, None, Bool, true, false, if◌then◌else◌, refl, sym, ap, subst}
use Rattle.std.specs.Prelude.{slice_get, ◌<ℤ◌}
use Rattle.std.specs.List.{AllByRecursion, filter}
use Rattle.std.specs.Option.{option_to_list, option_and_then, unwrap_or}
use Rattle.hc_value.specs.declared.value.Value.{Value}
use Rattle.hc_value.specs.declared.value.Value.TheVariants.{Null, Int, Text, Blob}
use Rattle.hc_ast.specs.declared.bound.Bound.{Bound}
use Rattle.hc_transcript.specs.declared.refusal.Refusal.TheVariants.{Overflow}
use Rattle.hc_schema.specs.declared.table.Table.{Table}
use Rattle.hc_schema.specs.declared.table.Index.{Index}
use Rattle.hc_schema.specs.declared.row.Row.{Row}
use Rattle.hc_schema.specs.declared.path.Path.{Path}
use Rattle.hc_schema.specs.declared.path.Path.TheVariants.{Rowid, ByIndex, Whole}
use Rattle.hc_schema.specs.Databases.{Database}
use Rattle.hc_schema.specs.Paths.{path_of}
use Rattle.hc_schema.proofs.Orders.{Ordered}
use Rattle.hc_schema.proofs.SamePlaces.{all_weaker, never_below}
use Rattle.hc_sql.specs.Work.{Work, give, next, in_turn, need}
use Rattle.hc_sql.specs.Stored.{rows_in, row_at}
use Rattle.hc_sql.specs.Looks.{is_indexed, find_row, find_rowids, find_indexed}
use Rattle.hc_sql.specs.Select.{meets, sought, sought_value, rows_by_rowid, rows_by_value, rows_by_index, index_place, value_sought, path_rows, flat}
use Rattle.hc_sql.specs.Update.{if_found, met_row, met_rows}
use Rattle.hc_sql.proofs.DecidedLooks.{Any}
use Rattle.hc_sql.proofs.Searches.{SearchRow, search_row}
use Rattle.hc_sql.proofs.Finds.{Finds, next_finds, need_finds}

-- no two rows have the same rowid
abbrev pub DifferentRowids : List Row → Type 0
DifferentRowids rows = Ordered (λ (x y : Row). x.rowid ≡ y.rowid → ⊥) rows

abbrev Different : List ℤ → Type 0
Different numbers = Ordered (λ (m n : ℤ). m ≡ n → ⊥) numbers

pub ascending_differ : (rows : List Row) → Ordered (λ (x y : Row). x.rowid <ℤ y.rowid) rows → DifferentRowids rows
ascending_differ [] ascend = tt
ascending_differ (row ∷ rows) ascend = (
  all_weaker (λ (y : Row). row.rowid <ℤ y.rowid) (λ (y : Row). row.rowid ≡ y.rowid → ⊥) rows
      (λ y less same. let itself = subst (λ n. n <ℤ y.rowid) same less in never_below y.rowid y.rowid itself itself) ascend.0,
  ascending_differ rows ascend.1,
)

-- ---- a piece of the rows for each number

-- nothing, or one row with this rowid
abbrev Piece : ℤ → List Row → Type 0
Piece n [] = Unit {0}
Piece n (row ∷ []) = row.rowid ≡ n
Piece n (row ∷ other ∷ rows) = ⊥

abbrev Pieces : {A : Type 0} → (A → List Row) → List ℤ → List A → Type 0
Pieces of [] [] = Unit {0}
Pieces of [] (x ∷ xs) = ⊥
Pieces of (n ∷ ns) [] = ⊥
Pieces of (n ∷ ns) (x ∷ xs) = Piece n (of x) × Pieces of ns xs

all_pieces : {A : Type 0} (of : A → List Row) (P : ℤ → Type 0) (ns : List ℤ) (xs : List A) → Pieces of ns xs → AllByRecursion P ns → AllByRecursion (λ (row : Row). P row.rowid) (flat_map of xs)
all_pieces of P [] [] pieces all = tt
all_pieces of P [] (x ∷ xs) pieces all = absurd pieces
all_pieces of P (n ∷ ns) [] pieces all = absurd pieces
all_pieces of P (n ∷ ns) (x ∷ xs) pieces all = one (of x) pieces.0 (all_pieces of P ns xs pieces.1 all.1)
  where
    one : (piece : List Row) → Piece n piece → AllByRecursion (λ (row : Row). P row.rowid) (flat_map of xs) → AllByRecursion (λ (row : Row). P row.rowid) (piece ++ flat_map of xs)
    one [] is rest = rest
    one (row ∷ []) is rest = (subst P (sym is) all.0, rest)
    one (row ∷ other ∷ rows) is rest = absurd is

different_pieces : {A : Type 0} (of : A → List Row) (ns : List ℤ) (xs : List A) → Pieces of ns xs → Different ns → DifferentRowids (flat_map of xs)
different_pieces of [] [] pieces differ = tt
different_pieces of [] (x ∷ xs) pieces differ = absurd pieces
different_pieces of (n ∷ ns) [] pieces differ = absurd pieces
different_pieces of (n ∷ ns) (x ∷ xs) pieces differ = one (of x) pieces.0 (different_pieces of ns xs pieces.1 differ.1)
  where
    one : (piece : List Row) → Piece n piece → DifferentRowids (flat_map of xs) → DifferentRowids (piece ++ flat_map of xs)
    one [] is rest = rest
    one (row ∷ []) is rest = (all_pieces of (λ m. row.rowid ≡ m → ⊥) ns xs pieces.1 (subst (λ k. AllByRecursion (λ m. k ≡ m → ⊥) ns) (sym is) differ.0), rest)
    one (row ∷ other ∷ rows) is rest = absurd is

in_turn_pieces : {X A : Type 0} (db : Database) (of : A → List Row) (number : X → ℤ) (work : X → Work A) (xs : List X)
    → ((x : X) → Finds db (λ a. Piece (number x) (of a)) (work x)) → Finds db (Pieces of (map number xs)) (in_turn work xs)
in_turn_pieces db of number work [] each = (refl, tt)
in_turn_pieces db of number work (x ∷ xs) each =
    next_finds db (λ a. Piece (number x) (of a)) (Pieces of (number x ∷ map number xs)) (work x) (λ a. next (in_turn work xs) (λ rest. give (a ∷ rest))) (each x)
    (λ a piece. next_finds db (Pieces of (map number xs)) (Pieces of (number x ∷ map number xs)) (in_turn work xs) (λ rest. give (a ∷ rest)) (in_turn_pieces db of number work xs each)
    (λ rest pieces. (refl, (piece, pieces))))

-- ---- rows of a table

all_filtered : (P : Row → Type 0) (test : Row → Bool) (rows : List Row) → AllByRecursion P rows → AllByRecursion P (filter test rows)
all_filtered P test [] all = tt
all_filtered P test (row ∷ rows) all = by_test (test row) (all_filtered P test rows all.1)
  where
    by_test : (passes : Bool) → AllByRecursion P (filter test rows) → AllByRecursion P (if passes then row ∷ filter test rows else filter test rows)
    by_test true rest = (all.0, rest)
    by_test false rest = rest

filtered_differ : (test : Row → Bool) (rows : List Row) → DifferentRowids rows → DifferentRowids (filter test rows)
filtered_differ test [] differ = tt
filtered_differ test (row ∷ rows) differ = by_test (test row) (filtered_differ test rows differ.1)
  where
    by_test : (passes : Bool) → DifferentRowids (filter test rows) → DifferentRowids (if passes then row ∷ filter test rows else filter test rows)
    by_test true rest = (all_filtered (λ (y : Row). row.rowid ≡ y.rowid → ⊥) test rows differ.0, rest)
    by_test false rest = rest

all_numbers : (P : ℤ → Type 0) (rows : List Row) → AllByRecursion (λ (row : Row). P row.rowid) rows → AllByRecursion P (map (λ (row : Row). row.rowid) rows)
all_numbers P [] all = tt
all_numbers P (row ∷ rows) all = (all.0, all_numbers P rows all.1)

numbers_differ : (rows : List Row) → DifferentRowids rows → Different (map (λ (row : Row). row.rowid) rows)
numbers_differ [] differ = tt
numbers_differ (row ∷ rows) differ = (all_numbers (λ n. row.rowid ≡ n → ⊥) rows differ.0, numbers_differ rows differ.1)

same_numbers : (ns : List ℤ) → ns ≡ map (λ (n : ℤ). n) ns
same_numbers [] = refl
same_numbers (n ∷ ns) = ap (λ rest. n ∷ rest) (same_numbers ns)

module _ (db : Database) (t : Table) (differ : DifferentRowids (rows_in db t.tree)) where
  row_piece : (n : ℤ) → Finds db (λ found. Piece n (option_to_list found)) (find_row t n)
  row_piece n = (refl, by_search (search_row n (rows_in db t.tree)))
    where
      by_search : SearchRow n (rows_in db t.tree) → Piece n (option_to_list (row_at n (rows_in db t.tree)))
      by_search (inl none) = subst (λ found. Piece n (option_to_list found)) (sym none.0) tt
      by_search (inr found) = subst (λ row. Piece n (option_to_list row)) (sym found.3) found.2

  abbrev indexed_rows : Index → List Value → List Row
  indexed_rows index values = filter (is_indexed index values) (rows_in db t.tree)

  indexed_differ : (index : Index) (values : List Value) → Finds db DifferentRowids (find_indexed t index values)
  indexed_differ index values =
      next_finds db (λ rowids. Different (map (λ (n : ℤ). n) rowids)) DifferentRowids (find_rowids t index values)
      (λ rowids. next (in_turn (find_row t) rowids) (λ found. give (flat_map option_to_list found)))
      (refl, subst Different (same_numbers (map (λ (row : Row). row.rowid) (indexed_rows index values))) (numbers_differ (indexed_rows index values) (filtered_differ (is_indexed index values) (rows_in db t.tree) differ)))
      (λ rowids apart. next_finds db (Pieces option_to_list (map (λ (n : ℤ). n) rowids)) DifferentRowids (in_turn (find_row t) rowids) (λ found. give (flat_map option_to_list found))
      (in_turn_pieces db option_to_list (λ n. n) (find_row t) rowids row_piece) (λ found pieces. (refl, different_pieces option_to_list (map (λ (n : ℤ). n) rowids) found pieces apart)))

  one_differs : (found : Option Row) → DifferentRowids (option_to_list found)
  one_differs None = tt
  one_differs (Some row) = (tt, tt)

  by_rowid : (v : Value) → Finds db DifferentRowids (rows_by_rowid t v)
  by_rowid Null = (refl, tt)
  by_rowid (Int rowid) = next_finds db Any DifferentRowids (find_row t rowid) (λ found. give (option_to_list found)) (refl, tt) (λ found any. (refl, one_differs found))
  by_rowid (Text text) = (refl, tt)
  by_rowid (Blob bytes) = (refl, tt)

  by_value : (index : Index) (v : Value) → Finds db DifferentRowids (rows_by_value t index v)
  by_value index Null = (refl, tt)
  by_value index (Int n) = indexed_differ index (Int n ∷ [])
  by_value index (Text text) = indexed_differ index (Text text ∷ [])
  by_value index (Blob bytes) = indexed_differ index (Blob bytes ∷ [])

  by_index : (found : Option Index) (v : Value) → Finds db DifferentRowids (rows_by_index t found v)
  by_index None v = (refl, tt)
  by_index (Some index) v = by_value index v

  path_differs : (conjuncts : List Bound) (path : Path) → Finds db DifferentRowids (path_rows t 0 conjuncts [] path)
  path_differs conjuncts (Rowid n) =
      next_finds db Any DifferentRowids (value_sought conjuncts [] 0 (0 + unwrap_or t.alias 0) n) (rows_by_rowid t)
      (need_finds db Overflow (sought_value [] (option_and_then (sought 0 (0 + unwrap_or t.alias 0)) (slice_get conjuncts n)))) (λ v any. by_rowid v)
  path_differs conjuncts (ByIndex i n) =
      let place = index_place 0 (slice_get t.indexes i) in
      next_finds db Any DifferentRowids (value_sought conjuncts [] 0 place n) (rows_by_index t (slice_get t.indexes i))
      (need_finds db Overflow (sought_value [] (option_and_then (sought 0 place) (slice_get conjuncts n)))) (λ v any. by_index (slice_get t.indexes i) v)
  path_differs conjuncts Whole = (refl, differ)

  met_piece : (conjuncts : List Bound) (row : Row) → Finds db (λ piece. Piece row.rowid piece) (met_row conjuncts row)
  met_piece conjuncts row =
      next_finds db Any (λ piece. Piece row.rowid piece) (need Overflow (meets conjuncts row.values)) (λ met. give (if_found row met)) (need_finds db Overflow (meets conjuncts row.values)) (λ met any. (refl, by_met met))
    where
      by_met : (met : Bool) → Piece row.rowid (if_found row met)
      by_met true = refl
      by_met false = tt

  pub met_differ : (conjuncts : List Bound) → Finds db DifferentRowids (met_rows t conjuncts)
  met_differ conjuncts =
      next_finds db DifferentRowids DifferentRowids (path_rows t 0 conjuncts [] (path_of t 0 conjuncts)) (λ rows. next (in_turn (met_row conjuncts) rows) (λ found. give (flat found)))
      (path_differs conjuncts (path_of t 0 conjuncts))
      (λ rows apart. next_finds db (Pieces (λ (l : List Row). l) (map (λ (row : Row). row.rowid) rows)) DifferentRowids (in_turn (met_row conjuncts) rows) (λ found. give (flat found))
      (in_turn_pieces db (λ (l : List Row). l) (λ (row : Row). row.rowid) (met_row conjuncts) rows (met_piece conjuncts))
      (λ found pieces. (refl, different_pieces (λ (l : List Row). l) (map (λ (row : Row). row.rowid) rows) found pieces (numbers_differ rows apart))))
