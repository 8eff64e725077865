-- Work that changes nothing, by what it finds: tables of the database, and rows of a table.
use Rattle.std.proofs.Common.{◌≡◌, ℕ, ◌+◌, ℤ, List, [], ◌∷◌, inl, inr, flat_map, Option, Some, None, Bool, true, false, Result, Ok, Err, refl, sym, subst}
use Rattle.std.specs.Prelude.{slice_get}
use Rattle.std.specs.List.{AllByRecursion}
use Rattle.std.specs.Option.{option_to_list, option_and_then, unwrap_or}
use Rattle.hc_range.specs.declared.range.Range.{Range}
use Rattle.hc_range.specs.Ranges.{InAny}
use Rattle.hc_value.specs.declared.value.Value.{Value}
use Rattle.hc_value.specs.declared.value.Value.TheVariants.{Null, Int, Text, Blob}
use Rattle.hc_ast.specs.declared.bound.Bound.{Bound}
use Rattle.hc_base.specs.Lookup.{Among}
use Rattle.hc_transcript.specs.declared.refusal.Refusal.{Refusal}
use Rattle.hc_transcript.specs.declared.refusal.Refusal.TheVariants.{Overflow}
use Rattle.hc_schema.specs.declared.table.Table.{Table}
use Rattle.hc_schema.specs.declared.table.Index.{Index}
use Rattle.hc_schema.specs.declared.row.Row.{Row}
use Rattle.hc_schema.specs.declared.path.Path.{Path}
use Rattle.hc_schema.specs.declared.path.Path.TheVariants.{Rowid, ByIndex, Whole}
use Rattle.hc_schema.specs.Databases.{Database}
use Rattle.hc_schema.specs.Paths.{path_of}
use Rattle.hc_schema.proofs.Orders.{all_from}
use Rattle.hc_sql.specs.Work.{Work, give, go_on, next, in_turn, need}
use Rattle.hc_sql.specs.Stored.{rows_in, row_at}
use Rattle.hc_sql.specs.Looks.{find_rows, find_row, find_rowids, find_indexed}
use Rattle.hc_sql.specs.Select.{meets, sought, sought_value, rows_by_rowid, rows_by_value, rows_by_index, index_place, value_sought, path_rows, flat}
use Rattle.hc_sql.specs.Update.{if_found, met_row, met_rows}
use Rattle.hc_sql.proofs.Endings.{OnValue}
use Rattle.hc_sql.proofs.DecidedLooks.{Any, OnFound}
use Rattle.hc_sql.proofs.Searches.{SearchRow, search_row}
use Rattle.hc_sql.proofs.Kept.{IsConfined, kept_same}

-- it leaves the database as it was, and its value has P
abbrev pub Finds : {A : Type 0} → Database → (A → Type 0) → Work A → Type 0
Finds db P work = ((work db).db ≡ db) × OnValue P (work db).result

pub next_finds : {A B : Type 0} (db : Database) (P : A → Type 0) (Q : B → Type 0) (work : Work A) (more : A → Work B) → Finds db P work → ((x : A) → P x → Finds db Q (more x)) → Finds db Q (next work more)
next_finds {A} db P Q work more first rest = by_result (work db).result (work db).db (work db).reads first.0 first.1
  where
    by_result : (r : Result A Refusal) (after : Database) (reads : List Range) → after ≡ db → OnValue P r → ((go_on r after reads more).db ≡ db) × OnValue Q (go_on r after reads more).result
    by_result (Ok x) after reads same holds =
        subst (λ d. ((go_on (Ok x) d reads more).db ≡ db) × OnValue Q (go_on (Ok x) d reads more).result) (sym same) (rest x holds)
    by_result (Err refusal) after reads same holds = (same, tt)

pub in_turn_finds : {X A : Type 0} (db : Database) (P : A → Type 0) (work : X → Work A) (xs : List X) → ((x : X) → Finds db P (work x)) → Finds db (AllByRecursion P) (in_turn work xs)
in_turn_finds db P work [] each = (refl, tt)
in_turn_finds db P work (x ∷ xs) each =
    next_finds db P (AllByRecursion P) (work x) (λ a. next (in_turn work xs) (λ rest. give (a ∷ rest))) (each x)
    (λ a holds. next_finds db (AllByRecursion P) (AllByRecursion P) (in_turn work xs) (λ rest. give (a ∷ rest)) (in_turn_finds db P work xs each) (λ rest all. (refl, (holds, all))))

pub need_finds : {A : Type 0} (db : Database) (refusal : Refusal) (found : Option A) → Finds db Any (need refusal found)
need_finds db refusal None = (refl, tt)
need_finds db refusal (Some x) = (refl, tt)

-- what work finds on each database with Inv is so after it
pub finds_confined : {A : Type 0} (Inv : Database → Type 0) (P : Database → A → Type 0) (work : Work A) → ((db : Database) → Inv db → Finds db (P db) work) → IsConfined Inv (λ x db. Inv db × P db x) work
finds_confined {A} Inv P work finds db is =
    let both = finds db is in (kept_same (InAny (work db).reads) db (work db).db both.0, by_result (work db).result (work db).db both.0 both.1)
  where
    by_result : (r : Result A Refusal) (after : Database) → after ≡ db → OnValue (P db) r → OnValue (λ x. Inv after × P after x) r
    by_result (Ok x) after same holds = subst (λ d. Inv d × P d x) (sym same) (is, holds)
    by_result (Err refusal) after same holds = tt

pub all_flat : {A : Type 0} (P : A → Type 0) (lists : List (List A)) → AllByRecursion (AllByRecursion P) lists → AllByRecursion P (flat lists)
all_flat P [] all = tt
all_flat P ([] ∷ lists) all = all_flat P lists all.1
all_flat P ((x ∷ xs) ∷ lists) all = (all.0.0, all_flat P (xs ∷ lists) (all.0.1, all.1))

pub all_there : {A : Type 0} (P : A → Type 0) (found : List (Option A)) → AllByRecursion (OnFound P) found → AllByRecursion P (flat_map option_to_list found)
all_there P [] all = tt
all_there P (None ∷ found) all = all_there P found all.1
all_there P (Some x ∷ found) all = (all.0, all_there P found all.1)

-- ---- rows of a table

module _ (db : Database) (t : Table) where
  -- a row of the table
  abbrev pub IsIn : Row → Type 0
  IsIn row = Among row (rows_in db t.tree)

  rows_are_in : Finds db (AllByRecursion IsIn) (find_rows t)
  rows_are_in = (refl, all_from IsIn (rows_in db t.tree) (λ row among. among))

  row_is_in : (rowid : ℤ) → Finds db (OnFound IsIn) (find_row t rowid)
  row_is_in rowid = (refl, by_search (search_row rowid (rows_in db t.tree)))
    where
      by_search : SearchRow rowid (rows_in db t.tree) → OnFound IsIn (row_at rowid (rows_in db t.tree))
      by_search (inl none) = subst (OnFound IsIn) (sym none.0) tt
      by_search (inr found) = subst (OnFound IsIn) (sym found.3) found.1

  one_there : (found : Option Row) → OnFound IsIn found → AllByRecursion IsIn (option_to_list found)
  one_there None holds = tt
  one_there (Some row) holds = (holds, tt)

  indexed_are_in : (index : Index) (values : List Value) → Finds db (AllByRecursion IsIn) (find_indexed t index values)
  indexed_are_in index values =
      next_finds db Any (AllByRecursion IsIn) (find_rowids t index values) (λ rowids. next (in_turn (find_row t) rowids) (λ found. give (flat_map option_to_list found))) (refl, tt)
      (λ rowids any. next_finds db (AllByRecursion (OnFound IsIn)) (AllByRecursion IsIn) (in_turn (find_row t) rowids) (λ found. give (flat_map option_to_list found))
      (in_turn_finds db (OnFound IsIn) (find_row t) rowids row_is_in) (λ found all. (refl, all_there IsIn found all)))

  by_rowid : (v : Value) → Finds db (AllByRecursion IsIn) (rows_by_rowid t v)
  by_rowid Null = (refl, tt)
  by_rowid (Int rowid) = next_finds db (OnFound IsIn) (AllByRecursion IsIn) (find_row t rowid) (λ found. give (option_to_list found)) (row_is_in rowid) (λ found holds. (refl, one_there found holds))
  by_rowid (Text text) = (refl, tt)
  by_rowid (Blob bytes) = (refl, tt)

  by_value : (index : Index) (v : Value) → Finds db (AllByRecursion IsIn) (rows_by_value t index v)
  by_value index Null = (refl, tt)
  by_value index (Int n) = indexed_are_in index (Int n ∷ [])
  by_value index (Text text) = indexed_are_in index (Text text ∷ [])
  by_value index (Blob bytes) = indexed_are_in index (Blob bytes ∷ [])

  by_index : (found : Option Index) (v : Value) → Finds db (AllByRecursion IsIn) (rows_by_index t found v)
  by_index None v = (refl, tt)
  by_index (Some index) v = by_value index v

  pub path_finds : (offset : ℕ) (conjuncts : List Bound) (row : List Value) (path : Path) → Finds db (AllByRecursion IsIn) (path_rows t offset conjuncts row path)
  path_finds offset conjuncts row (Rowid n) =
      next_finds db Any (AllByRecursion IsIn) (value_sought conjuncts row offset (offset + unwrap_or t.alias 0) n) (rows_by_rowid t)
      (need_finds db Overflow (sought_value row (option_and_then (sought offset (offset + unwrap_or t.alias 0)) (slice_get conjuncts n)))) (λ v any. by_rowid v)
  path_finds offset conjuncts row (ByIndex i n) =
      let place = index_place offset (slice_get t.indexes i) in
      next_finds db Any (AllByRecursion IsIn) (value_sought conjuncts row offset place n) (rows_by_index t (slice_get t.indexes i))
      (need_finds db Overflow (sought_value row (option_and_then (sought offset place) (slice_get conjuncts n)))) (λ v any. by_index (slice_get t.indexes i) v)
  path_finds offset conjuncts row Whole = rows_are_in

  if_met_in : (row : Row) (met : Bool) → IsIn row → AllByRecursion IsIn (if_found row met)
  if_met_in row true is = (is, tt)
  if_met_in row false is = tt

  met_all : (conjuncts : List Bound) (rows : List Row) → AllByRecursion IsIn rows → Finds db (AllByRecursion (AllByRecursion IsIn)) (in_turn (met_row conjuncts) rows)
  met_all conjuncts [] all = (refl, tt)
  met_all conjuncts (row ∷ rows) all =
      next_finds db (AllByRecursion IsIn) (AllByRecursion (AllByRecursion IsIn)) (met_row conjuncts row) (λ a. next (in_turn (met_row conjuncts) rows) (λ rest. give (a ∷ rest)))
      (next_finds db Any (AllByRecursion IsIn) (need Overflow (meets conjuncts row.values)) (λ met. give (if_found row met)) (need_finds db Overflow (meets conjuncts row.values)) (λ met any. (refl, if_met_in row met all.0)))
      (λ a holds. next_finds db (AllByRecursion (AllByRecursion IsIn)) (AllByRecursion (AllByRecursion IsIn)) (in_turn (met_row conjuncts) rows) (λ rest. give (a ∷ rest)) (met_all conjuncts rows all.1)
      (λ rest more. (refl, (holds, more))))

  -- the rows that UPDATE and DELETE find are rows of the table
  pub met_finds : (conjuncts : List Bound) → Finds db (AllByRecursion IsIn) (met_rows t conjuncts)
  met_finds conjuncts =
      next_finds db (AllByRecursion IsIn) (AllByRecursion IsIn) (path_rows t 0 conjuncts [] (path_of t 0 conjuncts)) (λ rows. next (in_turn (met_row conjuncts) rows) (λ found. give (flat found)))
      (path_finds 0 conjuncts [] (path_of t 0 conjuncts))
      (λ rows all. next_finds db (AllByRecursion (AllByRecursion IsIn)) (AllByRecursion IsIn) (in_turn (met_row conjuncts) rows) (λ found. give (flat found)) (met_all conjuncts rows all)
      (λ found each. (refl, all_flat IsIn found each)))
