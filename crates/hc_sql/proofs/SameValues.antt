-- An UPDATE that sets the same values changes nothing.
use Rattle.std.proofs.Common.{◌≡◌, ℕ, ℤ, List, [], ◌∷◌, inl, inr, map, length, Option, Some, None, Bool, true, false, not, nat_eq, int_lt, if◌then◌else◌, Result, Ok, Err, T, refl, sym, ap, subst, ◌∙◌}
use Rattle.std.specs.Prelude.{◌<ℤ◌}
use Rattle.std.specs.List.{AllByRecursion, filter}
use Rattle.std.specs.Option.{option_map, option_and_then}
use Rattle.std.specs.Ordering.{int_eq}
use Rattle.std.proofs.lemmas.Bool.{true≢false}
use Rattle.std.proofs.lemmas.Bool.Decides.{Decides-eqb, Decides-int_eq}
use Rattle.hc_ast.specs.declared.bound.Bound.{Bound}
use Rattle.hc_ast.specs.declared.expression.Expr.{Expr}
use Rattle.hc_ast.specs.declared.statement.Assign.{Assign}
use Rattle.hc_ast.specs.declared.statement.Stmt.TheVariants as stmt
use Rattle.hc_base.specs.Lookup.{Among}
use Rattle.hc_transcript.specs.declared.refusal.Refusal.{Refusal}
use Rattle.hc_transcript.specs.declared.refusal.Refusal.TheVariants.{Overflow}
use Rattle.hc_schema.specs.declared.bound_statement.BoundSet.{BoundSet}
use Rattle.hc_schema.specs.declared.table.Table.{Table}
use Rattle.hc_schema.specs.declared.row.Row.{Row}
use Rattle.hc_schema.specs.Databases.{Database, Filled, IsFilled, IsDatabase, IsAboveNone, RowidsAscend}
use Rattle.hc_schema.specs.Paths.{path_of}
use Rattle.hc_schema.specs.Binding.Faults.{Judged, walk}
use Rattle.hc_schema.specs.Binding.Scopes.{table_called, scope_of}
use Rattle.hc_schema.specs.Binding.Changes.{with_set, filtered}
use Rattle.hc_schema.specs.Binding.Statements as bound
use Rattle.hc_schema.proofs.Orders.{all_among}
use Rattle.hc_schema.proofs.SamePlaces.{one_tree, all_weaker, rows_above, never_below}
use Rattle.hc_sql.specs.Work.{Work, give, next, in_turn, for_each, need}
use Rattle.hc_sql.specs.Stored.{rows_in, with_row, without_row, with_rows}
use Rattle.hc_sql.specs.Select.{meets, path_rows, flat}
use Rattle.hc_sql.specs.Grouping.{all_some}
use Rattle.hc_sql.specs.Results.{Reply, done}
use Rattle.hc_sql.specs.Tests.{test_nulls, test_rowid, test_indexes, test_lengths, too_long}
use Rattle.hc_sql.specs.Update.{Change, if_found, met_row, met_rows, changed, exchange, is_moved, has_new_values, set_entries, test_moved, put_change, change_row, update}
use Rattle.hc_sql.specs.ChangeLaws.{SetsTheSame}
use Rattle.hc_sql.specs.Statements.{named_tables, carry_out, if_bound, over_tables, ran, run}
use Rattle.hc_sql.proofs.Endings.{OnValue}
use Rattle.hc_sql.proofs.DecidedLooks.{Any, Has}
use Rattle.hc_sql.proofs.BoundTables.{OnMeaning, after_on, any_on, called_on}
use Rattle.hc_sql.proofs.Finds.{IsIn, Finds, next_finds, path_finds, all_flat}
use Rattle.hc_sql.proofs.Searches.{rows_found}
use Rattle.hc_sql.proofs.Kept.{IsStill, unless_still, if_still}
use Rattle.hc_sql.proofs.KeptInsert.{rowid_still, indexes_still}
use Rattle.hc_sql.proofs.KeptStatements.{named_has}

-- ---- a row that is taken out and put in again

true_of : (b : Bool) → T b → b ≡ true
true_of true is = refl
true_of false is = absurd is

none_taken : (k : ℤ) (rows : List Row) → IsAboveNone k rows → without_row k rows ≡ rows
none_taken k [] above = refl
none_taken k (r ∷ rows) above = by_test (int_eq r.rowid k) refl (none_taken k rows above.1)
  where
    by_test : (here : Bool) → int_eq r.rowid k ≡ here → without_row k rows ≡ rows → (if not here then r ∷ without_row k rows else without_row k rows) ≡ r ∷ rows
    by_test true is rest = let same = (Decides-int_eq r.rowid k).0 is in let less : k <ℤ k = subst (λ n. k <ℤ n) same above.0 in absurd (never_below k k less less)
    by_test false is rest = ap (λ l. r ∷ l) rest

-- before all of them
put_first : (row : Row) (rows : List Row) → IsAboveNone row.rowid rows → with_row row rows ≡ row ∷ rows
put_first row [] above = refl
put_first row (r ∷ rows) above = by_test (int_lt r.rowid row.rowid) refl
  where
    by_test : (less : Bool) → int_lt r.rowid row.rowid ≡ less → (if less then r ∷ with_row row rows else row ∷ r ∷ rows) ≡ row ∷ r ∷ rows
    by_test true is = absurd (never_below row.rowid r.rowid above.0 (record { lt = subst T (sym is) tt }))
    by_test false is = refl

put_again : (row : Row) (rows : List Row) → RowidsAscend rows → Among row rows → with_row row (without_row row.rowid rows) ≡ rows
put_again row [] ascend among = absurd among
put_again row (r ∷ rows) ascend (inl same) = by_test (int_eq r.rowid row.rowid) ((Decides-int_eq r.rowid row.rowid).1 (ap (λ (x : Row). x.rowid) (sym same)))
  where
    by_test : (here : Bool) → here ≡ true → with_row row (if not here then r ∷ without_row row.rowid rows else without_row row.rowid rows) ≡ r ∷ rows
    by_test true is =
        let above : IsAboveNone row.rowid rows = subst (λ (x : Row). IsAboveNone x.rowid rows) (sym same) ascend.0 in
        ap (with_row row) (none_taken row.rowid rows above) ∙ put_first row rows above ∙ ap (λ x. x ∷ rows) same
    by_test false is = absurd (true≢false (sym is))
put_again row (r ∷ rows) ascend (inr later) = by_test (int_eq r.rowid row.rowid) refl (put_again row rows ascend.1 later)
  where
    less : r.rowid <ℤ row.rowid
    less = all_among (λ (x : Row). r.rowid <ℤ x.rowid) row rows (rows_above r.rowid rows ascend.0) later

    by_order : (before : Bool) → before ≡ true → with_row row (without_row row.rowid rows) ≡ rows → (if before then r ∷ with_row row (without_row row.rowid rows) else row ∷ r ∷ without_row row.rowid rows) ≡ r ∷ rows
    by_order true is rest = ap (λ l. r ∷ l) rest
    by_order false is rest = absurd (true≢false (sym is))

    by_test : (here : Bool) → int_eq r.rowid row.rowid ≡ here → with_row row (without_row row.rowid rows) ≡ rows → with_row row (if not here then r ∷ without_row row.rowid rows else without_row row.rowid rows) ≡ r ∷ rows
    by_test true is rest = let same = (Decides-int_eq r.rowid row.rowid).0 is in let itself : row.rowid <ℤ row.rowid = subst (λ n. n <ℤ row.rowid) same less in absurd (never_below row.rowid row.rowid itself itself)
    by_test false is rest = by_order (int_lt r.rowid row.rowid) (true_of (int_lt r.rowid row.rowid) less.lt) rest

-- the same rows leave the same database
same_rows : (tree : ℕ) (into : List Row → List Row) (db : Database) → ((f : Filled) → Among f db → f.table.tree ≡ tree → into f.rows ≡ f.rows) → with_rows tree into db ≡ db
same_rows tree into [] each = refl
same_rows tree into (f ∷ db) each = by_test (nat_eq f.table.tree tree) refl (same_rows tree into db (λ g among. each g (inr among)))
  where
    by_test : (here : Bool) → nat_eq f.table.tree tree ≡ here → with_rows tree into db ≡ db → (if here then record { table = f.table; rows = into f.rows } ∷ db else f ∷ with_rows tree into db) ≡ f ∷ db
    by_test true is rest = let rows = each f (inl refl) ((Decides-eqb f.table.tree tree).0 is) in λ i. record { table = f.table; rows = rows i } ∷ db
    by_test false is rest = ap (λ l. f ∷ l) rest

abbrev kept : Row → Change
kept row = record { old = row; new = row }

module _ (db : Database) (is : IsDatabase db) (t : Table) (has : Has db t) where
  rows_of : (f : Filled) → Among f db → f.table.tree ≡ t.tree → rows_in db t.tree ≡ f.rows
  rows_of f among tree = rows_found db t.tree f (λ g in_db same. one_tree db g f is in_db among (same ∙ sym tree)) among tree

  exchanged : (row : Row) → IsIn db t row → with_rows t.tree (exchange (kept row)) db ≡ db
  exchanged row there =
      same_rows t.tree (exchange (kept row)) db
      (λ f among tree. put_again row f.rows (all_among IsFilled f db is.filled among).ascend (subst (λ l. Among row l) (rows_of f among tree) there))

  abbrev Quiet : {A : Type 0} → Work A → Type 0
  Quiet work = Finds db Any work

  any_value : {A : Type 0} (r : Result A Refusal) → OnValue Any r
  any_value (Ok x) = tt
  any_value (Err refusal) = tt

  quiet : {A : Type 0} (work : Work A) → IsStill work → Quiet work
  quiet work still = (still db, any_value (work db).result)

  then_quiet : {A B : Type 0} (work : Work A) (more : A → Work B) → Quiet work → ((x : A) → Quiet (more x)) → Quiet (next work more)
  then_quiet work more first rest = next_finds db Any Any work more first (λ x any. rest x)

  row_quiet : (row : Row) → IsIn db t row → Quiet (change_row t (kept row))
  row_quiet row there =
      let c = kept row in
      let last = λ (lengths : Unit {0}). put_change t c in
      let fourth = λ (indexes : Unit {0}). next (test_lengths (set_entries t c)) last in
      let third = λ (moved : Unit {0}). next (test_indexes t (filter (has_new_values c) t.indexes) row.values) fourth in
      let second = λ (nulls : Unit {0}). next (test_moved t c) third in
      then_quiet (test_nulls t row.values) second (quiet (test_nulls t row.values) (unless_still _))
      (λ nulls. then_quiet (test_moved t c) third (quiet (test_moved t c) (if_still (is_moved c) (test_rowid t row.rowid) (give tt) (rowid_still t row.rowid) (λ d. refl)))
      (λ moved. then_quiet (test_indexes t (filter (has_new_values c) t.indexes) row.values) fourth
      (quiet (test_indexes t (filter (has_new_values c) t.indexes) row.values) (indexes_still t (filter (has_new_values c) t.indexes) row.values))
      (λ indexes. then_quiet (test_lengths (set_entries t c)) last (quiet (test_lengths (set_entries t c)) (unless_still (too_long (set_entries t c)))) (λ lengths. (exchanged row there, tt)))))

  rows_quiet : (rows : List Row) → AllByRecursion (IsIn db t) rows → Quiet (for_each (change_row t) (map kept rows))
  rows_quiet [] all = (refl, tt)
  rows_quiet (row ∷ rows) all = then_quiet (change_row t (kept row)) (λ done. for_each (change_row t) (map kept rows)) (row_quiet row all.0) (λ done. rows_quiet rows all.1)

  module _ (sets : List BoundSet) (conjuncts : List Bound) (same : AllByRecursion (λ row. meets conjuncts row.values ≡ Some true → changed t sets row ≡ Some (kept row)) (rows_in db t.tree)) where
    -- a row of the table that is set to what it has
    abbrev Kept : Row → Type 0
    Kept row = IsIn db t row × (changed t sets row ≡ Some (kept row))

    met_kept : (row : Row) → IsIn db t row → Finds db (AllByRecursion Kept) (met_row conjuncts row)
    met_kept row there =
        next_finds db (λ met. meets conjuncts row.values ≡ Some met) (AllByRecursion Kept) (need Overflow (meets conjuncts row.values)) (λ met. give (if_found row met)) (needed (meets conjuncts row.values))
        (λ met is_met. (refl, by_met met is_met))
      where
        needed : (found : Option Bool) → Finds db (λ met. found ≡ Some met) (need Overflow found)
        needed None = (refl, tt)
        needed (Some met) = (refl, refl)

        by_met : (met : Bool) → meets conjuncts row.values ≡ Some met → AllByRecursion Kept (if_found row met)
        by_met true is_met = ((there, all_among (λ (r : Row). meets conjuncts r.values ≡ Some true → changed t sets r ≡ Some (kept r)) row (rows_in db t.tree) same there is_met), tt)
        by_met false is_met = tt

    all_kept : (rows : List Row) → AllByRecursion (IsIn db t) rows → Finds db (AllByRecursion (AllByRecursion Kept)) (in_turn (met_row conjuncts) rows)
    all_kept [] all = (refl, tt)
    all_kept (row ∷ rows) all =
        next_finds db (AllByRecursion Kept) (AllByRecursion (AllByRecursion Kept)) (met_row conjuncts row) (λ a. next (in_turn (met_row conjuncts) rows) (λ rest. give (a ∷ rest))) (met_kept row all.0)
        (λ a holds. next_finds db (AllByRecursion (AllByRecursion Kept)) (AllByRecursion (AllByRecursion Kept)) (in_turn (met_row conjuncts) rows) (λ rest. give (a ∷ rest)) (all_kept rows all.1) (λ rest more. (refl, (holds, more))))

    found_kept : Finds db (AllByRecursion Kept) (met_rows t conjuncts)
    found_kept =
        next_finds db (AllByRecursion (IsIn db t)) (AllByRecursion Kept) (path_rows t 0 conjuncts [] (path_of t 0 conjuncts)) (λ rows. next (in_turn (met_row conjuncts) rows) (λ found. give (flat found)))
        (path_finds db t 0 conjuncts [] (path_of t 0 conjuncts))
        (λ rows all. next_finds db (AllByRecursion (AllByRecursion Kept)) (AllByRecursion Kept) (in_turn (met_row conjuncts) rows) (λ found. give (flat found)) (all_kept rows all) (λ found each. (refl, all_flat Kept found each)))

    computed : (rows : List Row) → AllByRecursion Kept rows → all_some (map (changed t sets) rows) ≡ Some (map kept rows)
    computed [] all = refl
    computed (row ∷ rows) all =
        ap (option_and_then (λ a. option_map (λ rest. a ∷ rest) (all_some (map (changed t sets) rows)))) all.0.1 ∙ ap (option_map (λ rest. kept row ∷ rest)) (computed rows all.1)

    pub update_quiet : Quiet (update t sets conjuncts)
    update_quiet =
        next_finds db (AllByRecursion Kept) Any (met_rows t conjuncts) (λ rows. next (need Overflow (all_some (map (changed t sets) rows))) (λ changes. next (for_each (change_row t) changes) (λ all. give (done (length rows))))) found_kept
        (λ rows all. subst (λ (changes : Option (List Change)). Quiet (next (need Overflow changes) (λ c. next (for_each (change_row t) c) (λ all. give (done (length rows)))))) (sym (computed rows all))
        (then_quiet (for_each (change_row t) (map kept rows)) (λ all. give (done (length rows))) (rows_quiet rows (all_weaker Kept (IsIn db t) rows (λ row both. both.0) all)) (λ all. (refl, tt))))

-- ---- the statement

-- the tables that are found by the names, and each of them is there
named_as : (db : Database) (names : List (List ℕ)) → Finds db (λ tables. ((named_tables names db).result ≡ Ok tables) × AllByRecursion (Has db) tables) (named_tables names)
named_as db names = let both = named_has db names in (both.0, by_result (named_tables names db).result both.1)
  where
    by_result : (r : Result (List Table) Refusal) → OnValue (AllByRecursion (Has db)) r → OnValue (λ tables. (r ≡ Ok tables) × AllByRecursion (Has db) tables) r
    by_result (Ok tables) all = (refl, all)
    by_result (Err refusal) all = tt

pub update_same : (db : Database) (table : List ℕ) (assigns : List Assign) (filter : Option Expr) → IsDatabase db → SetsTheSame db table assigns filter → (run db (stmt.Update table assigns filter)).db ≡ db
update_same db table assigns filter is same =
    let s = stmt.Update table assigns filter in
    let work = over_tables (table ∷ []) s in
    by_result (work db).result (work db).db
    (next_finds db (λ tables. ((named_tables (table ∷ []) db).result ≡ Ok tables) × AllByRecursion (Has db) tables) Any (named_tables (table ∷ [])) (λ tables. if_bound (bound.binding tables s)) (named_as db (table ∷ []))
    (λ tables both. by_meaning (bound.binding tables s) (bound.binding tables s) refl (when_bound tables both.0 both.1))).0
  where
    by_result : (r : Result Reply Refusal) (after : Database) → after ≡ db → (ran db r after).db ≡ db
    by_result (Ok reply) after left = left
    by_result (Err refusal) after left = refl

    by_meaning : (whole j : Judged bound.Binding) → whole ≡ j → OnMeaning (λ b. whole ≡ Ok b → Finds db Any (carry_out b)) j → Finds db Any (if_bound j)
    by_meaning whole (Ok b) bound quiet = quiet bound
    by_meaning whole (Err fault) bound quiet = (refl, tt)

    when_bound : (tables : List Table) → (named_tables (table ∷ []) db).result ≡ Ok tables → AllByRecursion (Has db) tables
        → OnMeaning (λ b. bound.binding tables (stmt.Update table assigns filter) ≡ Ok b → Finds db Any (carry_out b)) (bound.binding tables (stmt.Update table assigns filter))
    when_bound tables found all =
        after_on (Has db) (λ b. bound.binding tables (stmt.Update table assigns filter) ≡ Ok b → Finds db Any (carry_out b)) (table_called tables table) _ (called_on (Has db) tables table all)
        (λ t has. after_on Any (λ b. bound.binding tables (stmt.Update table assigns filter) ≡ Ok b → Finds db Any (carry_out b)) (walk (with_set (scope_of t) t.columns) [] assigns) _ (any_on (walk (with_set (scope_of t) t.columns) [] assigns))
        (λ sets any. after_on Any (λ b. bound.binding tables (stmt.Update table assigns filter) ≡ Ok b → Finds db Any (carry_out b)) (filtered (scope_of t) filter) _ (any_on (filtered (scope_of t) filter))
        (λ conjuncts none is_bound. update_quiet db is t has sets conjuncts (same tables t sets conjuncts found is_bound))))
