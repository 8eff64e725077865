-- Statements change no key but those that they read.
use Rattle.std.proofs.Common.{◌≡◌, ◌↔◌, ℕ, ◌+◌, List, [], ◌∷◌, ◌++◌, inl, inr, map, flat_map, length, Option, Result, Ok, Err, refl, sym, ap, subst, ◌∙◌}
use Rattle.std.specs.List.{AllByRecursion}
use Rattle.std.specs.Option.{option_to_list}
use Rattle.std.specs.FinMap.{IsAntisymmetric}
use Rattle.hc_range.specs.Ranges.{InAny}
use Rattle.hc_value.specs.declared.value.Value.{Value}
use Rattle.hc_value.specs.Order.{value_order}
use Rattle.hc_ast.specs.declared.bound.Bound.{Bound}
use Rattle.hc_ast.specs.declared.query.FromTable.{FromTable}
use Rattle.hc_ast.specs.declared.query.Select.{Select}
use Rattle.hc_ast.specs.declared.expression.Expr.{Expr}
use Rattle.hc_ast.specs.declared.statement.Assign.{Assign}
use Rattle.hc_ast.specs.declared.statement.ExprRow.{ExprRow}
use Rattle.hc_ast.specs.declared.statement.Stmt.{Stmt}
use Rattle.hc_ast.specs.declared.statement.Stmt.TheVariants as stmt
use Rattle.hc_record.specs.Laws.{NoEncodingBeginsAnother}
use Rattle.hc_key.specs.Laws.{KeysDiffer, RangesHoldTheirKeys}
use Rattle.hc_base.specs.Lookup.{Among}
use Rattle.hc_core.specs.declared.cells.Cell.{Cell}
use Rattle.hc_transcript.specs.declared.refusal.Refusal.{Refusal}
use Rattle.hc_transcript.specs.declared.refusal.Refusal.TheVariants.{Overflow}
use Rattle.hc_schema.specs.declared.entry.Entry.{Entry}
use Rattle.hc_schema.specs.declared.table.Table.{Table}
use Rattle.hc_schema.specs.declared.row.Row.{Row}
use Rattle.hc_schema.specs.Cells.{cell_of}
use Rattle.hc_schema.specs.Databases.{Database, Filled, IsDatabase, HasCell, entries_of}
use Rattle.hc_schema.specs.Paths.{path_of}
use Rattle.hc_schema.specs.Binding.Faults.{Judged, after, walk, each}
use Rattle.hc_schema.specs.Binding.Scopes.{table_called, scope_of}
use Rattle.hc_schema.specs.Binding.Queries.{Query, query}
use Rattle.hc_schema.specs.Binding.Changes.{row_columns, new_row, with_set, filtered}
use Rattle.hc_schema.specs.Binding.Statements as bound
use Rattle.hc_schema.proofs.Orders.{among_map, from_map, all_from}
use Rattle.hc_schema.proofs.SamePlaces.{one_tree}
use Rattle.hc_schema.proofs.SameDatabases.{into_order, from_order}
use Rattle.hc_sql.specs.Work.{Work, give, next, in_turn, need}
use Rattle.hc_sql.specs.Stored.{table_of}
use Rattle.hc_sql.specs.Looks.{find_table}
use Rattle.hc_sql.specs.Select.{meets, if_met, path_rows, flat, loops, candidates}
use Rattle.hc_sql.specs.Results.{Reply, run_query, all_results, ordered, reply_of}
use Rattle.hc_sql.specs.Statements.{named_tables, carry_out, if_bound, over_tables, work_of, ran, run, reads}
use Rattle.hc_sql.proofs.DecidedLooks.{Any, OnFound, Has}
use Rattle.hc_sql.proofs.Endings.{OnValue}
use Rattle.hc_sql.proofs.Shared.{IsAt}
use Rattle.hc_sql.proofs.BoundTables.{OnMeaning, after_on, any_on, called_on}
use Rattle.hc_sql.proofs.Searches.{Search, search}
use Rattle.hc_sql.proofs.Finds.{IsIn, Finds, next_finds, in_turn_finds, need_finds, finds_confined, all_there, path_finds}
use Rattle.hc_sql.proofs.Kept.{Kept, kept_same, IsConfined, next_confined}
use Rattle.hc_sql.proofs.KeptRows.{IsOnlyWith}
use Rattle.hc_sql.proofs.KeptInsert.{insert_confined}
use Rattle.hc_sql.proofs.KeptDelete.{delete_confined}
use Rattle.hc_sql.proofs.KeptTables.{create_table_confined}
use Rattle.hc_sql.proofs.KeptUpdate.{update_confined}
use Rattle.hc_sql.proofs.KeptDrops.{drop_table_confined}
use Rattle.hc_sql.proofs.KeptIndexes.{create_index_confined, drop_index_confined}

-- ---- the tables that a statement names

pub named_has : (db : Database) (names : List (List ℕ)) → Finds db (AllByRecursion (Has db)) (named_tables names)
named_has db names =
    next_finds db (AllByRecursion (OnFound (Has db))) (AllByRecursion (Has db)) (in_turn find_table names) (λ found. give (flat_map option_to_list found))
    (in_turn_finds db (OnFound (Has db)) find_table names (λ name. (refl, by_search name (search db name)))) (λ found all. (refl, all_there (Has db) found all))
  where
    by_search : (name : List ℕ) → Search db name → OnFound (Has db) (table_of db name)
    by_search name (inl none) = subst (OnFound (Has db)) (sym none.0) tt
    by_search name (inr found) = subst (OnFound (Has db)) (sym found.3) (record { filled = found.0; among = found.1; is = refl })

-- the databases and the tables that they have
abbrev WithTables : List Table → Database → Type 0
WithTables tables db = IsDatabase db × AllByRecursion (Has db) tables

named_confined : (names : List (List ℕ)) → IsConfined IsDatabase WithTables (named_tables names)
named_confined names = finds_confined IsDatabase (λ db. AllByRecursion (Has db)) (named_tables names) (λ db is. named_has db names)

-- a table that a database has is the only one with its tree
only : (t : Table) (db : Database) → IsDatabase db → Has db t → IsOnlyWith Any t db
only t db is has =
    all_from (λ (f : Filled). f.table.tree ≡ t.tree → (f.table ≡ t) × Any f.rows) db
    (λ f among tree. (ap (λ (g : Filled). g.table) (one_tree db f has.filled is among has.among (tree ∙ sym (ap (λ (x : Table). x.tree) has.is))) ∙ has.is, tt))

-- ---- queries

loops_still : (db : Database) (conjuncts : List Bound) (tables : List Table) (offset : ℕ) (row : List Value) → Finds db Any (loops conjuncts tables offset row)
loops_still db conjuncts [] offset row = next_finds db Any Any (need Overflow (meets conjuncts row)) (λ met. give (if_met row met)) (need_finds db Overflow (meets conjuncts row)) (λ met any. (refl, tt))
loops_still db conjuncts (t ∷ tables) offset row =
    next_finds db (AllByRecursion (IsIn db t)) Any (path_rows t offset conjuncts row (path_of t offset conjuncts))
    (λ rows. next (in_turn (λ (r : Row). loops conjuncts tables (offset + length t.columns) (row ++ r.values)) rows) (λ found. give (flat found)))
    (path_finds db t offset conjuncts row (path_of t offset conjuncts))
    (λ rows any. next_finds db (AllByRecursion Any) Any (in_turn (λ (r : Row). loops conjuncts tables (offset + length t.columns) (row ++ r.values)) rows) (λ found. give (flat found))
    (in_turn_finds db Any (λ (r : Row). loops conjuncts tables (offset + length t.columns) (row ++ r.values)) rows (λ r. loops_still db conjuncts tables (offset + length t.columns) (row ++ r.values)))
    (λ found all. (refl, tt)))

query_still : (db : Database) (q : Query) → Finds db Any (run_query q)
query_still db q =
    next_finds db Any Any (candidates q.tables q.conjuncts) (λ rows. next (need Overflow (all_results q rows)) (λ results. give (reply_of (ordered q results)))) (loops_still db q.conjuncts q.tables 0 [])
    (λ rows any. next_finds db Any Any (need Overflow (all_results q rows)) (λ results. give (reply_of (ordered q results))) (need_finds db Overflow (all_results q rows)) (λ results any. (refl, tt)))

-- ---- bound statements

-- what is asked of the tables of a bound statement
abbrev OfTables : (Table → Type 0) → bound.Binding → Type 0
OfTables P (bound.Select q) = Unit {0}
OfTables P (bound.Insert t places rows) = P t
OfTables P (bound.Update t sets conjuncts) = P t
OfTables P (bound.Delete t conjuncts) = P t
OfTables P (bound.Other s) = Unit {0}

abbrev IsKept : Work Reply → Database → Type 0
IsKept work db = Kept (InAny (work db).reads) db (work db).db × OnValue Any (work db).result

any_value : {A : Type 0} (r : Result A Refusal) → OnValue Any r
any_value (Ok x) = tt
any_value (Err refusal) = tt

carried : IsAntisymmetric value_order → (db : Database) → IsDatabase db → (b : bound.Binding) → OfTables (Has db) b → Kept (InAny (carry_out b db).reads) db (carry_out b db).db
carried exact db is (bound.Select q) all = kept_same (InAny (run_query q db).reads) db (run_query q db).db (query_still db q).0
carried exact db is (bound.Insert t places rows) has = (insert_confined t places rows db (only t db is has)).0
carried exact db is (bound.Update t sets conjuncts) has = (update_confined exact t sets conjuncts db (is, has)).0
carried exact db is (bound.Delete t conjuncts) has = (delete_confined t conjuncts db (is, has)).0
carried exact db is (bound.Other s) all = kept_same (InAny []) db db refl

if_carried : IsAntisymmetric value_order → (db : Database) → IsDatabase db → (j : Judged bound.Binding) → OnMeaning (OfTables (Has db)) j → IsKept (if_bound j) db
if_carried exact db is (Ok b) all = (carried exact db is b all, any_value (carry_out b db).result)
if_carried exact db is (Err fault) all = (kept_same (InAny []) db db refl, tt)

-- the tables of a query, of INSERT and of DELETE are those that are named
module _ (P : Table → Type 0) (tables : List Table) (all : AllByRecursion P tables) where
  of_query : (q : Judged Query) → OnMeaning (OfTables P) (after q (λ b. Ok (bound.Select b)))
  of_query (Ok q) = tt
  of_query (Err fault) = tt

  with_any : {A : Type 0} (x : Judged A) (f : A → Judged bound.Binding) → ((a : A) → OnMeaning (OfTables P) (f a)) → OnMeaning (OfTables P) (after x f)
  with_any x f each = after_on Any (OfTables P) x f (any_on x) (λ a any. each a)

  of_insert : (name : List ℕ) (columns : Option (List (List ℕ))) (rows : List ExprRow) → OnMeaning (OfTables P) (bound.insert tables name columns rows)
  of_insert name columns rows =
      after_on P (OfTables P) (table_called tables name) _ (called_on P tables name all)
      (λ t holds. with_any (row_columns t.columns columns) _ (λ places. with_any (each (map (new_row places) rows)) _ (λ new. holds)))

  of_update : (name : List ℕ) (sets : List Assign) (filter : Option Expr) → OnMeaning (OfTables P) (bound.update tables name sets filter)
  of_update name sets filter =
      after_on P (OfTables P) (table_called tables name) _ (called_on P tables name all)
      (λ t holds. with_any (walk (with_set (scope_of t) t.columns) [] sets) _ (λ set. with_any (filtered (scope_of t) filter) _ (λ kept. holds)))

  of_delete : (name : List ℕ) (filter : Option Expr) → OnMeaning (OfTables P) (bound.delete tables name filter)
  of_delete name filter =
      after_on P (OfTables P) (table_called tables name) _ (called_on P tables name all) (λ t holds. with_any (filtered (scope_of t) filter) _ (λ kept. holds))

over_confined : IsAntisymmetric value_order → (names : List (List ℕ)) (s : Stmt) → ((P : Table → Type 0) (tables : List Table) → AllByRecursion P tables → OnMeaning (OfTables P) (bound.binding tables s))
    → IsConfined IsDatabase (λ reply db. Unit {0}) (over_tables names s)
over_confined exact names s of_tables =
    next_confined IsDatabase WithTables (λ reply db. Unit {0}) (named_tables names) (λ tables. if_bound (bound.binding tables s)) (named_confined names)
    (λ tables db is. if_carried exact db is.0 (bound.binding tables s) (of_tables (Has db) tables is.1))

-- ---- statements

module _ (keys : KeysDiffer) (encodings : NoEncodingBeginsAnother) (ranges : RangesHoldTheirKeys) (exact : IsAntisymmetric value_order) where
  confined : (s : Stmt) → (db : Database) → IsDatabase db → Kept (InAny (reads db s)) db (work_of s db).db
  confined (stmt.Select q) db is_db =
      (over_confined exact (map (λ (t : FromTable). t.name) q.tables) (stmt.Select q) (λ P tables all. of_query P tables all (query tables q)) db is_db).0
  confined (stmt.Insert table columns rows) db is_db = (over_confined exact (table ∷ []) (stmt.Insert table columns rows) (λ P tables all. of_insert P tables all table columns rows) db is_db).0
  confined (stmt.Update table sets filter) db is_db = (over_confined exact (table ∷ []) (stmt.Update table sets filter) (λ P tables all. of_update P tables all table sets filter) db is_db).0
  confined (stmt.Delete table filter) db is_db = (over_confined exact (table ∷ []) (stmt.Delete table filter) (λ P tables all. of_delete P tables all table filter) db is_db).0
  confined (stmt.CreateTable maybe name columns rules) db is_db = (create_table_confined maybe name columns rules db tt).0
  confined (stmt.CreateIndex is_unique maybe name table columns) db is_db = (create_index_confined is_unique maybe name table columns db is_db).0
  confined (stmt.DropTable maybe name) db is_db = (drop_table_confined keys encodings ranges maybe name db is_db).0
  confined (stmt.DropIndex maybe name) db is_db = (drop_index_confined keys encodings ranges maybe name db is_db).0
  confined stmt.Begin db is_db = kept_same (InAny []) db db refl
  confined stmt.Commit db is_db = kept_same (InAny []) db db refl
  confined stmt.Rollback db is_db = kept_same (InAny []) db db refl
  confined (stmt.RollbackTo name) db is_db = kept_same (InAny []) db db refl
  confined (stmt.Savepoint name) db is_db = kept_same (InAny []) db db refl
  confined (stmt.Release name) db is_db = kept_same (InAny []) db db refl

-- a refused statement changes nothing at all
kept_ran : (Keys : List ℕ → Type 0) (db after : Database) (r : Result Reply Refusal) → Kept Keys db after → Kept Keys db (ran db r after).db
kept_ran Keys db after (Ok reply) kept = kept
kept_ran Keys db after (Err refusal) kept = kept_same Keys db db refl

cell_over : (Keys : List ℕ → Type 0) (a b : Database) → ((e : Entry) → (IsAt Keys e → ⊥) → Among e (entries_of a) → Among e (entries_of b)) → (cell : Cell) → (Keys cell.key → ⊥) → HasCell a cell → HasCell b cell
cell_over Keys a b over cell off has =
    let from = from_map cell_of cell (entries_of a) (from_order cell (map cell_of (entries_of a)) has) in
    let there : Among from.x (entries_of b) = over from.x (λ at. off (subst (λ (c : Cell). Keys c.key) (sym from.is) at)) from.among in
    into_order cell (map cell_of (entries_of b)) (subst (λ (c : Cell). Among c (map cell_of (entries_of b))) (sym from.is) (among_map cell_of from.x (entries_of b) there))

pub changes_read : KeysDiffer → NoEncodingBeginsAnother → RangesHoldTheirKeys → IsAntisymmetric value_order → (db : Database) (s : Stmt) (cell : Cell) → IsDatabase db → (InAny (reads db s) cell.key → ⊥) → HasCell db cell ↔ HasCell (run db s).db cell
changes_read keys encodings ranges exact db s cell is off =
    let kept = kept_ran (InAny (reads db s)) db (work_of s db).db (work_of s db).result (confined keys encodings ranges exact s db is) in
    (cell_over (InAny (reads db s)) db (run db s).db kept.over cell off, cell_over (InAny (reads db s)) (run db s).db db kept.back cell off)

-- ---- a query changes nothing at all

query_done : (db : Database) (j : Judged bound.Binding) → OnMeaning (λ b. (carry_out b db).db ≡ db) j → (if_bound j db).db ≡ db
query_done db (Ok b) same = same
query_done db (Err fault) same = refl

bound_query : (db : Database) (tables : List Table) (q : Select) → OnMeaning (λ b. (carry_out b db).db ≡ db) (bound.binding tables (stmt.Select q))
bound_query db tables q = by_query (query tables q)
  where
    by_query : (j : Judged Query) → OnMeaning (λ b. (carry_out b db).db ≡ db) (after j (λ b. Ok (bound.Select b)))
    by_query (Ok b) = (query_still db b).0
    by_query (Err fault) = tt

pub query_changes_nothing : (db : Database) (q : Select) → (run db (stmt.Select q)).db ≡ db
query_changes_nothing db q =
    let work = work_of (stmt.Select q) db in
    let names = map (λ (t : FromTable). t.name) q.tables in
    by_result work.result work.db
    (next_finds db (AllByRecursion (Has db)) Any (named_tables names) (λ tables. if_bound (bound.binding tables (stmt.Select q))) (named_has db names)
    (λ tables all. (query_done db (bound.binding tables (stmt.Select q)) (bound_query db tables q), any_value (if_bound (bound.binding tables (stmt.Select q)) db).result))).0
  where
    by_result : (r : Result Reply Refusal) (after : Database) → after ≡ db → (ran db r after).db ≡ db
    by_result (Ok reply) after same = same
    by_result (Err refusal) after same = refl
