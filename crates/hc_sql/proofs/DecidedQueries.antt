-- A query is decided by what it reads.
use Rattle.std.proofs.Common.{◌≡◌, ℕ, zero, suc, ◌+◌, List, [], ◌∷◌, ◌++◌, inl, inr, length, map, flat_map, Option, Some, None, Result, Ok, Err, refl, sym, ap, subst}
use Rattle.std.specs.Prelude.{slice_get}
use Rattle.std.specs.List.{AllByRecursion}
use Rattle.std.specs.Option.{option_to_list, option_and_then, unwrap_or}
use Rattle.hc_range.specs.Ranges.{InAny}
use Rattle.hc_value.specs.declared.value.Value.{Value}
use Rattle.hc_value.specs.declared.value.Value.TheVariants.{Null, Int, Text, Blob}
use Rattle.hc_ast.specs.declared.bound.Bound.{Bound}
use Rattle.hc_ast.specs.declared.query.FromTable.{FromTable}
use Rattle.hc_ast.specs.declared.query.Select.{Select}
use Rattle.hc_ast.specs.declared.statement.Stmt.TheVariants as stmt
use Rattle.hc_transcript.specs.declared.refusal.Refusal.{Refusal}
use Rattle.hc_transcript.specs.declared.refusal.Refusal.TheVariants.{Overflow}
use Rattle.hc_record.specs.Laws.{NoEncodingBeginsAnother}
use Rattle.hc_key.specs.Laws.{KeysDiffer, RangesHoldTheirKeys}
use Rattle.hc_key.proofs.Prefix.{TiesAreSame}
use Rattle.hc_base.specs.Lookup.{Among}
use Rattle.hc_schema.specs.declared.path.Path.{Path}
use Rattle.hc_schema.specs.declared.path.Path.TheVariants.{Rowid, ByIndex, Whole}
use Rattle.hc_schema.specs.declared.table.Table.{Table}
use Rattle.hc_schema.specs.declared.table.Index.{Index}
use Rattle.hc_schema.specs.declared.row.Row.{Row}
use Rattle.hc_schema.specs.Databases.{Database, IsDatabase, Agree}
use Rattle.hc_schema.specs.Paths.{path_of}
use Rattle.hc_schema.specs.Binding.Faults.{Judged, after}
use Rattle.hc_schema.specs.Binding.Queries.{Query, query}
use Rattle.hc_schema.specs.Binding.Statements as bound
use Rattle.hc_sql.specs.Work.{Work, give, next, in_turn, need}
use Rattle.hc_sql.specs.Looks.{find_table, find_row}
use Rattle.hc_sql.specs.Select.{meets, if_met, sought, sought_value, rows_by_rowid, rows_by_value, rows_by_index, index_place, value_sought, path_rows, flat, loops, candidates}
use Rattle.hc_sql.specs.Results.{Reply, run_query, all_results, ordered, reply_of}
use Rattle.hc_sql.specs.Statements.{refusal_of, named_tables, if_bound, over_tables, ran, run, reads}
use Rattle.hc_sql.proofs.Decided.{IsDecided, give_decided, refuse_decided, need_decided, next_decided, in_turn_decided}
use Rattle.hc_sql.proofs.DecidedLooks.{Any, OnFound, Both, find_table_decided, find_rows_decided, find_row_decided, find_indexed_decided}
use Rattle.hc_sql.proofs.BoundTables.{OnMeaning, query_on}

-- what is at a place of a list is among it
at_among : {A : Type 0} (xs : List A) (n : ℕ) (x : A) → slice_get xs n ≡ Some x → Among x xs
at_among [] n x is = absurd cc
at_among (y ∷ xs) zero x is = inl (sym (ap (λ o. unwrap_or o x) is))
at_among (y ∷ xs) (suc n) x is = inr (at_among xs n x is)

flat_found : {A : Type 0} (P : A → Type 0) (found : List (Option A)) → AllByRecursion (OnFound P) found → AllByRecursion P (flat_map option_to_list found)
flat_found P [] all = tt
flat_found P (None ∷ found) all = flat_found P found all.1
flat_found P (Some x ∷ found) all = (all.0, flat_found P found all.1)

-- the same results are the same replies
pub same_reply : (a b after_a after_b : Database) (r s : Result Reply Refusal) → r ≡ s → (ran a r after_a).reply ≡ (ran b s after_b).reply
same_reply a b after_a after_b r s same = subst (λ t. (ran a r after_a).reply ≡ (ran b t after_b).reply) same (by_result r)
  where
    by_result : (t : Result Reply Refusal) → (ran a t after_a).reply ≡ (ran b t after_b).reply
    by_result (Ok reply) = refl
    by_result (Err refusal) = refl

module _ (keys : KeysDiffer) (encodings : NoEncodingBeginsAnother) (ties : TiesAreSame) (ranges : RangesHoldTheirKeys) (Keys : List ℕ → Type 0) (a b : Database) (is_a : IsDatabase a) (is_b : IsDatabase b) (agree : Agree Keys a b) where
  abbrev pub Shares : Table → Type 0
  Shares = Both keys encodings ties ranges Keys a b is_a is_b agree

  abbrev pub Steady : {A : Type 0} → (A → Type 0) → Work A → Type 0
  Steady P work = IsDecided Keys a b P work

  pub gives : {A : Type 0} (x : A) → Steady Any (give x)
  gives x = give_decided Keys a b Any x tt

  -- one work and then another, of whose value nothing is asked
  pub follows : {A B : Type 0} (work : Work A) (more : A → Work B) → Steady Any work → ((x : A) → Steady Any (more x)) → Steady Any (next work more)
  follows work more first rest = next_decided Keys a b Any Any more (λ x any. rest x) work first

  pub needs : {A : Type 0} (refusal : Refusal) (found : Option A) → Steady Any (need refusal found)
  needs refusal found = need_decided Keys a b Any refusal found (λ x is. tt)

  pub turns : {X A : Type 0} (work : X → Work (List A)) (xs : List X) → ((x : X) → Steady Any (work x)) → Steady Any (next (in_turn work xs) (λ found. give (flat found)))
  turns work xs each =
      next_decided Keys a b (AllByRecursion Any) Any (λ found. give (flat found)) (λ found all. gives (flat found))
      (in_turn work xs) (in_turn_decided Keys a b Any work xs (λ x among. each x))

  -- ---- access paths

  module _ (t : Table) (both : Shares t) where
    by_rowid : (v : Value) → Steady Any (rows_by_rowid t v)
    by_rowid Null = gives []
    by_rowid (Int rowid) = follows (find_row t rowid) (λ found. give (option_to_list found)) (find_row_decided keys encodings ties ranges Keys a b is_a is_b agree t both rowid) (λ found. gives (option_to_list found))
    by_rowid (Text text) = gives []
    by_rowid (Blob bytes) = gives []

    by_value : (index : Index) → Among index t.indexes → (v : Value) → Steady Any (rows_by_value t index v)
    by_value index listed Null = gives []
    by_value index listed (Int n) = find_indexed_decided keys encodings ties ranges Keys a b is_a is_b agree t both index listed (Int n ∷ [])
    by_value index listed (Text text) = find_indexed_decided keys encodings ties ranges Keys a b is_a is_b agree t both index listed (Text text ∷ [])
    by_value index listed (Blob bytes) = find_indexed_decided keys encodings ties ranges Keys a b is_a is_b agree t both index listed (Blob bytes ∷ [])

    by_index : (found : Option Index) → ((index : Index) → found ≡ Some index → Among index t.indexes) → (v : Value) → Steady Any (rows_by_index t found v)
    by_index None listed v = gives []
    by_index (Some index) listed v = by_value index (listed index refl) v

    pub path_decided : (offset : ℕ) (conjuncts : List Bound) (row : List Value) (path : Path) → Steady Any (path_rows t offset conjuncts row path)
    path_decided offset conjuncts row (Rowid n) =
        follows (value_sought conjuncts row offset (offset + unwrap_or t.alias 0) n) (rows_by_rowid t)
        (needs Overflow (sought_value row (option_and_then (sought offset (offset + unwrap_or t.alias 0)) (slice_get conjuncts n)))) by_rowid
    path_decided offset conjuncts row (ByIndex i n) =
        let place = index_place offset (slice_get t.indexes i) in
        follows (value_sought conjuncts row offset place n) (rows_by_index t (slice_get t.indexes i))
        (needs Overflow (sought_value row (option_and_then (sought offset place) (slice_get conjuncts n))))
        (by_index (slice_get t.indexes i) (λ index is. at_among t.indexes i index is))
    path_decided offset conjuncts row Whole = find_rows_decided keys encodings ties ranges Keys a b is_a is_b agree t both

  -- ---- nested loops

  loops_decided : (conjuncts : List Bound) (tables : List Table) → AllByRecursion Shares tables → (offset : ℕ) (row : List Value) → Steady Any (loops conjuncts tables offset row)
  loops_decided conjuncts [] all offset row = follows (need Overflow (meets conjuncts row)) (λ met. give (if_met row met)) (needs Overflow (meets conjuncts row)) (λ met. gives (if_met row met))
  loops_decided conjuncts (t ∷ tables) all offset row =
      follows (path_rows t offset conjuncts row (path_of t offset conjuncts))
      (λ rows. next (in_turn (λ (r : Row). loops conjuncts tables (offset + length t.columns) (row ++ r.values)) rows) (λ found. give (flat found)))
      (path_decided t all.0 offset conjuncts row (path_of t offset conjuncts))
      (λ rows. turns (λ (r : Row). loops conjuncts tables (offset + length t.columns) (row ++ r.values)) rows
      (λ r. loops_decided conjuncts tables all.1 (offset + length t.columns) (row ++ r.values)))

  query_decided : (q : Query) → AllByRecursion Shares q.tables → Steady Any (run_query q)
  query_decided q all =
      follows (candidates q.tables q.conjuncts) (λ rows. next (need Overflow (all_results q rows)) (λ results. give (reply_of (ordered q results))))
      (loops_decided q.conjuncts q.tables all 0 [])
      (λ rows. follows (need Overflow (all_results q rows)) (λ results. give (reply_of (ordered q results)))
      (needs Overflow (all_results q rows)) (λ results. gives (reply_of (ordered q results))))

  -- ---- the statement

  pub named_decided : (names : List (List ℕ)) → Steady (AllByRecursion Shares) (named_tables names)
  named_decided names =
      next_decided Keys a b (AllByRecursion (OnFound Shares)) (AllByRecursion Shares) (λ found. give (flat_map option_to_list found))
      (λ found all. give_decided Keys a b (AllByRecursion Shares) (flat_map option_to_list found) (flat_found Shares found all))
      (in_turn find_table names)
      (in_turn_decided Keys a b (OnFound Shares) find_table names (λ name among. find_table_decided keys encodings ties ranges Keys a b is_a is_b agree name))

  bound_decided : (j : Judged Query) → OnMeaning (λ (q : Query). AllByRecursion Shares q.tables) j → Steady Any (if_bound (after j (λ q. Ok (bound.Select q))))
  bound_decided (Ok q) all = query_decided q all
  bound_decided (Err fault) all = refuse_decided Keys a b Any (refusal_of fault)

  pub select_decided : (q : Select) → Steady Any (over_tables (map (λ (t : FromTable). t.name) q.tables) (stmt.Select q))
  select_decided q =
      next_decided Keys a b (AllByRecursion Shares) Any (λ tables. if_bound (bound.binding tables (stmt.Select q)))
      (λ tables all. bound_decided (query tables q) (query_on Shares tables q all))
      (named_tables (map (λ (t : FromTable). t.name) q.tables)) (named_decided (map (λ (t : FromTable). t.name) q.tables))

-- on databases that agree on what it reads on the first, a query answers the same and reads the same
pub queries_decided : KeysDiffer → NoEncodingBeginsAnother → TiesAreSame → RangesHoldTheirKeys → (a b : Database) (q : Select) → IsDatabase a → IsDatabase b
    → Agree (InAny (reads a (stmt.Select q))) a b → ((run a (stmt.Select q)).reply ≡ (run b (stmt.Select q)).reply) × (reads a (stmt.Select q) ≡ reads b (stmt.Select q))
queries_decided keys encodings ties ranges a b q is_a is_b agree =
    let work = over_tables (map (λ (t : FromTable). t.name) q.tables) (stmt.Select q) in
    let same = select_decided keys encodings ties ranges (InAny (reads a (stmt.Select q))) a b is_a is_b agree q (λ key here. here) in
    (same_reply a b (work a).db (work b).db (work a).result (work b).result same.result, same.reads)
