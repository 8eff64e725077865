-- A DELETE is decided by what it reads.
use Rattle.std.proofs.Common.{◌≡◌, ℕ, List, [], ◌∷◌, inl, inr, length, Option, Result, Ok, Err, refl, sym, ap, subst, ◌∙◌}
use Rattle.std.specs.List.{AllByRecursion}
use Rattle.hc_ast.specs.declared.bound.Bound.{Bound}
use Rattle.hc_ast.specs.declared.expression.Expr.{Expr}
use Rattle.hc_ast.specs.declared.statement.Stmt.TheVariants as stmt
use Rattle.hc_record.specs.Laws.{NoEncodingBeginsAnother}
use Rattle.hc_key.specs.Laws.{KeysDiffer, RangesHoldTheirKeys}
use Rattle.hc_key.proofs.Prefix.{TiesAreSame}
use Rattle.hc_base.specs.Lookup.{Among}
use Rattle.hc_transcript.specs.declared.refusal.Refusal.{Refusal}
use Rattle.hc_transcript.specs.declared.refusal.Refusal.TheVariants.{Overflow}
use Rattle.hc_schema.specs.declared.entry.Entry.{Entry}
use Rattle.hc_schema.specs.declared.table.Table.{Table}
use Rattle.hc_schema.specs.declared.row.Row.{Row}
use Rattle.hc_schema.specs.Databases.{Database, IsDatabase, Agree, entries_of}
use Rattle.hc_schema.specs.Paths.{path_of}
use Rattle.hc_schema.specs.Binding.Scopes.{table_called, scope_of}
use Rattle.hc_schema.specs.Binding.Changes.{filtered}
use Rattle.hc_schema.proofs.SamePlaces.{one_tree, all_weaker}
use Rattle.hc_schema.proofs.OneRecord.{same_row}
use Rattle.hc_sql.specs.Work.{give, next, in_turn, need, for_each}
use Rattle.hc_sql.specs.Stored.{rows_in}
use Rattle.hc_sql.specs.Select.{meets, path_rows, flat}
use Rattle.hc_sql.specs.Results.{done}
use Rattle.hc_sql.specs.Update.{if_found, met_row, met_rows, clear_row, delete}
use Rattle.hc_sql.specs.ChangeLaws.{IsDecidedByItsReads}
use Rattle.hc_sql.specs.Statements.{over_tables}
use Rattle.hc_sql.proofs.Endings.{OnValue}
use Rattle.hc_sql.proofs.Decided.{IsDecided}
use Rattle.hc_sql.proofs.DecidedLooks.{Any, Has}
use Rattle.hc_sql.proofs.DecidedQueries.{follows, needs, gives, turns, path_decided}
use Rattle.hc_sql.proofs.BoundTables.{after_on, any_on, called_on}
use Rattle.hc_sql.proofs.Searches.{rows_found}
use Rattle.hc_sql.proofs.Finds.{IsIn, met_finds}
use Rattle.hc_sql.proofs.KeptDelete.{Single}
use Rattle.hc_sql.proofs.Shared.{IsAt, across, agree_back}
use Rattle.hc_sql.proofs.ClearedRows.{Going, cleared, still_going, left_back, left_over, left_not}
use Rattle.hc_sql.proofs.DecidedChanges.{agree_from, Goes, next_goes, Twins, InBoth, Agrees, Carried, over_goes, decided_by}

module _ (keys : KeysDiffer) (encodings : NoEncodingBeginsAnother) (ties : TiesAreSame) (ranges : RangesHoldTheirKeys) (Keys : List ℕ → Type 0) where
  -- the rows that UPDATE and DELETE find
  pub met_decided : (a b : Database) (twins : Twins Keys a b) (t : Table) → InBoth Keys a b t → (conjuncts : List Bound) → IsDecided Keys a b Any (met_rows t conjuncts)
  met_decided a b twins t has conjuncts =
      follows keys encodings ties ranges Keys a b twins.is_a twins.is_b twins.agree (path_rows t 0 conjuncts [] (path_of t 0 conjuncts)) (λ rows. next (in_turn (met_row conjuncts) rows) (λ found. give (flat found)))
      (path_decided keys encodings ties ranges Keys a b twins.is_a twins.is_b twins.agree t (record { on_a = has.0; on_b = has.1 }) 0 conjuncts [] (path_of t 0 conjuncts))
      (λ rows. turns keys encodings ties ranges Keys a b twins.is_a twins.is_b twins.agree (met_row conjuncts) rows
      (λ row. follows keys encodings ties ranges Keys a b twins.is_a twins.is_b twins.agree (need Overflow (meets conjuncts row.values)) (λ met. give (if_found row met))
      (needs keys encodings ties ranges Keys a b twins.is_a twins.is_b twins.agree Overflow (meets conjuncts row.values)) (λ met. gives keys encodings ties ranges Keys a b twins.is_a twins.is_b twins.agree (if_found row met))))

  module _ (t : Table) where
    -- two databases with the table that agree, and rows of both
    pub record Found (rows : List Row) (a b : Database) : Type 0 where
      pub twins : Twins Keys a b
      pub has : InBoth Keys a b t
      pub in_a : AllByRecursion (IsIn a t) rows
      pub in_b : AllByRecursion (IsIn b t) rows

    pub met_goes : (conjuncts : List Bound) → Goes Keys (λ a b. Twins Keys a b × InBoth Keys a b t) Found (met_rows t conjuncts)
    met_goes conjuncts a b inv inside =
        let work = met_rows t conjuncts in
        let same = met_decided a b inv.0 t inv.1 conjuncts inside in
        record {
          result = same.result;
          reads = same.reads;
          left = by_result (work a).result (work a).db (work b).db same.left same.right (met_finds a t conjuncts).1 (subst (OnValue (AllByRecursion (IsIn b t))) (sym same.result) (met_finds b t conjuncts).1);
        }
      where
        by_result : (r : Result (List Row) Refusal) (da db : Database) → da ≡ a → db ≡ b → OnValue (AllByRecursion (IsIn a t)) r → OnValue (AllByRecursion (IsIn b t)) r → OnValue (λ rows. Found rows da db) r
        by_result (Ok rows) da db left right one other =
            subst (λ d. Found rows d db) (sym left) (subst (λ d. Found rows a d) (sym right) (record { twins = inv.0; has = inv.1; in_a = one; in_b = other }))
        by_result (Err refusal) da db left right one other = tt

    -- ---- the rows that go

    pub record BothGoing (olds : List Row) (a b : Database) : Type 0 where
      pub on_a : Going t olds a
      pub on_b : Going t olds b
      pub agree : Agree Keys a b

    module _ (old : Row) (olds : List Row) where
      -- an entry that is left in the one is left in the other
      over : (a b : Database) → (on_a : Going t (old ∷ olds) a) → (on_b : Going t (old ∷ olds) b) → Agree Keys a b → (e : Entry) → IsAt Keys e
          → Among e (entries_of (cleared t old olds a on_a)) → Among e (entries_of (cleared t old olds b on_b))
      over a b on_a on_b agree e at among =
          let there = across keys encodings Keys a b on_a.is on_b.is agree e at (left_back t old olds a on_a e among) in
          elim (left_over t old olds b on_b e there) [ inl own ↦ absurd (left_not t old olds a on_a e own among) | inr stays ↦ stays ]

      clear_goes : Goes Keys (BothGoing (old ∷ olds)) (λ done. BothGoing olds) (clear_row t old)
      clear_goes a b going inside = record {
        result = refl;
        reads = refl;
        left = record {
          on_a = still_going t old olds a going.on_a;
          on_b = still_going t old olds b going.on_b;
          agree = agree_from Keys (cleared t old olds a going.on_a) (cleared t old olds b going.on_b) (over a b going.on_a going.on_b going.agree) (over b a going.on_b going.on_a (agree_back Keys a b going.agree));
        };
      }

    clear_all : (olds : List Row) → Goes Keys (BothGoing olds) (Agrees Keys) (for_each (clear_row t) olds)
    clear_all [] = λ a b going inside. record { result = refl; reads = refl; left = going.agree }
    clear_all (old ∷ olds) =
        next_goes Keys (λ done. BothGoing olds) (Agrees Keys) (λ done. for_each (clear_row t) olds) (λ done. clear_all olds) (BothGoing (old ∷ olds)) (clear_row t old) (clear_goes old olds)

    -- rows of a table are alone with their rowids
    going_of : (rows : List Row) (db : Database) → IsDatabase db → Has db t → AllByRecursion (IsIn db t) rows → Going t rows db
    going_of rows db is has all =
        let f = has.filled in
        let tree : f.table.tree ≡ t.tree = ap (λ (x : Table). x.tree) has.is in
        let same : rows_in db t.tree ≡ f.rows = rows_found db t.tree f (λ g in_db trees. one_tree db g f is in_db has.among (trees ∙ sym tree)) has.among tree in
        record {
          is = is;
          has = has;
          single = all_weaker (IsIn db t) (Single f.rows) rows (λ old here row there rowid. same_row db is f row old has.among there (subst (λ l. Among old l) same here) rowid) all;
        }

    delete_goes : (conjuncts : List Bound) → Goes Keys (λ a b. Twins Keys a b × InBoth Keys a b t) (Agrees Keys) (delete t conjuncts)
    delete_goes conjuncts =
        next_goes Keys Found (Agrees Keys) (λ rows. next (for_each (clear_row t) rows) (λ all. give (done (length rows))))
        (λ rows a b found. next_goes Keys (Agrees Keys) (Agrees Keys) (λ all. give (done (length rows))) (λ all c d agree inside. record { result = refl; reads = refl; left = agree })
        (BothGoing rows) (for_each (clear_row t) rows) (clear_all rows) a b
        (record { on_a = going_of rows a found.twins.is_a found.has.0 found.in_a; on_b = going_of rows b found.twins.is_b found.has.1 found.in_b; agree = found.twins.agree }))
        (λ a b. Twins Keys a b × InBoth Keys a b t) (met_rows t conjuncts) (met_goes conjuncts)

  pub statement_goes : (table : List ℕ) (filter : Option Expr) → Goes Keys (Twins Keys) (Agrees Keys) (over_tables (table ∷ []) (stmt.Delete table filter))
  statement_goes table filter =
      over_goes Keys keys encodings ties ranges (table ∷ []) (stmt.Delete table filter)
      (λ tables a b twins all. after_on (InBoth Keys a b) (Carried Keys keys encodings ties ranges a b) (table_called tables table) _ (called_on (InBoth Keys a b) tables table all)
      (λ t has. after_on Any (Carried Keys keys encodings ties ranges a b) (filtered (scope_of t) filter) _ (any_on (filtered (scope_of t) filter)) (λ kept any. delete_goes t kept a b (twins, has))))

pub delete_decided : KeysDiffer → NoEncodingBeginsAnother → TiesAreSame → RangesHoldTheirKeys → (table : List ℕ) (filter : Option Expr) → IsDecidedByItsReads (stmt.Delete table filter)
delete_decided keys encodings ties ranges table filter = decided_by (stmt.Delete table filter) (λ Keys. statement_goes keys encodings ties ranges Keys table filter)
