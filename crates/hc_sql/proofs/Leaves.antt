-- Work that keeps what is true of a database, and what a statement leaves that is carried out by such work.
use Rattle.std.proofs.Common.{◌≡◌, ℕ, List, [], ◌∷◌, length, Option, Result, Ok, Err, subst, sym}
use Rattle.std.specs.List.{AllByRecursion}
use Rattle.hc_range.specs.declared.range.Range.{Range}
use Rattle.hc_ast.specs.declared.bound.Bound.{Bound}
use Rattle.hc_ast.specs.declared.expression.Expr.{Expr}
use Rattle.hc_ast.specs.declared.statement.Stmt.{Stmt}
use Rattle.hc_ast.specs.declared.statement.Stmt.TheVariants as stmt
use Rattle.hc_transcript.specs.declared.refusal.Refusal.{Refusal}
use Rattle.hc_schema.specs.declared.table.Table.{Table}
use Rattle.hc_schema.specs.Databases.{Database, IsDatabase}
use Rattle.hc_schema.specs.Binding.Faults.{Judged}
use Rattle.hc_schema.specs.Binding.Scopes.{table_called, scope_of}
use Rattle.hc_schema.specs.Binding.Changes.{filtered}
use Rattle.hc_schema.specs.Binding.Statements as bound
use Rattle.hc_sql.specs.Work.{Work, Task, give, go_on, next, for_each}
use Rattle.hc_sql.specs.Results.{Reply, done}
use Rattle.hc_sql.specs.Update.{met_rows, clear_row, delete}
use Rattle.hc_sql.specs.Statements.{named_tables, carry_out, if_bound, over_tables, ran, run}
use Rattle.hc_sql.proofs.Endings.{OnValue}
use Rattle.hc_sql.proofs.DecidedLooks.{Any, Has}
use Rattle.hc_sql.proofs.BoundTables.{OnMeaning, after_on, any_on, called_on}
use Rattle.hc_sql.proofs.Finds.{IsIn, Finds, met_finds}
use Rattle.hc_sql.proofs.Kept.{After}
use Rattle.hc_sql.proofs.KeptStatements.{named_has}
use Rattle.hc_sql.proofs.OtherRows.{taken_out}

-- on a database with Inv the value and what is left have Post
abbrev pub Leads : {A : Type 0} → (Database → Type 0) → (A → Database → Type 0) → Work A → Type 0
Leads Inv Post work = (db : Database) → Inv db → After Post (work db)

pub next_leads : {A B : Type 0} (Inv : Database → Type 0) (Mid : A → Database → Type 0) (Post : B → Database → Type 0) (work : Work A) (more : A → Work B)
    → Leads Inv Mid work → ((x : A) → Leads (Mid x) Post (more x)) → Leads Inv Post (next work more)
next_leads {A} {B} Inv Mid Post work more first rest db is = by_result (work db).result (work db).db (work db).reads (first db is)
  where
    by_result : (r : Result A Refusal) (after : Database) (reads : List Range) → OnValue (λ a. Mid a after) r → After Post (go_on r after reads more)
    by_result (Ok x) after reads mid = rest x after mid
    by_result (Err refusal) after reads mid = tt

pub for_each_leads : {X : Type 0} (Inv : Database → Type 0) (task : X → Task) (xs : List X) → ((x : X) → Leads Inv (λ done. Inv) (task x)) → Leads Inv (λ done. Inv) (for_each task xs)
for_each_leads Inv task [] each = λ db is. is
for_each_leads Inv task (x ∷ xs) each = next_leads Inv (λ done. Inv) (λ done. Inv) (task x) (λ done. for_each task xs) (each x) (λ done. for_each_leads Inv task xs each)

-- what is found leaves the database as it was
pub finds_leads : {A : Type 0} (Inv : Database → Type 0) (P : Database → A → Type 0) (work : Work A) → ((db : Database) → Inv db → Finds db (P db) work) → Leads Inv (λ x db. Inv db × P db x) work
finds_leads {A} Inv P work finds db is = let both = finds db is in by_result (work db).result (work db).db both.0 both.1
  where
    by_result : (r : Result A Refusal) (after : Database) → after ≡ db → OnValue (P db) r → OnValue (λ x. Inv after × P after x) r
    by_result (Ok x) after same holds = subst (λ d. Inv d × P d x) (sym same) (is, holds)
    by_result (Err refusal) after same holds = tt

abbrev pub IsLeft : {A : Type 0} → A → Database → Type 0
IsLeft x db = IsDatabase db

-- a statement over tables leaves a database where it does once it is bound
pub over_leads : (names : List (List ℕ)) (s : Stmt)
    → ((db : Database) → IsDatabase db → (tables : List Table) → AllByRecursion (Has db) tables → OnMeaning (λ b. After IsLeft (carry_out b db)) (bound.binding tables s)) → Leads IsDatabase IsLeft (over_tables names s)
over_leads names s carried =
    next_leads IsDatabase (λ tables db. IsDatabase db × AllByRecursion (Has db) tables) IsLeft (named_tables names) (λ tables. if_bound (bound.binding tables s))
    (finds_leads IsDatabase (λ db. AllByRecursion (Has db)) (named_tables names) (λ db is. named_has db names))
    (λ tables db is. by_meaning db (bound.binding tables s) (carried db is.0 tables is.1))
  where
    by_meaning : (db : Database) (j : Judged bound.Binding) → OnMeaning (λ b. After IsLeft (carry_out b db)) j → After IsLeft (if_bound j db)
    by_meaning db (Ok b) left = left
    by_meaning db (Err fault) left = tt

-- a refused statement leaves the database as it was
pub ran_left : (db after : Database) (r : Result Reply Refusal) → IsDatabase db → OnValue (λ reply. IsLeft reply after) r → IsDatabase (ran db r after).db
ran_left db after (Ok reply) is left = left
ran_left db after (Err refusal) is left = is

-- ---- DELETE

delete_leads : (t : Table) (conjuncts : List Bound) → Leads IsDatabase IsLeft (delete t conjuncts)
delete_leads t conjuncts =
    next_leads IsDatabase (λ rows db. IsDatabase db × AllByRecursion (IsIn db t) rows) IsLeft (met_rows t conjuncts) (λ rows. next (for_each (clear_row t) rows) (λ all. give (done (length rows))))
    (finds_leads IsDatabase (λ db. AllByRecursion (IsIn db t)) (met_rows t conjuncts) (λ db is. met_finds db t conjuncts))
    (λ rows db is. next_leads IsDatabase (λ all. IsDatabase) IsLeft (for_each (clear_row t) rows) (λ all. give (done (length rows)))
    (for_each_leads IsDatabase (clear_row t) rows (λ row d here. taken_out t.tree row.rowid d here)) (λ all d here. here) db is.0)

pub delete_left : (db : Database) (table : List ℕ) (filter : Option Expr) → IsDatabase db → IsDatabase (run db (stmt.Delete table filter)).db
delete_left db table filter is =
    let work = over_tables (table ∷ []) (stmt.Delete table filter) in
    ran_left db (work db).db (work db).result is
    (over_leads (table ∷ []) (stmt.Delete table filter)
    (λ d here tables all. after_on (Has d) (λ b. After IsLeft (carry_out b d)) (table_called tables table) _ (called_on (Has d) tables table all)
    (λ t has. after_on Any (λ b. After IsLeft (carry_out b d)) (filtered (scope_of t) filter) _ (any_on (filtered (scope_of t) filter)) (λ kept any. delete_leads t kept d here))) db is)
