-- What is true of the value that work gives, whatever it works on.
use Rattle.std.proofs.Common.{◌≡◌, ℕ, List, [], ◌∷◌, ◌++◌, length, map, Bool, true, false, not, Option, Some, None, Result, Ok, Err, refl, sym, ◌∙◌, if◌then◌else◌}
use Rattle.std.specs.Prelude.{◌&&◌}
use Rattle.std.specs.Option.{is_some}
use Rattle.hc_ast.specs.declared.bound.Bound.{Bound}
use Rattle.hc_ast.specs.declared.statement.Stmt.{Stmt}
use Rattle.hc_ast.specs.declared.statement.Stmt.TheVariants as stmt
use Rattle.hc_ast.specs.declared.query.FromTable.{FromTable}
use Rattle.hc_ast.specs.declared.table.ColumnDef.{ColumnDef}
use Rattle.hc_ast.specs.declared.table.KeyRule.{KeyRule}
use Rattle.hc_transcript.specs.declared.refusal.Refusal.{Refusal}
use Rattle.hc_transcript.specs.declared.refusal.Refusal.TheVariants as refusal
use Rattle.hc_transcript.specs.declared.reply.Line.TheVariants as line
use Rattle.hc_schema.specs.declared.table.Table.{Table}
use Rattle.hc_schema.specs.declared.table.Index.{Index}
use Rattle.hc_schema.specs.declared.bound_statement.BoundRow.{BoundRow}
use Rattle.hc_schema.specs.declared.bound_statement.BoundSet.{BoundSet}
use Rattle.hc_schema.specs.Databases.{Database}
use Rattle.hc_schema.specs.Tables.{is_rule}
use Rattle.hc_schema.specs.Binding.Faults.{Judged}
use Rattle.hc_schema.specs.Binding.Queries.{Query}
use Rattle.hc_schema.specs.Binding.Statements.{Binding, Select, Insert, Update, Delete, Other, binding}
use Rattle.hc_sql.specs.Work.{Work, give, next, go_on, refuse, refuse_if, need, for_each, change}
use Rattle.hc_sql.specs.Stored.{Owned, index_of, without_table}
use Rattle.hc_sql.specs.Looks.{read_catalog, find_rows}
use Rattle.hc_sql.specs.Select.{candidates}
use Rattle.hc_sql.specs.Grouping.{all_some}
use Rattle.hc_sql.specs.Results.{Reply, done, run_query, all_results, ordered, reply_of}
use Rattle.hc_sql.specs.Tests.{unless, test_lengths, keys_of}
use Rattle.hc_sql.specs.Insert.{insert, insert_row}
use Rattle.hc_sql.specs.Update.{update, delete, met_rows, clear_row, changed, change_row}
use Rattle.hc_sql.specs.Definitions.{is_reserved, table_refused, index_refused, new_table, new_index, last_tree}
use Rattle.hc_sql.specs.Catalog.{table_named, test_name, is_tree, next_tree, in_order, catalog_entries, index_entries, index_rows, put_table, put_index, make_table, create_new_table, create_table, create_table_in, make_index, create_new_index, create_index, create_index_in, or_nothing, ranges_of, clear_index, drop_that_table, drop_that_index}
use Rattle.hc_sql.specs.Statements.{carry_out, if_bound, over_tables, named_tables, work_of, ran, run}

-- P of a value that is there
abbrev pub OnValue : {A : Type 0} → (A → Type 0) → Result A Refusal → Type 0
OnValue P (Ok a) = P a
OnValue P (Err refusal) = Unit {0}

abbrev pub Gives : {A : Type 0} → (A → Type 0) → Work A → Type 0
Gives P work = (db : Database) → OnValue P (work db).result

pub next_gives : {A B : Type 0} (P : B → Type 0) (work : Work A) (more : A → Work B) → ((a : A) → Gives P (more a)) → Gives P (next work more)
next_gives {A} P work more gives db = by_result (work db).result
  where
    by_result : (r : Result A Refusal) → OnValue P (go_on r (work db).db (work db).reads more).result
    by_result (Ok a) = gives a (work db).db
    by_result (Err refusal) = tt

if_gives : {A : Type 0} (P : A → Type 0) (b : Bool) (one other : Work A) → Gives P one → Gives P other → Gives P (if b then one else other)
if_gives P true one other a b = a
if_gives P false one other a b = b

-- ---- a statement that is not refused answers that it is carried out

abbrev pub IsAnswer : Reply → Type 0
IsAnswer reply = (n : ℕ) × (reply.last ≡ line.Ok n)

abbrev Answers : Work Reply → Type 0
Answers work = Gives IsAnswer work

query_answers : (q : Query) → Answers (run_query q)
query_answers q =
    next_gives IsAnswer (candidates q.tables q.conjuncts) (λ rows. next (need refusal.Overflow (all_results q rows)) (λ results. give (reply_of (ordered q results))))
    (λ rows. next_gives IsAnswer (need refusal.Overflow (all_results q rows)) (λ results. give (reply_of (ordered q results)))
    (λ results db. (length (ordered q results), refl)))

insert_answers : (t : Table) (places : List ℕ) (rows : List BoundRow) → Answers (insert t places rows)
insert_answers t places rows = next_gives IsAnswer (for_each (insert_row t places) rows) (λ all. give (done (length rows))) (λ all db. (length rows, refl))

delete_answers : (t : Table) (conjuncts : List Bound) → Answers (delete t conjuncts)
delete_answers t conjuncts =
    next_gives IsAnswer (met_rows t conjuncts) (λ rows. next (for_each (clear_row t) rows) (λ all. give (done (length rows))))
    (λ rows. next_gives IsAnswer (for_each (clear_row t) rows) (λ all. give (done (length rows))) (λ all db. (length rows, refl)))

update_answers : (t : Table) (sets : List BoundSet) (conjuncts : List Bound) → Answers (update t sets conjuncts)
update_answers t sets conjuncts =
    next_gives IsAnswer (met_rows t conjuncts)
    (λ rows. next (need refusal.Overflow (all_some (map (changed t sets) rows))) (λ changes. next (for_each (change_row t) changes) (λ all. give (done (length rows)))))
    (λ rows. next_gives IsAnswer (need refusal.Overflow (all_some (map (changed t sets) rows))) (λ changes. next (for_each (change_row t) changes) (λ all. give (done (length rows))))
    (λ changes. next_gives IsAnswer (for_each (change_row t) changes) (λ all. give (done (length rows))) (λ all db. (length rows, refl))))

carried_answers : (bound : Binding) → Answers (carry_out bound)
carried_answers (Select q) = query_answers q
carried_answers (Insert t places rows) = insert_answers t places rows
carried_answers (Update t sets conjuncts) = update_answers t sets conjuncts
carried_answers (Delete t conjuncts) = delete_answers t conjuncts
carried_answers (Other s) = λ db. (0, refl)

bound_answers : (b : Judged Binding) → Answers (if_bound b)
bound_answers (Ok bound) = carried_answers bound
bound_answers (Err fault) = λ db. tt

named_answers : (names : List (List ℕ)) (s : Stmt) → Answers (over_tables names s)
named_answers names s = next_gives IsAnswer (named_tables names) (λ tables. if_bound (binding tables s)) (λ tables. bound_answers (binding tables s))

-- ---- CREATE and DROP

table_answers : (t : Table) → Answers (make_table t)
table_answers t =
    next_gives IsAnswer (refuse_if (not (is_tree (last_tree t))) refusal.Trees) (λ trees. next (test_lengths (in_order (catalog_entries t))) (λ lengths. next (put_table t) (λ put. give (done 0))))
    (λ trees. next_gives IsAnswer (test_lengths (in_order (catalog_entries t))) (λ lengths. next (put_table t) (λ put. give (done 0)))
    (λ lengths. next_gives IsAnswer (put_table t) (λ put. give (done 0)) (λ put db. (0, refl))))

new_table_answers : (tables : List Table) (name : List ℕ) (columns : List ColumnDef) (rules : List KeyRule) → Answers (create_new_table tables name columns rules)
new_table_answers tables name columns rules =
    next_gives IsAnswer (test_name tables name) (λ free. next (unless (table_refused name columns rules)) (λ right. make_table (new_table name (next_tree tables) columns rules)))
    (λ free. next_gives IsAnswer (unless (table_refused name columns rules)) (λ right. make_table (new_table name (next_tree tables) columns rules))
    (λ right. table_answers (new_table name (next_tree tables) columns rules)))

create_table_answers : (maybe : Bool) (name : List ℕ) (columns : List ColumnDef) (rules : List KeyRule) → Answers (create_table maybe name columns rules)
create_table_answers maybe name columns rules =
    next_gives IsAnswer read_catalog (λ tables. create_table_in tables maybe name columns rules)
    (λ tables. next_gives IsAnswer (refuse_if (is_reserved name) (refusal.Reserved name))
    (λ free. if maybe && is_some (table_named tables name) then give (done 0) else create_new_table tables name columns rules)
    (λ free. if_gives IsAnswer (maybe && is_some (table_named tables name)) (give (done 0)) (create_new_table tables name columns rules) (λ db. (0, refl)) (new_table_answers tables name columns rules)))

index_answers : (t : Table) (index : Index) → Answers (make_index t index)
index_answers t index =
    next_gives IsAnswer (refuse_if (not (is_tree index.tree)) refusal.Trees)
    (λ trees. next (test_lengths (in_order (index_entries t index))) (λ lengths. next (find_rows t) (λ rows. next (index_rows t index [] rows) (λ all. next (put_index t index) (λ put. give (done 0))))))
    (λ trees. next_gives IsAnswer (test_lengths (in_order (index_entries t index)))
    (λ lengths. next (find_rows t) (λ rows. next (index_rows t index [] rows) (λ all. next (put_index t index) (λ put. give (done 0)))))
    (λ lengths. next_gives IsAnswer (find_rows t) (λ rows. next (index_rows t index [] rows) (λ all. next (put_index t index) (λ put. give (done 0))))
    (λ rows. next_gives IsAnswer (index_rows t index [] rows) (λ all. next (put_index t index) (λ put. give (done 0)))
    (λ all. next_gives IsAnswer (put_index t index) (λ put. give (done 0)) (λ put db. (0, refl))))))

new_index_answers : (tables : List Table) (t : Table) (is_unique : Bool) (name : List ℕ) (columns : List (List ℕ)) → Answers (create_new_index tables t is_unique name columns)
new_index_answers tables t is_unique name columns =
    next_gives IsAnswer (test_name tables name) (λ free. next (unless (index_refused t columns)) (λ right. make_index t (new_index t name (next_tree tables) is_unique columns)))
    (λ free. next_gives IsAnswer (unless (index_refused t columns)) (λ right. make_index t (new_index t name (next_tree tables) is_unique columns))
    (λ right. index_answers t (new_index t name (next_tree tables) is_unique columns)))

create_index_answers : (is_unique maybe : Bool) (name table : List ℕ) (columns : List (List ℕ)) → Answers (create_index is_unique maybe name table columns)
create_index_answers is_unique maybe name table columns =
    next_gives IsAnswer read_catalog (λ tables. create_index_in tables is_unique maybe name table columns)
    (λ tables. next_gives IsAnswer (refuse_if (is_reserved name) (refusal.Reserved name))
    (λ free. next (need (refusal.NoTable table) (table_named tables table)) (λ t. if maybe && is_some (index_of tables name) then give (done 0) else create_new_index tables t is_unique name columns))
    (λ free. next_gives IsAnswer (need (refusal.NoTable table) (table_named tables table)) (λ t. if maybe && is_some (index_of tables name) then give (done 0) else create_new_index tables t is_unique name columns)
    (λ t. if_gives IsAnswer (maybe && is_some (index_of tables name)) (give (done 0)) (create_new_index tables t is_unique name columns) (λ db. (0, refl)) (new_index_answers tables t is_unique name columns))))

nothing_answers : {A : Type 0} (maybe : Bool) (missing : Refusal) (drop : A → Work Reply) (found : Option A) → ((x : A) → Answers (drop x)) → Answers (or_nothing maybe missing drop found)
nothing_answers maybe missing drop None answers = if_gives IsAnswer maybe (give (done 0)) (refuse missing) (λ db. (0, refl)) (λ db. tt)
nothing_answers maybe missing drop (Some x) answers = answers x

drop_table_answers : (t : Table) → Answers (drop_that_table t)
drop_table_answers t = next_gives IsAnswer (change (ranges_of t ++ keys_of (catalog_entries t)) (without_table t.tree)) (λ dropped. give (done 0)) (λ dropped db. (0, refl))

drop_index_answers : (o : Owned) → Answers (drop_that_index o)
drop_index_answers o =
    next_gives IsAnswer (refuse_if (is_rule o.index.kind) (refusal.Reserved o.index.name)) (λ made. next (clear_index o.table o.index) (λ dropped. give (done 0)))
    (λ made. next_gives IsAnswer (clear_index o.table o.index) (λ dropped. give (done 0)) (λ dropped db. (0, refl)))

pub each_answers : (s : Stmt) → Answers (work_of s)
each_answers (stmt.Select q) = named_answers (map (λ (t : FromTable). t.name) q.tables) (stmt.Select q)
each_answers (stmt.Insert table columns rows) = named_answers (table ∷ []) (stmt.Insert table columns rows)
each_answers (stmt.Update table sets filter) = named_answers (table ∷ []) (stmt.Update table sets filter)
each_answers (stmt.Delete table filter) = named_answers (table ∷ []) (stmt.Delete table filter)
each_answers (stmt.CreateTable maybe name columns rules) = create_table_answers maybe name columns rules
each_answers (stmt.CreateIndex is_unique maybe name table columns) = create_index_answers is_unique maybe name table columns
each_answers (stmt.DropTable maybe name) =
    next_gives IsAnswer read_catalog (λ tables. or_nothing maybe (refusal.NoTable name) drop_that_table (table_named tables name))
    (λ tables. nothing_answers maybe (refusal.NoTable name) drop_that_table (table_named tables name) drop_table_answers)
each_answers (stmt.DropIndex maybe name) =
    next_gives IsAnswer read_catalog (λ tables. or_nothing maybe (refusal.NoIndex name) drop_that_index (index_of tables name))
    (λ tables. nothing_answers maybe (refusal.NoIndex name) drop_that_index (index_of tables name) drop_index_answers)
each_answers stmt.Begin = λ db. (0, refl)
each_answers stmt.Commit = λ db. (0, refl)
each_answers stmt.Rollback = λ db. (0, refl)
each_answers (stmt.RollbackTo name) = λ db. (0, refl)
each_answers (stmt.Savepoint name) = λ db. (0, refl)
each_answers (stmt.Release name) = λ db. (0, refl)

-- ---- a refused statement changes nothing

told_apart : (n : ℕ) (refusal : Refusal) → line.Ok n ≡ line.Error refusal → ⊥
told_apart n refusal same = cc

by_result : (before after : Database) (r : Result Reply Refusal) (refusal : Refusal) → OnValue IsAnswer r → (ran before r after).reply.last ≡ line.Error refusal → (ran before r after).db ≡ before
by_result before after (Ok reply) refusal answers is = absurd (told_apart answers.0 refusal (sym answers.1 ∙ is))
by_result before after (Err other) refusal answers is = refl

pub refused_same : (db : Database) (s : Stmt) (refusal : Refusal) → (run db s).reply.last ≡ line.Error refusal → (run db s).db ≡ db
refused_same db s refusal is = by_result db (work_of s db).db (work_of s db).result refusal (each_answers s db) is
