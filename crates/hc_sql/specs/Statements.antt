-- What a statement answers, what it changes, and what it reads: `run` and `reads`, by one work. First the catalog ranges of all
-- tables that it names are read, also of those after a fault of binding; then it is bound; then it is carried out. CREATE and DROP
-- read the whole catalog in place of that.
use Rattle.std.specs.Prelude.{ℕ, List, [], ◌∷◌, map, flat_map, Result, Ok, Err}
use Rattle.std.specs.Option.{option_to_list}
use Rattle.hc_range.specs.declared.range.Range.{Range}
use Rattle.hc_ast.specs.declared.query.FromTable.{FromTable}
use Rattle.hc_ast.specs.declared.statement.Stmt.{Stmt}
use Rattle.hc_ast.specs.declared.statement.Stmt.TheVariants as stmt
use Rattle.hc_transcript.specs.declared.reply.Line.TheVariants as line
use Rattle.hc_transcript.specs.declared.refusal.Refusal.{Refusal}
use Rattle.hc_transcript.specs.declared.refusal.Refusal.TheVariants as refusal
use Rattle.hc_schema.specs.declared.table.Table.{Table}
use Rattle.hc_schema.specs.Databases.{Database}
use Rattle.hc_schema.specs.Binding.Faults.{Fault, Judged, NoTable, NoColumn, Ambiguous, TwoColumns, NoFunction, Mixed, Misplaced, Arity, NoItem, NotItem}
use Rattle.hc_schema.specs.Binding.Statements.{Binding, Select, Insert, Update, Delete, Other, binding}
use Rattle.hc_sql.specs.Work.{Work, give, refuse, next, in_turn}
use Rattle.hc_sql.specs.Looks.{find_table}
use Rattle.hc_sql.specs.Results.{Reply, done, run_query}
use Rattle.hc_sql.specs.Insert.{insert}
use Rattle.hc_sql.specs.Update.{update, delete}
use Rattle.hc_sql.specs.Catalog.{create_table, create_index, drop_table, drop_index}

-- why a statement that cannot be bound is refused
abbrev pub refusal_of : Fault → Refusal
refusal_of (NoTable name) = refusal.NoTable name
refusal_of (NoColumn name) = refusal.NoColumn name
refusal_of (Ambiguous name) = refusal.Ambiguous name
refusal_of (TwoColumns name) = refusal.TwoColumns name
refusal_of (NoFunction name) = refusal.NoFunction name
refusal_of Mixed = refusal.Mixed
refusal_of Misplaced = refusal.Aggregate
refusal_of (Arity given wanted) = refusal.Arity given wanted
refusal_of (NoItem n) = refusal.NoItem n
refusal_of NotItem = refusal.NotItem

-- the tables of these names that there are; each name's catalog range is read
abbrev pub named_tables : List (List ℕ) → Work (List Table)
named_tables names = next (in_turn find_table names) (λ found. give (flat_map option_to_list found))

-- A statement of another kind touches nothing.
abbrev pub carry_out : Binding → Work Reply
carry_out (Select q) = run_query q
carry_out (Insert t places rows) = insert t places rows
carry_out (Update t sets conjuncts) = update t sets conjuncts
carry_out (Delete t conjuncts) = delete t conjuncts
carry_out (Other s) = give (done 0)

abbrev pub if_bound : Judged Binding → Work Reply
if_bound (Ok bound) = carry_out bound
if_bound (Err fault) = refuse (refusal_of fault)

-- a statement over the tables that it names
abbrev pub over_tables : List (List ℕ) → Stmt → Work Reply
over_tables names s = next (named_tables names) (λ tables. if_bound (binding tables s))

abbrev pub work_of : Stmt → Work Reply
work_of (stmt.Select q) = over_tables (map (λ (t : FromTable). t.name) q.tables) (stmt.Select q)
work_of (stmt.Insert table columns rows) = over_tables (table ∷ []) (stmt.Insert table columns rows)
work_of (stmt.Update table sets filter) = over_tables (table ∷ []) (stmt.Update table sets filter)
work_of (stmt.Delete table filter) = over_tables (table ∷ []) (stmt.Delete table filter)
work_of (stmt.CreateTable maybe name columns rules) = create_table maybe name columns rules
work_of (stmt.CreateIndex is_unique maybe name table columns) = create_index is_unique maybe name table columns
work_of (stmt.DropTable maybe name) = drop_table maybe name
work_of (stmt.DropIndex maybe name) = drop_index maybe name
work_of s = give (done 0)

-- what a statement answers, and the database after it
pub record Ran : Type 0 where
  pub reply : Reply
  pub db : Database

-- a refused statement changes nothing
abbrev pub ran : Database → Result Reply Refusal → Database → Ran
ran before (Ok reply) after = record { reply = reply; db = after }
ran before (Err refusal) after = record { reply = record { rows = []; last = line.Error refusal }; db = before }

abbrev pub run : Database → Stmt → Ran
run db s = let did = work_of s db in ran db did.result did.db

-- the ranges of keys that a statement reads, sets and clears, in the order of work, up to its refusal
abbrev pub reads : Database → Stmt → List Range
reads db s = (work_of s db).reads
