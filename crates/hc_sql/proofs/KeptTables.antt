-- CREATE TABLE changes no key but those that it reads.
use Rattle.std.proofs.Common.{ℕ, List, [], ◌∷◌, ◌++◌, ◌⊎◌, inl, inr, Bool, true, false, not, nat_lt, if◌then◌else◌, refl}
use Rattle.std.specs.Prelude.{◌&&◌}
use Rattle.std.specs.Option.{is_some, option_map}
use Rattle.hc_range.specs.Ranges.{InAny}
use Rattle.hc_ast.specs.declared.table.ColumnDef.{ColumnDef}
use Rattle.hc_ast.specs.declared.table.KeyRule.{KeyRule}
use Rattle.hc_base.specs.Lookup.{Among}
use Rattle.hc_transcript.specs.declared.refusal.Refusal.TheVariants as refusal
use Rattle.hc_schema.specs.declared.entry.Entry.{Entry}
use Rattle.hc_schema.specs.declared.table.Table.{Table}
use Rattle.hc_schema.specs.Cells.{table_entries, name_entries}
use Rattle.hc_schema.specs.Databases.{Database, Filled, entries_of, filled_entries}
use Rattle.hc_schema.proofs.Orders.{among_front, among_back, among_either}
use Rattle.hc_sql.specs.Work.{give, next, refuse_if}
use Rattle.hc_sql.specs.Stored.{with_table}
use Rattle.hc_sql.specs.Looks.{read_catalog}
use Rattle.hc_sql.specs.Results.{done}
use Rattle.hc_sql.specs.Tests.{unless, test_lengths, too_long, keys_of}
use Rattle.hc_sql.specs.Definitions.{is_reserved, new_table, last_tree, table_refused}
use Rattle.hc_sql.specs.Catalog.{table_named, in_use, test_name, is_tree, in_order, catalog_entries, put_table, make_table, next_tree, create_new_table, create_table_in, create_table}
use Rattle.hc_sql.proofs.Kept.{Kept, IsConfined, next_confined, still_confined, refuse_if_still, unless_still}
use Rattle.hc_sql.proofs.KeptRows.{at_own}

-- the new table, which has no rows
abbrev pub new_filled : Table → Filled
new_filled t = record { table = t; rows = [] }

pub new_over : (t : Table) (db : Database) (e : Entry) → Among e (entries_of db) → Among e (entries_of (with_table t db))
new_over t [] e among = absurd among
new_over t (f ∷ db) e among = by_test (nat_lt f.table.tree t.tree) (new_over t db e) (among_either e (filled_entries f) (entries_of db) among)
  where
    by_test : (less : Bool) → (Among e (entries_of db) → Among e (entries_of (with_table t db))) → Among e (filled_entries f) ⊎ Among e (entries_of db)
        → Among e (entries_of (if less then f ∷ with_table t db else new_filled t ∷ f ∷ db))
    by_test true rest (inl front) = among_front e (filled_entries f) (entries_of (with_table t db)) front
    by_test true rest (inr later) = among_back e (filled_entries f) (entries_of (with_table t db)) (rest later)
    by_test false rest either = among_back e (filled_entries (new_filled t)) (entries_of (f ∷ db)) among

pub new_back : (t : Table) (db : Database) (e : Entry) → Among e (entries_of (with_table t db)) → Among e (filled_entries (new_filled t)) ⊎ Among e (entries_of db)
new_back t [] e among = among_either e (filled_entries (new_filled t)) [] among
new_back t (f ∷ db) e among = by_test (nat_lt f.table.tree t.tree) (new_back t db e) among
  where
    by_test : (less : Bool) → (Among e (entries_of (with_table t db)) → Among e (filled_entries (new_filled t)) ⊎ Among e (entries_of db))
        → Among e (entries_of (if less then f ∷ with_table t db else new_filled t ∷ f ∷ db)) → Among e (filled_entries (new_filled t)) ⊎ Among e (entries_of (f ∷ db))
    by_test true rest here = elim (among_either e (filled_entries f) (entries_of (with_table t db)) here) [
      | inl front ↦ inr (among_front e (filled_entries f) (entries_of db) front)
      | inr later ↦ elim (rest later) [ inl mine ↦ inl mine | inr old ↦ inr (among_back e (filled_entries f) (entries_of db) old) ]
    ]
    by_test false rest here = among_either e (filled_entries (new_filled t)) (entries_of (f ∷ db)) here

in_catalog : (t : Table) (e : Entry) → Among e (filled_entries (new_filled t)) → Among e (catalog_entries t)
in_catalog t e among = elim (among_either e (table_entries t) (name_entries t ++ []) among) [
  | inl front ↦ among_front e (table_entries t) (name_entries t) front
  | inr rest ↦ elim (among_either e (name_entries t) [] rest) [ inl name ↦ among_back e (table_entries t) (name_entries t) name | inr none ↦ absurd none ]
]

table_kept : (t : Table) (db : Database) → Kept (InAny (keys_of (catalog_entries t))) db (with_table t db)
table_kept t db = record {
  over = λ e off among. new_over t db e among;
  back = λ e off among. elim (new_back t db e among) [ inl mine ↦ absurd (off (at_own (catalog_entries t) e (in_catalog t e mine))) | inr old ↦ old ];
}

abbrev pub Free : Database → Type 0
Free db = Unit {0}

make_confined : (t : Table) → IsConfined Free (λ reply. Free) (make_table t)
make_confined t =
    next_confined Free (λ x. Free) (λ x. Free) (refuse_if (not (is_tree (last_tree t))) refusal.Trees) (λ trees. next (test_lengths (in_order (catalog_entries t))) (λ lengths. next (put_table t) (λ put. give (done 0))))
    (still_confined Free (refuse_if (not (is_tree (last_tree t))) refusal.Trees) (refuse_if_still (not (is_tree (last_tree t))) refusal.Trees))
    (λ trees. next_confined Free (λ x. Free) (λ x. Free) (test_lengths (in_order (catalog_entries t))) (λ lengths. next (put_table t) (λ put. give (done 0)))
    (still_confined Free (test_lengths (in_order (catalog_entries t))) (unless_still (too_long (in_order (catalog_entries t)))))
    (λ lengths. next_confined Free (λ x. Free) (λ x. Free) (put_table t) (λ put. give (done 0)) (λ db is. (table_kept t db, tt)) (λ put. still_confined Free (give (done 0)) (λ db. refl))))

new_confined : (tables : List Table) (name : List ℕ) (columns : List ColumnDef) (rules : List KeyRule) → IsConfined Free (λ reply. Free) (create_new_table tables name columns rules)
new_confined tables name columns rules =
    let t = new_table name (next_tree tables) columns rules in
    next_confined Free (λ x. Free) (λ x. Free) (test_name tables name) (λ free. next (unless (table_refused name columns rules)) (λ right. make_table t))
    (still_confined Free (test_name tables name) (unless_still (option_map refusal.Exists (in_use tables name))))
    (λ free. next_confined Free (λ x. Free) (λ x. Free) (unless (table_refused name columns rules)) (λ right. make_table t)
    (still_confined Free (unless (table_refused name columns rules)) (unless_still (table_refused name columns rules))) (λ right. make_confined t))

pub create_table_confined : (maybe : Bool) (name : List ℕ) (columns : List ColumnDef) (rules : List KeyRule) → IsConfined Free (λ reply. Free) (create_table maybe name columns rules)
create_table_confined maybe name columns rules =
    next_confined Free (λ x. Free) (λ x. Free) read_catalog (λ tables. create_table_in tables maybe name columns rules) (still_confined Free read_catalog (λ db. refl))
    (λ tables. next_confined Free (λ x. Free) (λ x. Free) (refuse_if (is_reserved name) (refusal.Reserved name)) (λ free. if maybe && is_some (table_named tables name) then give (done 0) else create_new_table tables name columns rules)
    (still_confined Free (refuse_if (is_reserved name) (refusal.Reserved name)) (refuse_if_still (is_reserved name) (refusal.Reserved name)))
    (λ free. by_test tables (maybe && is_some (table_named tables name))))
  where
    by_test : (tables : List Table) (there : Bool) → IsConfined Free (λ reply. Free) (if there then give (done 0) else create_new_table tables name columns rules)
    by_test tables true = still_confined Free (give (done 0)) (λ db. refl)
    by_test tables false = new_confined tables name columns rules
