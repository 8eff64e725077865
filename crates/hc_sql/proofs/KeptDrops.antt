-- DROP TABLE changes no key but those that it reads.
use Rattle.std.proofs.Common.{◌≡◌, ℕ, ◌<◌, ◌^◌, List, [], ◌∷◌, ◌++◌, ◌⊎◌, inl, inr, length, map, flat_map, Option, Some, None, Bool, true, false, not, nat_eq, if◌then◌else◌, refl, sym, ap, subst, ◌∙◌}
use Rattle.std.specs.Bool.{Decides}
use Rattle.std.proofs.lemmas.Bool.Decides.{Decides-eqb}
use Rattle.hc_range.specs.Ranges.{InRange, InAny}
use Rattle.hc_record.specs.Laws.{NoEncodingBeginsAnother}
use Rattle.hc_key.specs.Laws.{KeysDiffer, RangesHoldTheirKeys}
use Rattle.hc_base.specs.Lookup.{Among}
use Rattle.hc_transcript.specs.declared.refusal.Refusal.{Refusal}
use Rattle.hc_transcript.specs.declared.refusal.Refusal.TheVariants as refusal
use Rattle.hc_schema.specs.declared.entry.Entry.{Entry}
use Rattle.hc_schema.specs.declared.table.Table.{Table}
use Rattle.hc_schema.specs.declared.table.Index.{Index}
use Rattle.hc_schema.specs.declared.row.Row.{Row}
use Rattle.hc_schema.specs.Binding.Names.{same_name}
use Rattle.hc_schema.specs.Tables.{IsIndex}
use Rattle.hc_schema.specs.Cells.{tree_range, table_entries, name_entries, row_entries, row_index_entry}
use Rattle.hc_schema.specs.Databases.{Database, Filled, IsDatabase, IsFilled, entries_of, filled_entries}
use Rattle.hc_schema.proofs.Orders.{among_front, among_back, among_either, among_flat, from_map, from_flat, all_among}
use Rattle.hc_schema.proofs.SamePlaces.{one_tree}
use Rattle.hc_sql.specs.Work.{give, refuse, change}
use Rattle.hc_sql.specs.Stored.{without_table}
use Rattle.hc_sql.specs.Looks.{read_catalog}
use Rattle.hc_sql.specs.Results.{done}
use Rattle.hc_sql.specs.Tests.{keys_of}
use Rattle.hc_sql.specs.Catalog.{table_named, catalog_entries, ranges_of, drop_that_table, or_nothing, drop_table}
use Rattle.hc_sql.proofs.Decided.{in_front, in_back}
use Rattle.hc_sql.proofs.DecidedLooks.{OnFound, Has}
use Rattle.hc_sql.proofs.Shared.{IsAt, at_range}
use Rattle.hc_sql.proofs.Finds.{finds_confined}
use Rattle.hc_sql.proofs.Kept.{Kept, After, IsConfined, IsStill, next_confined, still_confined}
use Rattle.hc_sql.proofs.KeptRows.{at_own}

-- a table that a database has is found by its name
pub named_in : (db : Database) (name : List ℕ) → OnFound (Has db) (table_named (map (λ (f : Filled). f.table) db) name)
named_in [] name = tt
named_in (f ∷ db) name = by_test (same_name f.table.name name) (named_in db name)
  where
    more : (found : Option Table) → OnFound (Has db) found → OnFound (Has (f ∷ db)) found
    more None has = tt
    more (Some t) has = record { filled = has.filled; among = inr has.among; is = has.is }

    by_test : (here : Bool) → OnFound (Has db) (table_named (map (λ (g : Filled). g.table) db) name)
        → OnFound (Has (f ∷ db)) (if here then Some f.table else table_named (map (λ (g : Filled). g.table) db) name)
    by_test true rest = record { filled = f; among = inl refl; is = refl }
    by_test false rest = more (table_named (map (λ (g : Filled). g.table) db) name) rest

in_ranges : (key : List ℕ) (index : Index) (indexes : List Index) → Among index indexes → InRange (tree_range index.tree) key → InAny (map (λ (i : Index). tree_range i.tree) indexes) key
in_ranges key index [] among here = absurd among
in_ranges key index (i ∷ indexes) (inl same) here = inl (subst (λ (x : Index). InRange (tree_range x.tree) key) same here)
in_ranges key index (i ∷ indexes) (inr later) here = inr (in_ranges key index indexes later here)

pub without : (tree : ℕ) (db : Database) (e : Entry) → Among e (entries_of (without_table tree db)) → Among e (entries_of db)
without tree [] e among = among
without tree (f ∷ db) e among = by_test (not (nat_eq f.table.tree tree)) (without tree db e) among
  where
    by_test : (stays : Bool) → (Among e (entries_of (without_table tree db)) → Among e (entries_of db))
        → Among e (entries_of (if stays then f ∷ without_table tree db else without_table tree db)) → Among e (entries_of (f ∷ db))
    by_test true rest here = elim (among_either e (filled_entries f) (entries_of (without_table tree db)) here) [
      | inl front ↦ among_front e (filled_entries f) (entries_of db) front
      | inr later ↦ among_back e (filled_entries f) (entries_of db) (rest later)
    ]
    by_test false rest here = among_back e (filled_entries f) (entries_of db) (rest here)

-- an entry of a table with this tree
abbrev pub Owned : ℕ → Entry → Database → Type 0
Owned tree e db = (g : Filled) × Among g db × (g.table.tree ≡ tree) × Among e (filled_entries g)

-- an entry stays, but for one of a table with this tree
pub stays_or : (tree : ℕ) (db : Database) (e : Entry) → Among e (entries_of db) → Owned tree e db ⊎ Among e (entries_of (without_table tree db))
stays_or tree [] e among = absurd among
stays_or tree (f ∷ db) e among = by_test (nat_eq f.table.tree tree) refl (stays_or tree db e) (among_either e (filled_entries f) (entries_of db) among)
  where
    trees : Decides (nat_eq f.table.tree tree) (f.table.tree ≡ tree)
    trees = Decides-eqb f.table.tree tree

    by_test : (here : Bool) → nat_eq f.table.tree tree ≡ here → (Among e (entries_of db) → Owned tree e db ⊎ Among e (entries_of (without_table tree db)))
        → Among e (filled_entries f) ⊎ Among e (entries_of db) → Owned tree e (f ∷ db) ⊎ Among e (entries_of (if not here then f ∷ without_table tree db else without_table tree db))
    by_test true is rest (inl front) = inl (f, inl refl, trees.0 is, front)
    by_test true is rest (inr later) = elim (rest later) [ inl found ↦ inl (found.0, inr found.1, found.2, found.3) | inr old ↦ inr old ]
    by_test false is rest (inl front) = inr (among_front e (filled_entries f) (entries_of (without_table tree db)) front)
    by_test false is rest (inr later) = elim (rest later) [
      | inl found ↦ inl (found.0, inr found.1, found.2, found.3)
      | inr old ↦ inr (among_back e (filled_entries f) (entries_of (without_table tree db)) old)
    ]

module _ (keys : KeysDiffer) (encodings : NoEncodingBeginsAnother) (ranges : RangesHoldTheirKeys) (t : Table) where
  abbrev Gone : List ℕ → Type 0
  Gone = InAny (ranges_of t ++ keys_of (catalog_entries t))

  module _ (db : Database) (is : IsDatabase db) (f : Filled) (in_db : Among f db) (same : f.table ≡ t) where
    is_f : IsFilled f
    is_f = all_among IsFilled f db is.filled in_db

    -- an entry of one of its trees
    of_tree : (e : Entry) → Among e (filled_entries f) → (tree : ℕ) → e.tree ≡ tree → tree < 2 ^ 32 → ((key : List ℕ) → InRange (tree_range tree) key → Gone key) → IsAt Gone e
    of_tree e among tree is_tree small covers = at_range keys encodings ranges Gone db is e (among_flat filled_entries e f db in_db among) tree [] e.key small tt is_tree refl covers

    row_gone : (row : Row) (e : Entry) → Among e (filled_entries f) → Among e (row_entries f.table row.rowid row.values) → IsAt Gone e
    row_gone row e among (inl own) =
        of_tree e among f.table.tree (ap (λ (d : Entry). d.tree) own) is_f.table.form.tree.1
        (λ key here. in_front key (ranges_of t) (keys_of (catalog_entries t)) (inl (subst (λ (x : Table). InRange (tree_range x.tree) key) same here)))
    row_gone row e among (inr indexed) =
        let from = from_map (row_index_entry row.rowid row.values) e f.table.indexes indexed in
        let small = (all_among (IsIndex (length f.table.columns)) from.x f.table.indexes is_f.table.form.indexes from.among).1 in
        of_tree e among from.x.tree (ap (λ (d : Entry). d.tree) from.is) small
        (λ key here. in_front key (ranges_of t) (keys_of (catalog_entries t)) (inr (in_ranges key from.x t.indexes (subst (λ (x : Table). Among from.x x.indexes) same from.among) here)))

    catalog_gone : (e : Entry) → Among e (catalog_entries f.table) → IsAt Gone e
    catalog_gone e among =
        in_back _ (ranges_of t) (keys_of (catalog_entries t)) (at_own (catalog_entries t) e (subst (λ (x : Table). Among e (catalog_entries x)) same among))

    gone : (e : Entry) → Among e (filled_entries f) → IsAt Gone e
    gone e among =
        let rows = flat_map (λ (row : Row). row_entries f.table row.rowid row.values) f.rows in
        elim (among_either e (table_entries f.table) (name_entries f.table ++ rows) among) [
          | inl front ↦ catalog_gone e (among_front e (table_entries f.table) (name_entries f.table) front)
          | inr rest ↦ elim (among_either e (name_entries f.table) rows rest) [
            | inl name ↦ catalog_gone e (among_back e (table_entries f.table) (name_entries f.table) name)
            | inr row ↦ let within = from_flat (λ (r : Row). row_entries f.table r.rowid r.values) e f.rows row in row_gone within.x e among within.here
          ]
        ]

  table_dropped : (db : Database) → IsDatabase db → Has db t → Kept Gone db (without_table t.tree db)
  table_dropped db is has = record {
    over = λ e off among. elim (stays_or t.tree db e among) [
      | inl found ↦
          let one : found.0 ≡ has.filled = one_tree db found.0 has.filled is found.1 has.among (found.2 ∙ sym (ap (λ (x : Table). x.tree) has.is)) in
          absurd (off (gone db is found.0 found.1 (ap (λ (f : Filled). f.table) one ∙ has.is) e found.3))
      | inr old ↦ old
    ];
    back = λ e off among. without t.tree db e among;
  }

  drop_confined : IsConfined (λ db. IsDatabase db × Has db t) (λ reply db. Unit {0}) (drop_that_table t)
  drop_confined =
      next_confined (λ db. IsDatabase db × Has db t) (λ dropped db. Unit {0}) (λ reply db. Unit {0}) (change (ranges_of t ++ keys_of (catalog_entries t)) (without_table t.tree)) (λ dropped. give (done 0))
      (λ db is. (table_dropped db is.0 is.1, tt)) (λ dropped. still_confined (λ db. Unit {0}) (give (done 0)) (λ db. refl))

-- where none is found, nothing is changed
pub none_still : (maybe : Bool) (missing : Refusal) → IsStill (if maybe then give (done 0) else refuse missing)
none_still true missing db = refl
none_still false missing db = refl

module _ (keys : KeysDiffer) (encodings : NoEncodingBeginsAnother) (ranges : RangesHoldTheirKeys) where
  pub drop_table_confined : (maybe : Bool) (name : List ℕ) → IsConfined IsDatabase (λ reply db. Unit {0}) (drop_table maybe name)
  drop_table_confined maybe name =
      next_confined IsDatabase (λ tables db. IsDatabase db × OnFound (Has db) (table_named tables name)) (λ reply db. Unit {0}) read_catalog
      (λ tables. or_nothing maybe (refusal.NoTable name) drop_that_table (table_named tables name))
      (finds_confined IsDatabase (λ db tables. OnFound (Has db) (table_named tables name)) read_catalog (λ db is. (refl, named_in db name)))
      (λ tables db is. by_found (table_named tables name) db is.0 is.1)
    where
      by_found : (found : Option Table) (db : Database) → IsDatabase db → OnFound (Has db) found
          → Kept (InAny (or_nothing maybe (refusal.NoTable name) drop_that_table found db).reads) db (or_nothing maybe (refusal.NoTable name) drop_that_table found db).db
          × After (λ reply d. Unit {0}) (or_nothing maybe (refusal.NoTable name) drop_that_table found db)
      by_found None db is has = still_confined (λ d. Unit {0}) (if maybe then give (done 0) else refuse (refusal.NoTable name)) (none_still maybe (refusal.NoTable name)) db tt
      by_found (Some t) db is has = drop_confined keys encodings ranges t db (is, has)
