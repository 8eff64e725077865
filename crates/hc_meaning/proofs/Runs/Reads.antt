-- A transaction reads what it changes.
use Rattle.std.proofs.Common.{◌≡◌, ◌≢◌, ◌∙◌, inr, ⊎_elim, refl, sym, ℕ, true, false, List, [], ◌∷◌}
use Rattle.std.specs.Prelude.{fold}
use Rattle.hc_core.specs.Account.{HoldsKey}
use Rattle.hc_core.proofs.Known.{Known, known_both, known_either, known_false, known_true}
use Rattle.hc_range.proofs.Normal.{InAny-cases, InAny-left, InAny-right}
use Rattle.hc_range.specs.Order.{is_below}
use Rattle.hc_range.specs.Ranges.{InAny, InRange, is_under}
use Rattle.hc_range.specs.declared.range.Range.{Range}
use Rattle.hc_meaning.specs.declared.command.Command.{Command}
use Rattle.hc_meaning.specs.declared.command.Command.TheVariants as command
use Rattle.hc_meaning.specs.Runs.Language.{Language, IsLanguage, record_at}
use Rattle.hc_meaning.specs.Runs.Running.{Running, begun_on, reads_of}
use Rattle.hc_meaning.specs.Runs.Walk.{Item, Answered, CommitRefused, OutOfMemory}
use Rattle.hc_meaning.specs.Runs.Writes.{after_item, footprint, footprint_from, item_footprint, item_reads, left_by, reads, reads_from, writes}
use Rattle.hc_meaning.proofs.Runs.Cells.{stable}
use Rattle.hc_meaning.proofs.Runs.Changes.{change_from}
use Rattle.hc_meaning.proofs.Runs.Databases.{OnDbs, item_on_dbs, left_is}
use Rattle.hc_meaning.proofs.Runs.Holding.{Holds, Keeps, begun_holds, command_kept}

-- whether a key lies in ranges
pub known_in : (ranges : List Range) (key : List ℕ) → Known (InAny ranges key)
known_in [] key = inr (λ none. none)
known_in (range ∷ ranges) key = known_either (InRange range key) (InAny ranges key)
    (known_both (is_below key range.lo ≡ false) (is_under key range.hi ≡ true) (known_false (is_below key range.lo)) (known_true (is_under key range.hi)))
    (known_in ranges key)

module _ (L : Language) (laws : IsLanguage L) where
  module _ (first : L.Db) (start : L.IsDb first) (key : List ℕ) where
    -- a database has the same at the key as the one at the start
    abbrev HasSame : L.Db → Type 0
    HasSame db = record_at (L.cells db) key ≡ record_at (L.cells first) key

    keeps_same : (now : Running L) (c : Command) → OnDbs L laws now → (InAny (reads_of L now c) key → ⊥) → Holds L HasSame now → Keeps L HasSame now c
    keeps_same now (command.Run statement) on unread same =
        stable (record_at (L.cells (L.run now.db statement).db) key) (record_at (L.cells now.db) key)
        (λ other. unread (laws.changes_read now.db statement key on.db other))
        ∙ same.db
    keeps_same now command.Begin on unread same = tt
    keeps_same now command.Commit on unread same = tt
    keeps_same now command.Rollback on unread same = tt
    keeps_same now (command.Savepoint name) on unread same = tt
    keeps_same now (command.Release name) on unread same = tt
    keeps_same now (command.RollbackTo name) on unread same = tt
    keeps_same now (command.Fault refusal) on unread same = tt

    item_same : (now : Running L) (item : Item) → OnDbs L laws now → (InAny (item_reads L now item) key → ⊥) → Holds L HasSame now
        → Holds L HasSame (after_item L first now item)
    item_same now (Answered c answer) on unread same = command_kept L HasSame first now c refl (keeps_same now c on unread same) same
    item_same now (CommitRefused c) on unread same = command_kept L HasSame first now c refl (keeps_same now c on unread same) same
    item_same now (OutOfMemory c) on unread same = same

    items_same : (now : Running L) (items : List Item) → OnDbs L laws now → (InAny (reads_from L first now items) key → ⊥) → Holds L HasSame now
        → Holds L HasSame (fold (after_item L first) now items)
    items_same now [] on unread same = same
    items_same now (item ∷ items) on unread same =
        items_same (after_item L first now item) items (item_on_dbs L laws first now item start on)
        (λ later. unread (InAny-right (item_reads L now item) (reads_from L first (after_item L first now item) items) key later))
        (item_same now item on
        (λ here. unread (InAny-left (item_reads L now item) (reads_from L first (after_item L first now item) items) key here)) same)

  -- a key that has another record in the end was read
  pub changed_read : (db : L.Db) (items : List Item) (key : List ℕ) → L.IsDb db
      → record_at (L.cells (left_by L db items)) key ≢ record_at (L.cells db) key → InAny (reads L db items) key
  changed_read db items key is other = ⊎_elim
      (λ there. there)
      (λ unread. absurd (other (items_same db is key (begun_on L db) items (begun_holds L L.IsDb db is) unread
      (begun_holds L (λ (d : L.Db). record_at (L.cells d) key ≡ record_at (L.cells db) key) db refl)).db))
      (known_in (reads L db items) key)

  item_within : (now : Running L) (item : Item) (key : List ℕ) → InAny (item_reads L now item) key → InAny (item_footprint L now item) key
  item_within now (Answered c answer) key there = there
  item_within now (CommitRefused c) key there = there
  item_within now (OutOfMemory c) key there = absurd there

  -- what is read lies in the footprint
  read_within : (first : L.Db) (now : Running L) (items : List Item) (key : List ℕ) → InAny (reads_from L first now items) key
      → InAny (footprint_from L first now items) key
  read_within first now [] key there = there
  read_within first now (item ∷ items) key there = ⊎_elim
      (λ here. InAny-left (item_footprint L now item) (footprint_from L first (after_item L first now item) items) key (item_within now item key here))
      (λ later. InAny-right (item_footprint L now item) (footprint_from L first (after_item L first now item) items) key
      (read_within first (after_item L first now item) items key later))
      (InAny-cases (item_reads L now item) (reads_from L first (after_item L first now item) items) key there)

  -- what is written was read
  pub written_read : (db : L.Db) (items : List Item) (key : List ℕ) → L.IsDb db → HoldsKey (writes L db items) key → InAny (reads L db items) key
  written_read db items key is held =
      let change = change_from (L.cells db) (L.cells (left_by L db items)) (laws.ascending db is) (laws.ascending (left_by L db items) (left_is L laws db items is))
      (record { key = key; rec = held.0 }) held.1 in
      changed_read db items key is (λ same. change.1 (sym same ∙ change.0))

  -- and lies in the footprint
  pub written_within : (db : L.Db) (items : List Item) (key : List ℕ) → L.IsDb db → HoldsKey (writes L db items) key → InAny (footprint L db items) key
  written_within db items key is held = read_within db (begun_on L db) items key (written_read db items key is held)
