-- A transaction leaves a database, and so each state of a history is one.
use Rattle.std.proofs.Common.{◌≡◌, refl, ℕ, suc, zero, Some, List, [], ◌∷◌, take, ap}
use Rattle.std.specs.Prelude.{fold, slice_get}
use Rattle.std.proofs.lemmas.Option.{none-some, same_Some}
use Rattle.hc_meaning.specs.declared.command.Command.{Command}
use Rattle.hc_meaning.specs.declared.command.Command.TheVariants as command
use Rattle.hc_meaning.specs.Runs.Commits.{after, state}
use Rattle.hc_meaning.specs.Runs.Cut.{Transaction}
use Rattle.hc_meaning.specs.Runs.Language.{Language, IsLanguage}
use Rattle.hc_meaning.specs.Runs.Running.{Running, begun_on}
use Rattle.hc_meaning.specs.Runs.Walk.{Item, Answered, CommitRefused, OutOfMemory}
use Rattle.hc_meaning.specs.Runs.Writes.{after_item, left_by}
use Rattle.hc_meaning.proofs.Runs.Holding.{Holds, Keeps, begun_holds, command_kept}

module _ (L : Language) (laws : IsLanguage L) where
  abbrev pub OnDbs : Running L → Type 0
  OnDbs now = Holds L L.IsDb now

  keeps_dbs : (now : Running L) (c : Command) → OnDbs now → Keeps L L.IsDb now c
  keeps_dbs now (command.Run statement) on = laws.kept now.db statement on.db
  keeps_dbs now command.Begin on = tt
  keeps_dbs now command.Commit on = tt
  keeps_dbs now command.Rollback on = tt
  keeps_dbs now (command.Savepoint name) on = tt
  keeps_dbs now (command.Release name) on = tt
  keeps_dbs now (command.RollbackTo name) on = tt
  keeps_dbs now (command.Fault refusal) on = tt

  pub item_on_dbs : (first : L.Db) (now : Running L) (item : Item) → L.IsDb first → OnDbs now → OnDbs (after_item L first now item)
  item_on_dbs first now (Answered c answer) start on = command_kept L L.IsDb first now c start (keeps_dbs now c on) on
  item_on_dbs first now (CommitRefused c) start on = command_kept L L.IsDb first now c start (keeps_dbs now c on) on
  item_on_dbs first now (OutOfMemory c) start on = on

  items_on_dbs : (first : L.Db) (now : Running L) (items : List Item) → L.IsDb first → OnDbs now → OnDbs (fold (after_item L first) now items)
  items_on_dbs first now [] start on = on
  items_on_dbs first now (item ∷ items) start on = items_on_dbs first (after_item L first now item) items start (item_on_dbs first now item start on)

  pub left_is : (db : L.Db) (items : List Item) → L.IsDb db → L.IsDb (left_by L db items)
  left_is db items is = (items_on_dbs db (begun_on L db) items is (begun_holds L L.IsDb db is)).db

  fold_is : (db : L.Db) (history : List Transaction) → L.IsDb db → L.IsDb (fold (after L) db history)
  fold_is db [] is = is
  fold_is db (t ∷ history) is = fold_is (after L db t) history (left_is db t.items is)

  pub state_is : (history : List Transaction) (k : ℕ) → L.IsDb (state L history k)
  state_is history k = fold_is L.start (take k history) laws.start_is

module _ {A B : Type 0} (f : B → A → B) where
  -- one more element of a list, and the fold with it
  pub fold_next : (b : B) (xs : List A) (k : ℕ) (x : A) → slice_get xs k ≡ Some x → fold f b (take (suc k) xs) ≡ f (fold f b (take k xs)) x
  fold_next b [] k x at = absurd (none-some x at)
  fold_next b (y ∷ ys) zero x at = ap (f b) (same_Some y x at)
  fold_next b (y ∷ ys) (suc k) x at = fold_next (f b y) ys k x at

  pub fold_none : (b : B) (xs : List A) → fold f b (take zero xs) ≡ b
  fold_none b [] = refl
  fold_none b (y ∷ ys) = refl
