-- A fact of databases that a transaction keeps: it holds of the database and of those of the savepoints.
use Rattle.std.proofs.Common.{ℕ, Bool, true, false, cond, List, [], ◌∷◌}
use Rattle.std.specs.Prelude.{⊤}
use Rattle.std.specs.List.{AllByRecursion}
use Rattle.hc_meaning.specs.declared.command.Command.{Command}
use Rattle.hc_meaning.specs.declared.command.Command.TheVariants as command
use Rattle.hc_meaning.specs.Runs.Language.{Language}
use Rattle.hc_meaning.specs.Runs.Running.{Mark, Running, after_command, begun_on, db_of_newest, is_marked, is_named, marks_outside, marks_upto}

module _ (L : Language) (P : L.Db → Type 0) where
  abbrev pub HoldsAt : Mark L → Type 0
  HoldsAt mark = P mark.db

  pub record Holds (now : Running L) : Type 0 where
    pub db : P now.db
    pub marks : AllByRecursion HoldsAt now.marks

  -- a statement that runs keeps the fact
  abbrev pub Keeps : Running L → Command → Type 0
  Keeps now (command.Run statement) = P (L.run now.db statement).db
  Keeps now _ = ⊤

  outside_kept : (name : List ℕ) (marks : List (Mark L)) → AllByRecursion HoldsAt marks → AllByRecursion HoldsAt (marks_outside name marks)
  outside_kept name [] all = tt
  outside_kept name (mark ∷ marks) all = elim (is_named name mark) as (λ b. AllByRecursion HoldsAt (cond b marks (marks_outside name marks)))
      [ true ↦ all.1 | false ↦ outside_kept name marks all.1 ]

  upto_kept : (name : List ℕ) (marks : List (Mark L)) → AllByRecursion HoldsAt marks → AllByRecursion HoldsAt (marks_upto name marks)
  upto_kept name [] all = tt
  upto_kept name (mark ∷ marks) all = elim (is_named name mark) as (λ b. AllByRecursion HoldsAt (cond b (mark ∷ marks) (marks_upto name marks)))
      [ true ↦ all | false ↦ upto_kept name marks all.1 ]

  newest_kept : (db : L.Db) (marks : List (Mark L)) → P db → AllByRecursion HoldsAt marks → P (db_of_newest db marks)
  newest_kept db [] is all = is
  newest_kept db (mark ∷ marks) is all = all.0

  either_kept : (b : Bool) (some others : List (Mark L)) → AllByRecursion HoldsAt some → AllByRecursion HoldsAt others
      → AllByRecursion HoldsAt (cond b some others)
  either_kept true some others one other = one
  either_kept false some others one other = other

  pub command_kept : (first : L.Db) (now : Running L) (c : Command) → P first → Keeps now c → Holds now → Holds (after_command L first now c)
  command_kept first now (command.Run statement) start keeps on = record { db = keeps; marks = on.marks }
  command_kept first now command.Begin start keeps on = record { db = on.db; marks = on.marks }
  command_kept first now command.Commit start keeps on = record { db = on.db; marks = on.marks }
  command_kept first now command.Rollback start keeps on = record { db = start; marks = tt }
  command_kept first now (command.Savepoint name) start keeps on = record { db = on.db; marks = (on.db, on.marks) }
  command_kept first now (command.Release name) start keeps on = record {
    db = on.db;
    marks = either_kept (is_marked name now.marks) (marks_outside name now.marks) now.marks (outside_kept name now.marks on.marks) on.marks;
  }
  command_kept first now (command.RollbackTo name) start keeps on = record {
    db = newest_kept now.db (marks_upto name now.marks) on.db (upto_kept name now.marks on.marks);
    marks = either_kept (is_marked name now.marks) (marks_upto name now.marks) now.marks (upto_kept name now.marks on.marks) on.marks;
  }
  command_kept first now (command.Fault refusal) start keeps on = record { db = on.db; marks = on.marks }

  pub begun_holds : (db : L.Db) → P db → Holds (begun_on L db)
  begun_holds db is = record { db = is; marks = tt }
