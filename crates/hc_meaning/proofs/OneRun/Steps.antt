-- What the ending of a right reply says of its statement: it is the one that the serial run prints.
use Rattle.std.proofs.Common.{◌≡◌, ◌∙◌, refl, sym, ap, subst, ℕ, ◌+◌, ℤ, true, [], ◌∷◌, Option, None, Some}
use Rattle.hc_transcript.specs.declared.reply.Line.{Line}
use Rattle.hc_transcript.specs.declared.reply.Line.TheVariants.{Ok, Error}
use Rattle.hc_transcript.specs.declared.reply.Ending.{Ending}
use Rattle.hc_transcript.specs.declared.reply.Ending.TheVariants.{Commit, Snapshot, RolledBack}
use Rattle.hc_meaning.specs.declared.answer.Outcome.{Outcome}
use Rattle.hc_meaning.specs.declared.statement.Statement.{Statement}
use Rattle.hc_meaning.specs.declared.statement.Statement.TheVariants.{Insert, Select}
use Rattle.hc_meaning.specs.Database.{Db, value_at, with_row}
use Rattle.hc_meaning.specs.Run.{run, duplicate, WritesSome, WritesNone}
use Rattle.hc_meaning.specs.Transactions.{may_end}
use Rattle.hc_meaning.specs.Played.{ending_after}
use Rattle.hc_meaning.proofs.SerialRun.OneConnection.{value_at-inserted}

-- an INSERT that was carried out commits
insert-commits : (commits k : ℕ) (id v : ℤ) (last : Line) → may_end last (Commit k) ≡ true → ending_after commits (Insert id v) last ≡ Commit (commits + 1)
insert-commits commits k id v (Ok count) may = refl
insert-commits commits k id v (Error refusal) may = cc

-- what changes something commits
pub commits-is : (commits k : ℕ) (db : Db) (statement : Statement) → WritesSome db (statement ∷ []) → may_end (run db statement).answer.last (Commit k) ≡ true
    → ending_after commits statement (run db statement).answer.last ≡ Commit (commits + 1)
commits-is commits k db (Insert id v) writes may = insert-commits commits k id v (run db (Insert id v)).answer.last may
commits-is commits k db (Select id) writes may = absurd (writes.1 refl)

-- what an INSERT gives where its id is taken, and where it is free
abbrev refused : Db → Outcome
refused db = record { answer = duplicate; db = db }

abbrev inserted : Db → ℤ → ℤ → Outcome
inserted db id v = record { answer = record { rows = []; last = Ok 1 }; db = with_row db id v }

-- the statement ends so after these commits, and leaves the db
abbrev pub EndsWith : ℕ → Db → Statement → Ending → Outcome → Type 0
EndsWith commits db statement ending outcome = (ending_after commits statement outcome.answer.last ≡ ending) × (outcome.db ≡ db)

-- what changes nothing prints a snapshot
pub snapshot-is : (commits s : ℕ) (db : Db) (statement : Statement) → WritesNone db (statement ∷ []) → may_end (run db statement).answer.last (Snapshot s) ≡ true
    → EndsWith commits db statement (Snapshot commits) (run db statement)
snapshot-is commits s db (Select id) none may = (refl, refl)
snapshot-is commits s db (Insert id v) none may = by_place (value_at db id) refl
  where
    by_place : (found : Option ℤ) → value_at db id ≡ found → EndsWith commits db (Insert id v) (Snapshot commits) (run db (Insert id v))
    by_place None free =
        let is : run db (Insert id v) ≡ inserted db id v = rw free refl in
        let there : value_at (run db (Insert id v)).db id ≡ Some v = ap (λ (o : Outcome). value_at o.db id) is ∙ value_at-inserted db id v in
        absurd (let two : Some v ≡ None = sym there ∙ none id ∙ free in cc)
    by_place (Some old) there =
        let is : run db (Insert id v) ≡ refused db = rw there refl in
        absurd (let two : may_end (refused db).answer.last (Snapshot s) ≡ true = subst (λ (o : Outcome). may_end o.answer.last (Snapshot s) ≡ true) is may in cc)

-- what was refused is rolled back
pub rolled_back-is : (commits s : ℕ) (db : Db) (statement : Statement) → may_end (run db statement).answer.last (RolledBack s) ≡ true
    → EndsWith commits db statement (RolledBack commits) (run db statement)
rolled_back-is commits s db (Select id) may = cc
rolled_back-is commits s db (Insert id v) may = by_place (value_at db id) refl
  where
    by_place : (found : Option ℤ) → value_at db id ≡ found → EndsWith commits db (Insert id v) (RolledBack commits) (run db (Insert id v))
    by_place None free =
        let is : run db (Insert id v) ≡ inserted db id v = rw free refl in
        absurd (let two : may_end (inserted db id v).answer.last (RolledBack s) ≡ true = subst (λ (o : Outcome). may_end o.answer.last (RolledBack s) ≡ true) is may in cc)
    by_place (Some old) there =
        let is : run db (Insert id v) ≡ refused db = rw there refl in
        subst (λ (o : Outcome). EndsWith commits db (Insert id v) (RolledBack commits) o) (sym is) (refl, refl)
