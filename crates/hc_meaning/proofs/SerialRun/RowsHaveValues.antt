-- Each row of a serial run's replies has a value.
use Rattle.std.proofs.Common.{◌≡◌, ℕ, Bool, true, false, List, [], ◌∷◌, map, refl}
use Rattle.std.specs.Prelude.{if◌then◌else◌, is_some}
use Rattle.std.specs.List.{AllByRecursion}
use Rattle.hc_value.specs.declared.value.Value.TheVariants.{Int}
use Rattle.hc_transcript.specs.declared.reply.Line.TheVariants.{Ok}
use Rattle.hc_transcript.specs.Outputs.{HasValues, RowsHaveValues}
use Rattle.hc_meaning.specs.declared.answer.Outcome.{Outcome}
use Rattle.hc_meaning.specs.declared.statement.Statement.{Statement}
use Rattle.hc_meaning.specs.declared.statement.Statement.TheVariants.{Insert, Select}
use Rattle.hc_meaning.specs.Database.{Db, value_at, rows_at, with_row}
use Rattle.hc_meaning.specs.Run.{run, duplicate}
use Rattle.hc_meaning.specs.Played.{commits_after, played}

-- the column v of rows
selected_have : (rows : Db) → AllByRecursion HasValues (map (λ row. record { values = Int row.1 ∷ [] }) rows)
selected_have [] = tt
selected_have (row ∷ rows) = ((λ e. cc), selected_have rows)

-- an INSERT has no rows, whether its id is taken or not
insert_has : (taken : Bool) (one other : Outcome) → one.answer.rows ≡ [] → other.answer.rows ≡ [] → AllByRecursion HasValues (if◌then◌else◌ {A = Outcome} taken one other).answer.rows
insert_has true one other none_in_one none_in_other = rw none_in_one tt
insert_has false one other none_in_one none_in_other = rw none_in_other tt

-- a SELECT's rows have one value each
answer_has : (db : Db) (statement : Statement) → AllByRecursion HasValues (run db statement).answer.rows
answer_has db (Insert id v) =
    insert_has (is_some (value_at db id)) (record { answer = duplicate; db = db }) (record { answer = record { rows = []; last = Ok 1 }; db = with_row db id v }) refl refl
answer_has db (Select id) = selected_have (rows_at db id)

-- and so it is of all replies
pub played_have_values : (commits : ℕ) (db : Db) (statements : List Statement) → AllByRecursion RowsHaveValues (played commits db statements)
played_have_values commits db [] = tt
played_have_values commits db (statement ∷ statements) = (answer_has db statement, played_have_values (commits_after commits db statement) (run db statement).db statements)
