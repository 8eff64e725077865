-- Statements that run one after another: they keep the ids in order, and one more statement answers on
-- the db that the others left.
use Rattle.std.proofs.Common.{◌≡◌, ◌∙◌, refl, sym, ap, cond, true, false, ℕ, ◌+◌, ◌<◌, List, [], ◌∷◌, ◌++◌, length, take, get_or}
use Rattle.std.specs.Prelude.{fold, is_some}
use Rattle.std.specs.List.Sorted.{IsStrictlySortedBy}
use Rattle.std.proofs.lemmas.List.{take_more}
use Rattle.hc_meaning.specs.Database.{Db, IsDb, empty_db, value_at, with_row}
use Rattle.hc_meaning.specs.Run.{with_first_answer, duplicate, run, run_all}
use Rattle.hc_meaning.specs.History.{after, state}
use Rattle.hc_transcript.specs.declared.reply.Line.TheVariants.{Ok}
use Rattle.hc_meaning.specs.declared.answer.Answer.{Answer}
use Rattle.hc_meaning.specs.declared.answer.Outcome.{Outcome}
use Rattle.hc_meaning.specs.declared.answer.Ran.{Ran}
use Rattle.hc_meaning.specs.declared.statement.Statement.{Statement}
use Rattle.hc_meaning.specs.declared.statement.Statement.TheVariants.{Insert, Select}
use Rattle.hc_meaning.specs.declared.transaction.Transaction.{Transaction}
use Rattle.hc_meaning.proofs.Table.Rows.{IsDb-with_row}

-- one statement keeps the ids in order
pub IsDb-run : (db : Db) (statement : Statement) → IsDb db → IsDb (run db statement).db
IsDb-run db (Insert id v) ascending =
    elim (is_some (value_at db id)) as (λ b. IsDb (cond {A = Outcome} b (record { answer = duplicate; db = db }) (record { answer = record { rows = []; last = Ok 1 }; db = with_row db id v })).db)
    [ true ↦ ascending | false ↦ IsDb-with_row db id v ascending ]
IsDb-run db (Select id) ascending = ascending

-- so do statements one after another
pub IsDb-run_all : (db : Db) (statements : List Statement) → IsDb db → IsDb (run_all db statements).db
IsDb-run_all db [] ascending = ascending
IsDb-run_all db (statement ∷ statements) ascending = IsDb-run_all (run db statement).db statements (IsDb-run db statement ascending)

-- and transactions one after another
IsDb-fold : (transactions : List Transaction) (db : Db) → IsDb db → IsDb (fold after db transactions)
IsDb-fold [] db ascending = ascending
IsDb-fold (transaction ∷ transactions) db ascending = IsDb-fold transactions (after db transaction) (IsDb-run_all db transaction.statements ascending)

-- the empty db's ids are in order
IsDb-empty : IsDb empty_db
unfolding IsStrictlySortedBy
IsDb-empty = tt

-- from the empty db, whose ids are in order, to any state
pub IsDb-state : (history : List Transaction) (k : ℕ) → IsDb (state history k)
IsDb-state history k = IsDb-fold (take k history) empty_db IsDb-empty

-- with one more answer, and the db after it
abbrev pub and_then : Ran → Statement → Ran
and_then ran statement = record { answers = ran.answers ++ (run ran.db statement).answer ∷ []; db = (run ran.db statement).db }

-- the last statement runs on the db that the others left
pub run_all-push : (db : Db) (statements : List Statement) (statement : Statement) → run_all db (statements ++ statement ∷ []) ≡ and_then (run_all db statements) statement
run_all-push db [] statement = refl
run_all-push db (first ∷ statements) statement = ap (with_first_answer (run db first).answer) (run_all-push (run db first).db statements statement)

-- a loop's step: the answers so far, and one more
pub run_all-more : (db left read : Db) (statements : List Statement) (i : ℕ) (d : Statement) (answers pushed : List Answer) (outcome : Outcome) → i < length statements
    → run_all db (take i statements) ≡ record { answers = answers; db = left } → read ≡ left → outcome ≡ run read (get_or statements i d) → pushed ≡ answers ++ outcome.answer ∷ []
    → run_all db (take (i + 1) statements) ≡ record { answers = pushed; db = outcome.db }
run_all-more db left read statements i d answers pushed outcome within so_far read_is outcome_is pushed_is =
    ap (run_all db) (take_more statements i d within)
    ∙ run_all-push db (take i statements) (get_or statements i d)
    ∙ ap (λ ran. and_then ran (get_or statements i d)) so_far
    ∙ ap (λ (o : Outcome). record { answers = answers ++ o.answer ∷ []; db = o.db }) (sym (outcome_is ∙ ap (λ rows. run rows (get_or statements i d)) read_is))
    ∙ ap (λ (all : List Answer). record { answers = all; db = outcome.db }) (sym pushed_is)
