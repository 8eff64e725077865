-- The run of one connection is right: its transactions, one after another.
use Rattle.std.proofs.Common.{◌≡◌, ◌∙◌, ap, sym, subst, ℕ, ◌+◌, ℤ, true, List, [], ◌∷◌, ◌++◌, length, Option, Some, None, refl, arith, append_assoc, length-append}
use Rattle.std.proofs.lemmas.List.{append-nil}
use Rattle.hc_transcript.specs.declared.reply.Line.{Line}
use Rattle.hc_transcript.specs.declared.reply.Line.TheVariants.{Ok, Error}
use Rattle.hc_meaning.specs.declared.answer.Outcome.{Outcome}
use Rattle.hc_meaning.specs.declared.statement.Statement.{Statement}
use Rattle.hc_meaning.specs.declared.statement.Statement.TheVariants.{Insert, Select}
use Rattle.hc_meaning.specs.declared.transaction.Transaction.{Transaction}
use Rattle.hc_meaning.specs.Database.{Db, empty_db, value_at, with_row}
use Rattle.hc_meaning.specs.Run.{run, duplicate}
use Rattle.hc_meaning.specs.Transactions.{cut, may_end}
use Rattle.hc_meaning.specs.History.{state, after}
use Rattle.hc_meaning.specs.Played.{ending_after, commits_at, commits_after, played}
use Rattle.std.specs.Ordering.{int_eq}
use Rattle.std.proofs.lemmas.Bool.Decides.{Decides-int_eq}
use Rattle.hc_meaning.proofs.Table.Rows.{value_at-with_row}
use Rattle.hc_meaning.proofs.SerialRun.Grown.{state-last}
use Rattle.hc_meaning.proofs.SerialRun.AfterEach.{IsSoFar, committed-next, read-next}

-- the transaction that a statement is, by what it answers
abbrev transaction_with : ℕ → ℕ → Statement → Outcome → Transaction
transaction_with ordinal commits statement outcome = record {
  conn = 0;
  ordinal = ordinal;
  statements = statement ∷ [];
  answers = outcome.answer ∷ [];
  ending = ending_after commits statement outcome.answer.last;
}

-- the transactions of a serial run, each of one statement
abbrev pub transactions_of : ℕ → ℕ → Db → List Statement → List Transaction
transactions_of ordinal commits db [] = []
transactions_of ordinal commits db (statement ∷ statements) =
    transaction_with ordinal commits statement (run db statement) ∷ transactions_of (ordinal + 1) (commits_after commits db statement) (run db statement).db statements

-- each ending is one that its line may have
may_end-after : (commits : ℕ) (statement : Statement) (last : Line) → may_end last (ending_after commits statement last) ≡ true
may_end-after commits (Insert id v) (Ok count) = refl
may_end-after commits (Insert id v) (Error refusal) = refl
may_end-after commits (Select id) (Ok count) = refl
may_end-after commits (Select id) (Error refusal) = refl

-- the walk cuts the replies into these transactions
pub cut-played : (ordinal commits : ℕ) (db : Db) (statements : List Statement) → cut 0 ordinal statements (played commits db statements) ≡ Some (transactions_of ordinal commits db statements)
cut-played ordinal commits db [] = refl
cut-played ordinal commits db (statement ∷ statements) =
    rw (may_end-after commits statement (run db statement).answer.last, cut-played (ordinal + 1) (commits_after commits db statement) (run db statement).db statements)

-- what an INSERT puts at its id
pub value_at-inserted : (db : Db) (id v : ℤ) → value_at (with_row db id v) id ≡ Some v
value_at-inserted db id v = let same : int_eq id id ≡ true = (Decides-int_eq id id).1 refl in value_at-with_row db id v id ∙ rw same

-- After a statement with this outcome the history may have grown; what held so far holds on.
record GoesOn (transactions history : List Transaction) (next : ℕ) (statement : Statement) (outcome : Outcome) : Type 0 where
  pub later : List Transaction
  pub so_far : IsSoFar (transactions ++ transaction_with next (length history) statement outcome ∷ []) later (next + 1)
  pub commits : commits_at (length history) (ending_after (length history) statement outcome.answer.last) ≡ length later
  pub db : outcome.db ≡ state later (length later)

module _ (transactions history : List Transaction) (next : ℕ) (so_far : IsSoFar transactions history next) where
  -- the db after all commits so far
  abbrev now : Db
  now = state history (length history)

  -- what held so far holds on after a query
  select-goes_on : (id : ℤ) → GoesOn transactions history next (Select id) (run now (Select id))
  select-goes_on id = record {
    later = history;
    so_far = read-next transactions history next so_far (transaction_with next (length history) (Select id) (run now (Select id))) refl refl refl (λ is. is) (record {
      within = omega arith;
      replies = refl;
      snapshot = λ is other. refl;
    });
    commits = refl;
    db = refl;
  }

  -- what an INSERT gives where its id is taken, and where it is free
  abbrev refused : Outcome
  refused = record { answer = duplicate; db = now }

  abbrev inserted : ℤ → ℤ → Outcome
  inserted id v = record { answer = record { rows = []; last = Ok 1 }; db = with_row now id v }

  -- what held so far holds on after an INSERT, be it refused or carried out
  refused-goes_on : (id v : ℤ) → run now (Insert id v) ≡ refused → GoesOn transactions history next (Insert id v) refused
  refused-goes_on id v is = record {
    later = history;
    so_far = read-next transactions history next so_far (transaction_with next (length history) (Insert id v) refused) refl refl refl (λ no. no) (record {
      within = omega arith;
      replies = ap (λ (o : Outcome). o.answer ∷ []) is;
      snapshot = λ e. cc;
    });
    commits = refl;
    db = refl;
  }

  inserted-goes_on : (id v : ℤ) → value_at now id ≡ None → run now (Insert id v) ≡ inserted id v → GoesOn transactions history next (Insert id v) (inserted id v)
  inserted-goes_on id v free is =
      let new : Transaction = transaction_with next (length history) (Insert id v) (inserted id v) in
      let to : after now new ≡ with_row now id v = ap (λ (o : Outcome). o.db) is in
      record {
        later = history ++ new ∷ [];
        so_far = committed-next transactions history next so_far new refl refl refl (record {
          replies = ap (λ (o : Outcome). o.answer ∷ []) is;
          writes = (id, λ e. let there : value_at (after now new) id ≡ Some v = ap (λ (db : Db). value_at db id) to ∙ value_at-inserted now id v in cc);
        });
        commits = sym (length-append history (new ∷ []));
        db = sym (ap (λ n. state (history ++ new ∷ []) n) (length-append history (new ∷ [])) ∙ state-last history new ∙ to);
      }

  insert-goes_on : (id v : ℤ) → GoesOn transactions history next (Insert id v) (run now (Insert id v))
  insert-goes_on id v = by_place (value_at now id) refl
    where
      by_place : (found : Option ℤ) → value_at now id ≡ found → GoesOn transactions history next (Insert id v) (run now (Insert id v))
      by_place None free =
          let is : run now (Insert id v) ≡ inserted id v = rw free in
          subst (λ (o : Outcome). GoesOn transactions history next (Insert id v) o) (sym is) (inserted-goes_on id v free is)
      by_place (Some old) there =
          let is : run now (Insert id v) ≡ refused = rw there in
          subst (λ (o : Outcome). GoesOn transactions history next (Insert id v) o) (sym is) (refused-goes_on id v is)

  -- and so after any statement
  goes_on : (statement : Statement) → GoesOn transactions history next statement (run now statement)
  goes_on (Insert id v) = insert-goes_on id v
  goes_on (Select id) = select-goes_on id

-- all statements, one after another
run-goes_on : (statements : List Statement) (transactions history : List Transaction) (next : ℕ) → IsSoFar transactions history next
    → (later : List Transaction) × (last : ℕ) × IsSoFar (transactions ++ transactions_of next (length history) (state history (length history)) statements) later last
run-goes_on [] transactions history next so_far = (history, next, rw append-nil so_far)
run-goes_on (statement ∷ statements) transactions history next so_far =
    let one = goes_on transactions history next so_far statement in
    let new : Transaction = transaction_with next (length history) statement (run (state history (length history)) statement) in
    let rest = run-goes_on statements (transactions ++ new ∷ []) one.later (next + 1) one.so_far in
    let same : (transactions ++ new ∷ []) ++ transactions_of (next + 1) (length one.later) (state one.later (length one.later)) statements
    ≡ transactions ++ transactions_of next (length history) (state history (length history)) (statement ∷ statements) =
    append_assoc transactions (new ∷ []) (transactions_of (next + 1) (length one.later) (state one.later (length one.later)) statements)
    ∙ ap (λ n. transactions ++ new ∷ transactions_of (next + 1) n (state one.later (length one.later)) statements) (sym one.commits)
    ∙ ap (λ (db : Db). transactions ++ new ∷ transactions_of (next + 1) (commits_after (length history) (state history (length history)) statement) db statements) (sym one.db) in
    (rest.0, rest.1, subst (λ (all : List Transaction). IsSoFar all rest.0 rest.1) same rest.2)

-- it holds of no transactions
none-so_far : IsSoFar [] [] 1
none-so_far = record {
  is_history = record { printed = λ k t is. cc; placed = λ k t among is. absurd (omega (arith, among.1)) };
  is_legal = λ k t is. cc;
  others = λ t among. absurd (omega (arith, among.1));
  rising = λ t u among other before. absurd (omega (arith, among.1));
  counted = λ t among. absurd (omega (arith, among.1));
  named = λ t among. absurd (omega (arith, among.1));
}

-- it holds of a whole serial run
pub all-so_far : (statements : List Statement) → (history : List Transaction) × (last : ℕ) × IsSoFar (transactions_of 1 0 empty_db statements) history last
all-so_far statements = run-goes_on statements [] [] 1 none-so_far
