-- The setup script alone: its run is right.
use Rattle.std.proofs.Common.{◌≡◌, ◌∙◌, ap, ℕ, List, [], ◌∷◌, length, Option, Some, refl, arith}
use Rattle.std.proofs.lemmas.List.{append-nil}
use Rattle.std.proofs.lemmas.Option.{slice_get_within}
use Rattle.hc_meaning.specs.declared.statement.Statement.{Statement}
use Rattle.hc_meaning.specs.declared.transaction.Script.{Script}
use Rattle.hc_meaning.specs.declared.transaction.Transaction.{Transaction}
use Rattle.hc_meaning.specs.Database.{empty_db}
use Rattle.hc_meaning.specs.Transactions.{cut_all, joined}
use Rattle.hc_meaning.specs.Played.{played_alone}
use Rattle.hc_meaning.specs.RightOutput.{IsRightRun, IsInOrder}
use Rattle.hc_meaning.proofs.SerialRun.AfterEach.{IsSoFar}
use Rattle.hc_meaning.proofs.SerialRun.OneConnection.{transactions_of, cut-played, all-so_far}

-- the script of connection 0 alone
abbrev pub setup_of : List Statement → List Script
setup_of statements = record { conn = 0; statements = statements } ∷ []

-- the serial run's replies are cut into its transactions
cut_all-played : (statements : List Statement) → cut_all (setup_of statements) (played_alone statements) ≡ Some (transactions_of 1 0 empty_db statements)
cut_all-played [] = refl
cut_all-played (statement ∷ statements) =
    ap (λ (found : Option (List Transaction)). joined found (Some [])) (cut-played 1 0 empty_db (statement ∷ statements))
    ∙ ap Some (append-nil (transactions_of 1 0 empty_db (statement ∷ statements)))

-- of one connection, what holds so far is in order
in_order : (transactions history : List Transaction) (last : ℕ) → IsSoFar transactions history last → IsInOrder transactions history
in_order transactions history last so_far = record {
  rising = λ t u among_t among_u same before. let after = so_far.rising t u among_t among_u before in (after.no_fall, after.above);
  setup = length history;
  setup_within = omega arith;
  setup_first = λ k t is. (λ first. slice_get_within history k t is, λ within. (so_far.named t (so_far.is_history.printed k t is).1).0);
  after_setup = λ t among other. absurd (other (so_far.named t among).0);
}

-- the serial run of the setup script is right
pub right-alone : (statements : List Statement) → IsRightRun (setup_of statements) (played_alone statements)
right-alone statements =
    let all = all-so_far statements in
    record {
      ascending = λ k within. absurd (omega (arith, within));
      transactions = transactions_of 1 0 empty_db statements;
      is_cut = cut_all-played statements;
      history = all.0;
      is_history = all.2.is_history;
      is_legal = all.2.is_legal;
      others = all.2.others;
      in_order = in_order (transactions_of 1 0 empty_db statements) all.0 all.1 all.2;
    }
