-- The setup script alone: a right run of it is its serial run.
use Rattle.std.proofs.Common.{◌≡◌, ◌∙◌, refl, sym, ap, ℕ, ◌<◌, Bool, true, false, List, [], ◌∷◌, Option, Some, None, arith, inr}
use Rattle.std.specs.Prelude.{Contains, if◌then◌else◌, ◌==◌}
use Rattle.std.proofs.lemmas.List.{append-nil}
use Rattle.hc_transcript.specs.declared.reply.Ending.{Ending}
use Rattle.hc_transcript.specs.declared.reply.Ending.TheVariants.{Commit, Snapshot, RolledBack}
use Rattle.hc_transcript.specs.declared.reply.Reply.{Reply}
use Rattle.hc_transcript.specs.declared.reply.Transcript.{Transcript}
use Rattle.hc_meaning.specs.declared.statement.Statement.{Statement}
use Rattle.hc_meaning.specs.declared.transaction.Transaction.{Transaction}
use Rattle.hc_meaning.specs.Database.{empty_db}
use Rattle.hc_transcript.specs.Text.{ending_number}
use Rattle.hc_meaning.specs.Transactions.{cut, joined}
use Rattle.hc_meaning.specs.History.{IsHistory}
use Rattle.hc_meaning.specs.Played.{played, played_alone}
use Rattle.hc_meaning.specs.RightOutput.{IsCommitted, IsRightRun}
use Rattle.hc_meaning.proofs.SerialRun.Alone.{setup_of}
use Rattle.hc_meaning.proofs.OneRun.Walk.{IsAt}
use Rattle.hc_meaning.proofs.OneRun.Unique.{played-is}

-- a commit number is above 0
above_none : (transactions history : List Transaction) → IsHistory transactions history → (t : Transaction) → Contains transactions t → IsCommitted t.ending → 0 < ending_number t.ending
above_none transactions history is_history t among committed = by_ending t.ending refl committed
  where
    by_ending : (ending : Ending) → t.ending ≡ ending → IsCommitted ending → 0 < ending_number ending
    by_ending (Commit k) is committed = (is_history.placed k t among is).0
    by_ending (Snapshot s) is committed = absurd committed
    by_ending (RolledBack s) is committed = absurd committed

-- before the first transaction
at_start : (transactions history : List Transaction) (is_history : IsHistory transactions history) → IsAt transactions history is_history 0 transactions
at_start transactions history is_history = record {
  within = omega arith;
  among = λ t there. there;
  passed = λ t there. inr there;
  no_fall = λ t there. omega arith;
  above = above_none transactions history is_history;
}

-- the one transcript's connection is the script's, and its replies are cut
joined_cases : (same : Bool) (found : Option (List Transaction)) (transactions : List Transaction) → joined (if same then found else None) (Some []) ≡ Some transactions
    → (same ≡ true) × (found ≡ Some transactions)
joined_cases false found transactions is = cc
joined_cases true None transactions is = cc
joined_cases true (Some some) transactions is = (refl, ap Some (sym (append-nil some)) ∙ is)

-- two transcripts are too many
joined_none : (found : Option (List Transaction)) (transactions : List Transaction) → joined found None ≡ Some transactions → ⊥
joined_none None transactions is = cc
joined_none (Some some) transactions is = cc

-- there is no transcript where there is no statement, and else one with the replies of the serial run
pub only-right : (statements : List Statement) (transcripts : List Transcript) → IsRightRun (setup_of statements) transcripts → transcripts ≡ played_alone statements
only-right [] [] right = refl
only-right [] (transcript ∷ transcripts) right = let none : ◌≡◌ {A = Option (List Transaction)} None (Some right.transactions) = right.is_cut in cc
only-right (statement ∷ statements) [] right = let none : ◌≡◌ {A = Option (List Transaction)} None (Some right.transactions) = right.is_cut in cc
only-right (statement ∷ statements) (transcript ∷ []) right =
    let both = joined_cases (0 == transcript.conn) (cut 0 1 (statement ∷ statements) transcript.replies) right.transactions right.is_cut in
    let conn : transcript.conn ≡ 0 = grind (arith, both.0) in
    let replies : transcript.replies ≡ played 0 empty_db (statement ∷ statements) =
    played-is right.transactions right.history right.is_history right.is_legal right.others right.in_order.rising (statement ∷ statements) transcript.replies 0 1 right.transactions both.1
    (at_start right.transactions right.history right.is_history) in
    ap (λ (c : ℕ). record { conn = c; replies = transcript.replies } ∷ []) conn ∙ ap (λ (r : List Reply). record { conn = 0; replies = r } ∷ []) replies
only-right (statement ∷ statements) (transcript ∷ other ∷ transcripts) right = absurd (joined_none _ right.transactions right.is_cut)
