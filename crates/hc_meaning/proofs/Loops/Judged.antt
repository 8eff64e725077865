-- What a right run's parts are, where the transactions and the history are found.
use Rattle.std.proofs.Common.{◌≡◌, ◌∙◌, ◌↔◌, sym, subst, Bool, List, map, Option, Some, Result, Ok, Err, IfOk, IsTrue}
use Rattle.std.specs.List.Sorted.{IsStrictlyIncreasing}
use Rattle.hc_transcript.specs.declared.reply.Transcript.{Transcript}
use Rattle.hc_meaning.specs.declared.transaction.Script.{Script}
use Rattle.hc_meaning.specs.declared.transaction.Transaction.{Transaction}
use Rattle.hc_meaning.specs.Transactions.{cut_all}
use Rattle.hc_meaning.specs.History.{IsHistory, IsLegal}
use Rattle.hc_meaning.specs.RightOutput.{IsInOrder, IsRightRun, OthersAreRead}
use Rattle.hc_meaning.proofs.Loops.OneHistory.{history-once}

module _ (scripts : List Script) (transcripts : List Transcript) (found : List Transaction) (is_cut : Some found ≡ cut_all scripts transcripts) (right : IsRightRun scripts transcripts) where
  -- a right run's transactions and history are those that were found
  same_transactions : right.transactions ≡ found
  same_transactions =
      let both : ◌≡◌ {A = Option (List Transaction)} (Some found) (Some right.transactions) = is_cut ∙ right.is_cut in cc

  found_history : IsHistory found right.history
  found_history = subst (λ (ts : List Transaction). IsHistory ts right.history) same_transactions right.is_history

  module _ (history : List Transaction) (is_history : IsHistory found history) where
    same_history : right.history ≡ history
    same_history = history-once found right.history history found_history is_history

    -- what was found is legal, was read as it says, and is in order
    found_right : IsLegal history × OthersAreRead found history × IsInOrder found history
    found_right =
        subst (λ (h : List Transaction). IsLegal h × OthersAreRead found h × IsInOrder found h) same_history
        (subst (λ (ts : List Transaction). IsLegal right.history × OthersAreRead ts right.history × IsInOrder ts right.history) same_transactions (right.is_legal, right.others, right.in_order))

-- where the scripts ascend, whether what was found is so says whether the run is right
pub judged : {E : Type 0} (scripts : List Script) (transcripts : List Transcript) (found history : List Transaction) → Some found ≡ cut_all scripts transcripts → IsHistory found history
    → IsStrictlyIncreasing (map (λ script. script.conn) scripts) → (answer : Result Bool E) → IfOk answer (λ right. IsTrue right ↔ (IsLegal history × OthersAreRead found history × IsInOrder found history))
    → IfOk answer (λ right. IsTrue right ↔ IsRightRun scripts transcripts)
judged scripts transcripts found history is_cut is_history ascending (Ok right) says = (
  λ yes. record {
    ascending = ascending;
    transactions = found;
    is_cut = sym is_cut;
    history = history;
    is_history = is_history;
    is_legal = (says.0 yes).0;
    others = (says.0 yes).1;
    in_order = (says.0 yes).2;
  },
  λ right. says.1 (found_right scripts transcripts found is_cut right history is_history),
)
judged scripts transcripts found history is_cut is_history ascending (Err e) says = tt
