-- The connection and the ordinal there tell a transaction.
use Rattle.std.proofs.Common.{◌≡◌, ◌∙◌, sym, subst, None, List, map, Result, Ok, Err, IfOk}
use Rattle.hc_base.specs.Lookup.{Among}
use Rattle.hc_transcript.specs.declared.reply.Transcript.{Transcript}
use Rattle.hc_meaning.specs.Runs.Cut.{Connection, IsCutOf, Script, Transaction}
use Rattle.hc_meaning.specs.Runs.RightRun.{has_command, transactions_of}
use Rattle.hc_meaning.proofs.Runs.Closed.{CutFacts, cut_facts}
use Rattle.hc_meaning.proofs.Runs.Connections.{each_has, of_connection}
use Rattle.hc_meaning.proofs.Runs.Paired.{conn_of, same_ordinal}
use Rattle.hc_meaning.proofs.Runs.Rising.{AreRising, are_rising, filter_rising, same_connection}
use Rattle.hc_judge.specs.Fronts.{AreTransactions, IsFound}
use Rattle.hc_judge.specs.declared.front.Front.{Front}
use Rattle.hc_judge.specs.declared.front.Front.TheVariants as front
use Rattle.hc_verdict.specs.Histories.{DifferByName}
use Rattle.hc_verdict.specs.Laws.{DifferWhereFound, TransactionsDifferByName}

module _ (scripts : List Script) (transcripts : List Transcript) (ts : List Transaction) (are : AreTransactions scripts transcripts ts) where
  abbrev cs : List Connection
  cs = are.connections

  rising : AreRising (map (λ (c : Connection). c.script) cs)
  rising = subst AreRising (sym are.form.scripts_are) (filter_rising has_command scripts (are_rising scripts are.form.by_number))

  facts : (c : Connection) → Among c cs → CutFacts c.script.conn 1 c.script.commands c.transcript.replies c.cut
  facts c there = cut_facts c.script.conn 1 None c.script.commands c.transcript.replies c.cut (each_has IsCutOf cs are.cut c there).cut

  differ : DifferByName (transactions_of cs)
  differ x x_there y y_there same_conn same =
      let a = of_connection cs x x_there in
      let b = of_connection cs y y_there in
      let x_conn : x.conn ≡ a.0.script.conn = conn_of a.0.script.conn 1 a.0.cut.closed (facts a.0 a.1).numbered x a.2 in
      let y_conn : y.conn ≡ b.0.script.conn = conn_of b.0.script.conn 1 b.0.cut.closed (facts b.0 b.1).numbered y b.2 in
      let one : b.0 ≡ a.0 = same_connection cs rising b.0 a.0 b.1 a.1 (sym y_conn ∙ same_conn ∙ x_conn) in
      same_ordinal a.0.script.conn 1 a.0.cut.closed (facts a.0 a.1).numbered y x (subst (λ (c : Connection). Among y c.cut.closed) one b.2) a.2 same

pub differ_by_name : TransactionsDifferByName
differ_by_name scripts transcripts ts are = subst DifferByName are.all (differ scripts transcripts ts are)

-- so do those that are found
pub named_where_found : {E : Type 0} (scripts : List Script) (transcripts : List Transcript) (answer : Result Front E)
    → IfOk answer (λ found. IsFound scripts transcripts found) → IfOk answer (λ found. DifferWhereFound found)
named_where_found scripts transcripts (Ok (front.Transactions ts)) is = differ_by_name scripts transcripts ts.items is
named_where_found scripts transcripts (Ok front.NotPaired) is = tt
named_where_found scripts transcripts (Ok front.NotCut) is = tt
named_where_found scripts transcripts (Err e) is = tt
