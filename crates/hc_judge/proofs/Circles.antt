-- In a right run no two refusals with 517 name each other.
use Rattle.std.proofs.Common.{◌≡◌, ◌∙◌, ⊎_elim, sym, subst, ℕ, None, List, map}
use Rattle.std.proofs.lemmas.Bool.{true≢false}
use Rattle.hc_base.specs.Lookup.{Among}
use Rattle.hc_range.specs.Order.{IsBelow}
use Rattle.hc_range.proofs.ByteOrder.{below_flip}
use Rattle.hc_transcript.specs.declared.refusal.Refusal.{Refusal}
use Rattle.hc_transcript.specs.declared.refusal.Refusal.TheVariants.{Busy}
use Rattle.hc_transcript.specs.declared.reply.Ending.{Ending}
use Rattle.hc_transcript.specs.declared.reply.Ending.TheVariants.{Commit}
use Rattle.hc_transcript.specs.declared.reply.Transcript.{Transcript}
use Rattle.hc_meaning.specs.Runs.Cut.{Connection, IsCutOf, Script, Transaction}
use Rattle.hc_meaning.specs.Runs.Language.{Language}
use Rattle.hc_meaning.specs.Runs.Met.{IsMet, PrintsCommit, WasRefusedLater}
use Rattle.hc_meaning.specs.Runs.RightRun.{IsRightRun, has_command, transactions_of}
use Rattle.hc_meaning.specs.Runs.Walk.{Close, Refused}
use Rattle.hc_meaning.proofs.Runs.Closed.{CutFacts, EndsAsClosed, EndsSo, cut_facts}
use Rattle.hc_meaning.proofs.Runs.Connections.{each_has, of_connection}
use Rattle.hc_meaning.proofs.Runs.Paired.{conn_of, same_ordinal}
use Rattle.hc_meaning.proofs.Runs.Rising.{AreRising, are_rising, filter_rising, same_connection}
use Rattle.hc_judge.specs.Laws.{NoTwoNameEachOther}

module _ (L : Language) (scripts : List Script) (transcripts : List Transcript) (right : IsRightRun L scripts transcripts) where
  abbrev cs : List Connection
  cs = right.connections

  abbrev ts : List Transaction
  ts = transactions_of cs

  rising : AreRising (map (λ (c : Connection). c.script) cs)
  rising = subst AreRising (sym right.form.scripts_are) (filter_rising has_command scripts (are_rising scripts right.form.by_number))

  facts : (c : Connection) → Among c cs → CutFacts c.script.conn 1 c.script.commands c.transcript.replies c.cut
  facts c there = cut_facts c.script.conn 1 None c.script.commands c.transcript.replies c.cut (each_has IsCutOf cs right.cut c there).cut

  -- a transaction is told by its name
  unique : (x y : Transaction) → Among x ts → Among y ts → x.conn ≡ y.conn → x.ordinal ≡ y.ordinal → x ≡ y
  unique x y x_there y_there same_conn same =
      let a = of_connection cs x x_there in
      let b = of_connection cs y y_there in
      let x_conn : x.conn ≡ a.0.script.conn = conn_of a.0.script.conn 1 a.0.cut.closed (facts a.0 a.1).numbered x a.2 in
      let y_conn : y.conn ≡ b.0.script.conn = conn_of b.0.script.conn 1 b.0.cut.closed (facts b.0 b.1).numbered y b.2 in
      let one : b.0 ≡ a.0 = same_connection cs rising b.0 a.0 b.1 a.1 (sym y_conn ∙ sym same_conn ∙ x_conn) in
      same_ordinal a.0.script.conn 1 a.0.cut.closed (facts a.0 a.1).numbered x y a.2 (subst (λ (c : Connection). Among y c.cut.closed) one b.2) same

  -- one whose commit was refused printed no commit number
  printed_none : (x : Transaction) → Among x ts → (refusal : Refusal) → x.close ≡ Refused refusal → PrintsCommit x → ⊥
  printed_none x x_there refusal is commit =
      let a = of_connection cs x x_there in
      let ends : EndsSo x.close x.ending = each_has EndsAsClosed a.0.cut.closed (facts a.0 a.1).ends x a.2 in
      subst (λ (c : Close). EndsSo c (Commit commit.number)) is (subst (λ (e : Ending). EndsSo x.close e) commit.printed ends)

  same_conn_of : (conn conn' ordinal ordinal' : ℕ) (key key' : List ℕ) → Refused (Busy conn ordinal key) ≡ Refused (Busy conn' ordinal' key') → conn ≡ conn'
  same_conn_of conn conn' ordinal ordinal' key key' same = cc

  same_ordinal_of : (conn conn' ordinal ordinal' : ℕ) (key key' : List ℕ) → Refused (Busy conn ordinal key) ≡ Refused (Busy conn' ordinal' key') → ordinal ≡ ordinal'
  same_ordinal_of conn conn' ordinal ordinal' key key' same = cc

  same_key_of : (conn conn' ordinal ordinal' : ℕ) (key key' : List ℕ) → Refused (Busy conn ordinal key) ≡ Refused (Busy conn' ordinal' key') → key ≡ key'
  same_key_of conn conn' ordinal ordinal' key key' same = cc

  -- where x is refused over a key by y, and y by x, the second key comes after the first
  comes_after : (x y : Transaction) (key other : List ℕ) → Among x ts → Among y ts → x.close ≡ Refused (Busy y.conn y.ordinal key) → y.close ≡ Refused (Busy x.conn x.ordinal other)
      → IsBelow key other
  comes_after x y key other x_there y_there x_is y_is =
      let named = right.conflicts x x_there y.conn y.ordinal key x_is in
      let u : Transaction = named.0 in
      let u_is : u ≡ y = unique u y named.1.among y_there named.1.conn_is named.1.ordinal_is in
      let met : IsMet L ts right.history x y key = subst (λ (v : Transaction). IsMet L ts right.history x v key) u_is named.2 in
      ⊎_elim
      (λ above. absurd (printed_none y y_there (Busy x.conn x.ordinal other) y_is above.commit))
      (λ (later : WasRefusedLater ts key y).
      let same : Refused (Busy later.conn later.ordinal later.other_key) ≡ Refused (Busy x.conn x.ordinal other) = sym later.refusal ∙ y_is in
      ⊎_elim
      (λ below. subst (λ (k : List ℕ). IsBelow key k) (same_key_of later.conn x.conn later.ordinal x.ordinal later.other_key other same) below)
      (λ found.
      let z : Transaction = found.0 in
      let z_is : z ≡ x = unique z x found.1.among x_there (found.1.conn_is ∙ same_conn_of later.conn x.conn later.ordinal x.ordinal later.other_key other same)
      (found.1.ordinal_is ∙ same_ordinal_of later.conn x.conn later.ordinal x.ordinal later.other_key other same) in
      absurd (printed_none x x_there (Busy y.conn y.ordinal key) x_is (subst PrintsCommit z_is found.2)))
      later.later)
      met.later

pub no_two_name_each_other : (L : Language) → NoTwoNameEachOther L
no_two_name_each_other L scripts transcripts right x y key other x_there y_there x_is y_is =
    let forth = comes_after L scripts transcripts right x y key other x_there y_there x_is y_is in
    let back = comes_after L scripts transcripts right y x other key y_there x_there y_is x_is in
    true≢false (sym back ∙ below_flip key other forth)
