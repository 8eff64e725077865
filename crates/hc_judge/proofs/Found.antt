-- Pairs that are cut into transactions are connections with their cuts, and the other way round.
use Rattle.std.proofs.Common.{◌≡◌, ◌∙◌, refl, sym, ap, subst, None, List, [], ◌∷◌, ◌++◌, map}
use Rattle.std.specs.List.{AllByRecursion}
use Rattle.std.specs.List.Sorted.{IsStrictlyIncreasing}
use Rattle.hc_transcript.specs.declared.reply.Transcript.{Transcript}
use Rattle.hc_meaning.specs.Runs.Cut.{Connection, IsCutOf, IsRefusedOutside, Script, Transaction}
use Rattle.hc_meaning.specs.Runs.RightRun.{transactions_of}
use Rattle.hc_meaning.specs.Runs.Language.{Language}
use Rattle.hc_judge.specs.Fronts.{AreTransactions}
use Rattle.hc_judge.specs.Laws.{RightRunHasTransactions}
use Rattle.hc_judge.specs.Pairs.{ArePaired, AreCutInto, IsOne, Paired}
use Rattle.hc_judge.proofs.CutWalks.{from_cut, to_cut}

abbrev AreRefused : List Connection → Type 0
AreRefused cs = AllByRecursion (λ (c : Connection). AllByRecursion IsRefusedOutside c.cut.strays) cs

abbrev script_of : Paired → Script
script_of p = p.script

abbrev transcript_of : Paired → Transcript
transcript_of p = p.transcript

-- the connections of pairs, each with its cut
record AreConnections (pairs : List Paired) (ts : List Transaction) : Type 0 where
  connections : List Connection
  scripts_are : map (λ (c : Connection). c.script) connections ≡ map script_of pairs
  transcripts_are : map (λ (c : Connection). c.transcript) connections ≡ map transcript_of pairs
  cut : AllByRecursion IsCutOf connections
  strays : AreRefused connections
  all : transactions_of connections ≡ ts

to_connections : (pairs : List Paired) (ts : List Transaction) → AllByRecursion IsOne pairs → AreCutInto pairs ts → AreConnections pairs ts
to_connections [] ts ones cut = record { connections = []; scripts_are = refl; transcripts_are = refl; cut = tt; strays = tt; all = sym cut }
to_connections (p ∷ pairs) ts ones cut =
    let found = to_cut p.script.conn 1 None p.script.commands p.transcript.replies cut.0 cut.2 in
    let rest = to_connections pairs cut.1 ones.1 cut.3 in
    let c : Connection = record { script = p.script; transcript = p.transcript; cut = found.0 } in
    record {
      connections = c ∷ rest.connections;
      scripts_are = ap (λ (l : List Script). p.script ∷ l) rest.scripts_are;
      transcripts_are = ap (λ (l : List Transcript). p.transcript ∷ l) rest.transcripts_are;
      cut = (record { same = ones.0.same; each = sym ones.0.each; cut = found.1 }, rest.cut);
      strays = (found.3, rest.strays);
      all = ap (λ (l : List Transaction). l ++ transactions_of rest.connections) found.2 ∙ ap (λ (l : List Transaction). cut.0 ++ l) rest.all ∙ sym cut.4;
    }

pub are_found : (scripts : List Script) (transcripts : List Transcript) (pairs : List Paired) (ts : List Transaction) → IsStrictlyIncreasing (map (λ (s : Script). s.conn) scripts)
    → ArePaired scripts transcripts pairs → AreCutInto pairs ts → AreTransactions scripts transcripts ts
are_found scripts transcripts pairs ts by_number are cut =
    let found = to_connections pairs ts are.each cut in
    record {
      connections = found.connections;
      form = record { by_number = by_number; scripts_are = found.scripts_are ∙ are.scripts_are; transcripts_are = found.transcripts_are ∙ are.transcripts_are };
      cut = found.cut;
      strays = found.strays;
      all = found.all;
    }

-- ---- and back

abbrev pair_of : Connection → Paired
pair_of c = record { script = c.script; transcript = c.transcript }

from_connections : (cs : List Connection) → AllByRecursion IsCutOf cs → AreRefused cs → AreCutInto (map pair_of cs) (transactions_of cs)
from_connections [] cut strays = refl
from_connections (c ∷ cs) cut strays = (
  c.cut.closed,
  transactions_of cs,
  from_cut c.script.conn 1 None c.script.commands c.transcript.replies c.cut cut.0.each cut.0.cut strays.0,
  from_connections cs cut.1 strays.1,
  refl,
)

pair_scripts : (cs : List Connection) → map script_of (map pair_of cs) ≡ map (λ (c : Connection). c.script) cs
pair_scripts [] = refl
pair_scripts (c ∷ cs) = ap (λ (l : List Script). c.script ∷ l) (pair_scripts cs)

pair_transcripts : (cs : List Connection) → map transcript_of (map pair_of cs) ≡ map (λ (c : Connection). c.transcript) cs
pair_transcripts [] = refl
pair_transcripts (c ∷ cs) = ap (λ (l : List Transcript). c.transcript ∷ l) (pair_transcripts cs)

-- pairs with the same scripts and the same transcripts are the same
same_pairs : (ps qs : List Paired) → map script_of ps ≡ map script_of qs → map transcript_of ps ≡ map transcript_of qs → ps ≡ qs
same_pairs [] [] scripts transcripts = refl
same_pairs [] (q ∷ qs) scripts transcripts = absurd (let e : ◌≡◌ {A = List Script} [] (q.script ∷ map script_of qs) = scripts in cc)
same_pairs (p ∷ ps) [] scripts transcripts = absurd (let e : ◌≡◌ {A = List Script} (p.script ∷ map script_of ps) [] = scripts in cc)
same_pairs (p ∷ ps) (q ∷ qs) scripts transcripts =
    let s : ◌≡◌ {A = List Script} (p.script ∷ map script_of ps) (q.script ∷ map script_of qs) = scripts in
    let t : ◌≡◌ {A = List Transcript} (p.transcript ∷ map transcript_of ps) (q.transcript ∷ map transcript_of qs) = transcripts in
    let script : p.script ≡ q.script = cc in
    let more_scripts : map script_of ps ≡ map script_of qs = cc in
    let transcript : p.transcript ≡ q.transcript = cc in
    let more_transcripts : map transcript_of ps ≡ map transcript_of qs = cc in
    let of_script : Script → List Paired = λ x. record { script = x; transcript = p.transcript } ∷ ps in
    let of_transcript : Transcript → List Paired = λ x. record { script = q.script; transcript = x } ∷ ps in
    ap of_script script
    ∙ ap of_transcript transcript
    ∙ ap (λ (l : List Paired). q ∷ l) (same_pairs ps qs more_scripts more_transcripts)

pub none_found : (scripts : List Script) (transcripts : List Transcript) (pairs : List Paired) → ArePaired scripts transcripts pairs → ((ts : List Transaction) → AreCutInto pairs ts → ⊥)
    → (ts : List Transaction) → AreTransactions scripts transcripts ts → ⊥
none_found scripts transcripts pairs are none ts found =
    let same : map pair_of found.connections ≡ pairs = same_pairs (map pair_of found.connections) pairs
    (pair_scripts found.connections ∙ found.form.scripts_are ∙ sym are.scripts_are)
    (pair_transcripts found.connections ∙ found.form.transcripts_are ∙ sym are.transcripts_are) in
    none (transactions_of found.connections) (subst (λ (l : List Paired). AreCutInto l (transactions_of found.connections)) same (from_connections found.connections found.cut found.strays))

ones : (cs : List Connection) → AllByRecursion IsCutOf cs → AllByRecursion IsOne (map pair_of cs)
ones [] cut = tt
ones (c ∷ cs) cut = (record { same = cut.0.same; each = sym cut.0.each }, ones cs cut.1)

-- a right run has its transcripts, and transactions
pub right_run_has : (L : Language) → RightRunHasTransactions L
right_run_has L scripts transcripts right = (
  record {
    by_number = right.form.by_number;
    pairs = map pair_of right.connections;
    paired = record {
      scripts_are = pair_scripts right.connections ∙ right.form.scripts_are;
      transcripts_are = pair_transcripts right.connections ∙ right.form.transcripts_are;
      each = ones right.connections right.cut;
    };
  },
  (transactions_of right.connections, record { connections = right.connections; form = right.form; cut = right.cut; strays = right.strays; all = refl }),
)
