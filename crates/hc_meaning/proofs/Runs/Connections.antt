-- The connections that fit their accounts: which transaction of a cut fits which one of an account.
use Rattle.std.proofs.Common.{◌≡◌, ◌≢◌, ◌∙◌, inl, inr, ⊎_elim, refl, sym, ap, subst, ℕ, None, List, [], ◌∷◌, ◌++◌, length, map, reverse, arith}
use Rattle.std.specs.List.{AllByRecursion, AllZip}
use mathlib.Core.List.{append-nil}
use Rattle.hc_core.specs.Account.{Txn}
use Rattle.hc_base.specs.Lookup.{Among}
use Rattle.hc_transcript.specs.declared.reply.Transcript.{Transcript}
use Rattle.hc_meaning.specs.Runs.Cut.{Connection, IsCutOf, IsRefusedOutside, Script, Transaction}
use Rattle.hc_meaning.specs.Runs.Fits.{FitsRest, ScriptFits}
use Rattle.hc_meaning.specs.Runs.Fitting.{FitsOne}
use Rattle.hc_meaning.specs.Runs.Language.{Language}
use Rattle.hc_meaning.specs.Runs.RightRun.{transactions_of}
use Rattle.hc_meaning.proofs.Runs.Closed.{CutFacts, EndsAsClosed, cut_facts}
use Rattle.hc_meaning.proofs.Runs.Joined.{among_back, among_either, among_front, among_mapped}
use Rattle.hc_meaning.proofs.Runs.Paired.{AreNumbered, among_reversed, conn_of, reverse_among, zip_left, zip_right}
use Rattle.hc_meaning.proofs.Runs.Rising.{known_script}

module _ (L : Language) (of : ℕ → List Txn) where
  -- A whole transcript that fits: its cut, and the account's transactions, the oldest first.
  pub record Fitted (c : Connection) : Type 0 where
    pub is_cut : IsCutOf c
    pub strays : AllByRecursion IsRefusedOutside c.cut.strays
    pub numbered : AreNumbered c.script.conn 1 c.cut.closed
    pub ends : AllByRecursion EndsAsClosed c.cut.closed
    pub closed : List Txn
    pub account : of c.script.conn ≡ reverse closed
    pub each : AllZip (FitsOne L) c.cut.closed closed

  empty_of_length : (xs : List Txn) → length xs ≡ 0 → xs ≡ []
  empty_of_length [] none = refl
  empty_of_length (x ∷ xs) none = absurd (omega (arith, none))

  alone : (rest closed older : List Txn) → rest ≡ [] → older ≡ [] → rest ++ reverse closed ++ older ≡ reverse closed
  alone rest closed older no_rest no_older = rw (no_rest, no_older) (append-nil (reverse closed))

  connection : (script : Script) (transcript : Transcript) → ScriptFits L of script transcript → Connection
  connection script transcript fits = record { script = script; transcript = transcript; cut = fits.fits.walked }

  fitted : (script : Script) (transcript : Transcript) (fits : ScriptFits L of script transcript) → Fitted (connection script transcript fits)
  unfolding connection
  fitted script transcript fits =
      let facts : CutFacts script.conn 1 script.commands transcript.replies fits.fits.walked =
      cut_facts script.conn 1 None script.commands transcript.replies fits.fits.walked fits.fits.is_cut in
      let no_rest : fits.fits.rest ≡ [] = subst (λ now. FitsRest L now fits.fits.rest) (facts.whole fits.each) fits.fits.open_fits in
      record {
        is_cut = record { same = fits.same; each = fits.each; cut = fits.fits.is_cut };
        strays = fits.fits.strays;
        numbered = facts.numbered;
        ends = facts.ends;
        closed = fits.fits.closed;
        account = fits.fits.account ∙ alone fits.fits.rest fits.fits.closed fits.fits.older no_rest (empty_of_length fits.fits.older fits.fits.older_length);
        each = fits.fits.each;
      }

  -- the connections, each with its facts
  pub record Fittings (scripts : List Script) (transcripts : List Transcript) : Type 0 where
    pub connections : List Connection
    pub scripts_are : map (λ (c : Connection). c.script) connections ≡ scripts
    pub transcripts_are : map (λ (c : Connection). c.transcript) connections ≡ transcripts
    pub each : AllByRecursion Fitted connections

  one_more : (script : Script) (transcript : Transcript) (scripts : List Script) (transcripts : List Transcript)
      → ScriptFits L of script transcript → Fittings scripts transcripts → Fittings (script ∷ scripts) (transcript ∷ transcripts)
  unfolding connection
  one_more script transcript scripts transcripts fits rest = record {
    connections = connection script transcript fits ∷ rest.connections;
    scripts_are = ap (λ (l : List Script). script ∷ l) rest.scripts_are;
    transcripts_are = ap (λ (l : List Transcript). transcript ∷ l) rest.transcripts_are;
    each = (fitted script transcript fits, rest.each);
  }

  pub fittings : (scripts : List Script) (transcripts : List Transcript) → AllZip (ScriptFits L of) scripts transcripts → Fittings scripts transcripts
  fittings [] [] fit = record { connections = []; scripts_are = refl; transcripts_are = refl; each = tt }
  fittings [] (transcript ∷ transcripts) fit = absurd fit
  fittings (script ∷ scripts) [] fit = absurd fit
  fittings (script ∷ scripts) (transcript ∷ transcripts) fit = one_more script transcript scripts transcripts fit.0 (fittings scripts transcripts fit.1)

-- each of a list has a fact
pub each_has : {A : Type 0} (P : A → Type 0) (xs : List A) → AllByRecursion P xs → (x : A) → Among x xs → P x
each_has P [] all x there = absurd there
each_has P (y ∷ xs) all x there = ⊎_elim (λ here. subst P (sym here) all.0) (λ following. each_has P xs all.1 x following) there

pub all_as : {A : Type 0} (P Q : A → Type 0) → ((x : A) → P x → Q x) → (xs : List A) → AllByRecursion P xs → AllByRecursion Q xs
all_as P Q change [] all = tt
all_as P Q change (x ∷ xs) all = (change x all.0, all_as P Q change xs all.1)

-- a transaction of the connections is one of a connection's
pub of_connection : (cs : List Connection) (t : Transaction) → Among t (transactions_of cs) → (c : Connection) × Among c cs × Among t c.cut.closed
of_connection [] t there = absurd there
of_connection (c ∷ cs) t there = ⊎_elim
    (λ here. (c, inl refl, here))
    (λ later. let found = of_connection cs t later in (found.0, inr found.1, found.2))
    (among_either t c.cut.closed (transactions_of cs) there)

pub to_connections : (cs : List Connection) (c : Connection) (t : Transaction) → Among c cs → Among t c.cut.closed → Among t (transactions_of cs)
to_connections [] c t c_there there = absurd c_there
to_connections (d ∷ cs) c t c_there there = ⊎_elim
    (λ here. among_front t d.cut.closed (transactions_of cs) (subst (λ (e : Connection). Among t e.cut.closed) here there))
    (λ following. among_back t d.cut.closed (transactions_of cs) (to_connections cs c t following there))
    c_there

module _ (L : Language) (of : ℕ → List Txn) (cs : List Connection) where
  -- A transaction with the one of the account that it fits.
  pub record Pair (t : Transaction) (i : ℕ) (x : Txn) : Type 0 where
    pub c : Connection
    pub c_there : Among c cs
    pub t_there : Among t c.cut.closed
    pub fitted : Fitted L of c
    pub conn_is : c.script.conn ≡ i
    pub t_conn : t.conn ≡ i
    pub there : Among x (of i)
    pub fits : FitsOne L t x
    pub ends : EndsAsClosed t

  pub txn_of : (each : AllByRecursion (Fitted L of) cs) (t : Transaction) → Among t (transactions_of cs) → (i : ℕ) × (x : Txn) × Pair t i x
  txn_of each t among =
      let home = of_connection cs t among in
      let f = each_has (Fitted L of) cs each home.0 home.1 in
      let found = zip_right (FitsOne L) home.0.cut.closed f.closed f.each t home.2 in (
        home.0.script.conn,
        found.0,
        record {
          c = home.0;
          c_there = home.1;
          t_there = home.2;
          fitted = f;
          conn_is = refl;
          t_conn = conn_of home.0.script.conn 1 home.0.cut.closed f.numbered t home.2;
          there = subst (λ (l : List Txn). Among found.0 l) (sym f.account) (among_reversed found.0 f.closed found.1);
          fits = found.2;
          ends = each_has EndsAsClosed home.0.cut.closed f.ends t home.2;
        },
      )

  pub transaction_of : (each : AllByRecursion (Fitted L of) cs)
      → ((i : ℕ) → ((s : Script) → Among s (map (λ (c : Connection). c.script) cs) → s.conn ≢ i) → of i ≡ [])
      → (i : ℕ) (x : Txn) → Among x (of i) → (t : Transaction) × Pair t i x
  transaction_of each no_other i x there = ⊎_elim
      (λ found.
      let home = among_mapped (λ (c : Connection). c.script) found.0 cs found.1 in
      let c : Connection = home.0 in
      let at : c.script.conn ≡ i = ap (λ (s : Script). s.conn) (sym home.2) ∙ found.2 in
      let f = each_has (Fitted L of) cs each c home.1 in
      let in_closed = reverse_among x f.closed (subst (λ (l : List Txn). Among x l) (ap of (sym at) ∙ f.account) there) in
      let pair = zip_left (FitsOne L) c.cut.closed f.closed f.each x in_closed in (
        pair.0,
        record {
          c = c;
          c_there = home.1;
          t_there = pair.1;
          fitted = f;
          conn_is = at;
          t_conn = conn_of c.script.conn 1 c.cut.closed f.numbered pair.0 pair.1 ∙ at;
          there = there;
          fits = pair.2;
          ends = each_has EndsAsClosed c.cut.closed f.ends pair.0 pair.1;
        },
      ))
      (λ none. absurd (subst (λ (l : List Txn). Among x l) (no_other i none) there))
      (known_script i (map (λ (c : Connection). c.script) cs))
