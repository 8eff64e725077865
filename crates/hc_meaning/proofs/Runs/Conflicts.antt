-- Each refusal with 517 names a transaction of another connection, whose write of the key met what was read.
use Rattle.std.proofs.Common.{◌≡◌, ◌≢◌, ◌⊎◌, ◌∙◌, inl, inr, ⊎_elim, refl, sym, subst, ℕ, ◌-◌, ◌<◌, List, [], map, arith}
use Rattle.std.specs.List.{AllByRecursion}
use Rattle.std.proofs.lemmas.Bool.{cases_eq}
use Rattle.hc_core.specs.Account.{Asked, HoldsKey, IsAskedFor, IsPart, KeyAsked, PartAsked, Refusal, Txn}
use Rattle.hc_base.specs.Lookup.{Among}
use Rattle.hc_core.specs.Sound.{AreSound, NamesWriter}
use Rattle.hc_core.specs.declared.cells.Write.{Write}
use Rattle.hc_range.specs.Order.{IsBelow}
use Rattle.hc_range.specs.Ranges.{InAny}
use Rattle.hc_transcript.specs.declared.refusal.Refusal.{Refusal as Reason}
use Rattle.hc_transcript.specs.declared.refusal.Refusal.TheVariants.{Busy}
use Rattle.hc_transcript.specs.declared.reply.Ending.{Ending}
use Rattle.hc_transcript.specs.declared.reply.Ending.TheVariants.{Commit, Snapshot, RolledBack}
use Rattle.hc_meaning.specs.Runs.Commits.{base, base_number, footprint_at_base, state, writes_at_base}
use Rattle.hc_meaning.specs.Runs.Cut.{Connection, Script, Transaction}
use Rattle.hc_meaning.specs.Runs.Fitting.{AgreesWith, EndsAs, FitsOn, FitsOne, IsConflict, PutsFit, PutsFitOn, PutsUpto}
use Rattle.hc_meaning.specs.Runs.Language.{Language, IsLanguage}
use Rattle.hc_meaning.specs.Runs.Met.{IsNamed, PrintsCommit, WasRefusedLater}
use Rattle.hc_meaning.specs.Runs.RightRun.{NamesOneMet, transactions_of}
use Rattle.hc_meaning.specs.Runs.Walk.{Close, Finished, Refused, FellShort, Abandoned}
use Rattle.hc_meaning.proofs.Runs.Clauses.{agrees_there}
use Rattle.hc_meaning.proofs.Runs.Closed.{EndsSo}
use Rattle.hc_meaning.proofs.Runs.Connections.{Fitted, Pair, to_connections, transaction_of, txn_of}
use Rattle.hc_meaning.proofs.Runs.Databases.{state_is}
use Rattle.hc_meaning.proofs.Runs.History.{Shown, committed_as, puts_to}
use Rattle.hc_meaning.proofs.Runs.Reads.{written_within}
use Rattle.hc_meaning.proofs.Runs.Rising.{AreRising}
use Rattle.hc_meaning.proofs.Runs.States.{agrees_before}

-- what was put is among the writes, however the transaction was closed
puts_upto : (asked : Asked) (puts ws : List Write) → PutsUpto asked puts ws → (w : Write) → Among w puts → Among w ws
puts_upto (KeyAsked key) puts ws fit w there = ((fit.0 w).0 there).0
puts_upto (PartAsked part) puts ws fit w there = (fit w).0 there

nothing_put : (puts : List Write) → puts ≡ [] → (w : Write) → Among w puts → ⊥
nothing_put puts none w there = subst (λ (l : List Write). Among w l) none there

pub puts_written : (close : Close) (u : Txn) (ws : List Write) → PutsFit close u ws → (w : Write) → Among w u.puts → Among w ws
puts_written Finished u ws fit w there = (fit.1 w).0 there
puts_written (Refused (Busy conn ordinal key)) u ws fit w there = puts_upto fit.0.asked u.puts ws fit.2 w there
puts_written (Refused _) u ws fit w there = absurd (nothing_put u.puts fit w there)
puts_written FellShort u ws fit w there = absurd (nothing_put u.puts fit w there)
puts_written Abandoned u ws fit w there = absurd (nothing_put u.puts fit w there)

-- the base of what was refused is its snapshot
snapshot_is : (close : Close) (ending : Ending) (reason : Reason) (x : Txn) → close ≡ Refused reason → EndsSo close ending → EndsAs ending x
    → base_number ending ≡ x.snapshot
snapshot_is close (Commit k) reason x is so ends = absurd (subst (λ (c : Close). EndsSo c (Commit k)) is so)
snapshot_is close (Snapshot s) reason x is so ends = sym ends.1
snapshot_is close (RolledBack s) reason x is so ends = sym ends.1

module _ (L : Language) (laws : IsLanguage L) {size : ℕ} {log : ℕ → ℕ} {of : ℕ → List Txn} (sound : AreSound size log of)
    (cs : List Connection) (each : AllByRecursion (Fitted L of) cs) (rising : AreRising (map (λ (c : Connection). c.script) cs))
    (shown : Shown L laws sound cs size)
    (no_other : (i : ℕ) → ((s : Script) → Among s (map (λ (c : Connection). c.script) cs) → s.conn ≢ i) → of i ≡ []) where
  abbrev past : List Transaction
  past = shown.history

  -- each transaction's base has what it read
  agrees_by : (i : ℕ) (x : Txn) → Among x (of i) → (ending : Ending) → EndsAs ending x → AgreesWith L (state L past (base_number ending)) x.reads
  agrees_by i x there (Commit k) ends =
      let placed : x.place ≢ 0 = λ none. ends.1 (sym ends.0 ∙ none) in
      let within = (sound.each i x there).numbers.place_within placed in
      agrees_before L laws sound past (k - 1) i x (puts_to L laws sound cs size shown (k - 1) (omega (arith, within.1, ends.0, ends.1))) there
      (omega (arith, ends.0, ends.1))
  agrees_by i x there (Snapshot s) ends = subst (λ (n : ℕ). AgreesWith L (state L past n) x.reads) ends.1 (agrees_there L laws sound cs each rising shown i x there)
  agrees_by i x there (RolledBack s) ends = subst (λ (n : ℕ). AgreesWith L (state L past n) x.reads) ends.1 (agrees_there L laws sound cs each rising shown i x there)

  pub puts_on_base : (t : Transaction) (i : ℕ) (x : Txn) → Among x (of i) → FitsOne L t x → PutsFitOn L t x (base L past t)
  puts_on_base t i x there fits = fits.puts_on (base L past t) (state_is L laws past (base_number t.ending)) (agrees_by i x there t.ending fits.number)

  puts_at_base : (t : Transaction) (i : ℕ) (x : Txn) → Pair L of cs t i x → PutsFitOn L t x (base L past t)
  puts_at_base t i x pair = puts_on_base t i x pair.there pair.fits

  fits_at_base : (t : Transaction) (i : ℕ) (x : Txn) → Pair L of cs t i x → FitsOn L t.items x (base L past t)
  fits_at_base t i x pair = pair.fits.on (base L past t) (state_is L laws past (base_number t.ending)) (agrees_by i x pair.there t.ending pair.fits.number)

  -- one that put a key has drawn an id
  drew_id : (j : ℕ) (u : Txn) (key : List ℕ) → Among u (of j) → HoldsKey u.puts key → u.id ≢ 0
  drew_id j u key there held none =
      nothing_put u.puts ((sound.each j u there).writes.undrawn none).1 (record { key = key; rec = held.0 }) held.1

  -- Whom a refusal names.
  pub record Named (i : ℕ) (x : Txn) (conn ordinal : ℕ) (r : Refusal) : Type 0 where
    pub y : Transaction
    pub j : ℕ
    pub u : Txn
    pub pair : Pair L of cs y j u
    pub is_named : IsNamed (transactions_of cs) conn ordinal y
    pub other : j ≢ i
    pub held : HoldsKey u.puts r.met.key
    pub above : u.place ≢ 0 → x.snapshot < u.place
    pub placed : IsPart r.asked → u.place ≢ 0

  named : (i : ℕ) (x : Txn) (conn ordinal : ℕ) (key : List ℕ) (r : Refusal) → IsConflict x conn ordinal key r → NamesWriter of i x.snapshot r
      → Named i x conn ordinal r
  named i x conn ordinal key r conflict names =
      let found = transaction_of L of cs each no_other names.0 names.1 names.2 in
      let pair = found.1 in
      record {
        y = found.0;
        j = names.0;
        u = names.1;
        pair = pair;
        is_named = record {
          among = to_connections cs pair.c found.0 pair.c_there pair.t_there;
          conn_is = pair.t_conn ∙ sym names.4 ∙ conflict.conn_is;
          ordinal_is = sym (pair.fits.ordinal (drew_id names.0 names.1 r.met.key names.2 names.7)) ∙ sym names.6 ∙ conflict.ordinal_is;
        };
        other = names.3;
        held = names.7;
        above = names.8;
        placed = names.9;
      }

  -- one that is committed prints a commit number
  prints : (t : Transaction) (i : ℕ) (x : Txn) → Pair L of cs t i x → x.place ≢ 0 → PrintsCommit t
  prints t i x pair placed = record { number = x.place; printed = committed_as t.ending x pair.fits.number placed }

  -- a refused one had put the key: below the key whose put was refused, or before its checks, which name one that is committed
  refused_by : (j : ℕ) (u : Txn) (key : List ℕ) (conn ordinal : ℕ) (other_key : List ℕ) (r : Refusal) (ws : List Write) → IsConflict u conn ordinal other_key r
      → HoldsKey u.puts key → NamesWriter of j u.snapshot r → (asked : Asked) → r.asked ≡ asked → IsAskedFor asked other_key → PutsUpto asked u.puts ws
      → IsBelow key other_key ⊎ ((z : Transaction) × IsNamed (transactions_of cs) conn ordinal z × PrintsCommit z)
  refused_by j u key conn ordinal other_key r ws conflict held names (KeyAsked k) is asked_for fit =
      inl (subst (IsBelow key) (sym asked_for) ((fit.0 (record { key = key; rec = held.0 })).0 held.1).1)
  refused_by j u key conn ordinal other_key r ws conflict held names (PartAsked part) is asked_for fit =
      let who = named j u conn ordinal other_key r conflict names in
      inr (who.y, who.is_named, prints who.y who.j who.u who.pair (who.placed (subst IsPart (sym is) tt)))

  later_by : (j : ℕ) (y : Transaction) (u : Txn) (key : List ℕ) (ws : List Write) → Pair L of cs y j u → u.place ≡ 0 → HoldsKey u.puts key
      → (close : Close) → y.close ≡ close → PutsFit close u ws → WasRefusedLater (transactions_of cs) key y
  later_by j y u key ws pair undecided held Finished is fit =
      absurd (nothing_put u.puts (sym fit.0 ∙ (sound.each j u pair.there).writes.rolled_back pair.fits.ended undecided) (record { key = key; rec = held.0 }) held.1)
  later_by j y u key ws pair undecided held (Refused (Busy conn ordinal other_key)) is fit =
      let names = (sound.each j u pair.there).refusals fit.0 fit.1.among in
      record {
        conn = conn;
        ordinal = ordinal;
        other_key = other_key;
        refusal = is;
        later = refused_by j u key conn ordinal other_key fit.0 ws fit.1 held names fit.0.asked refl
            (subst (IsAskedFor fit.0.asked) fit.1.key_is names.10) fit.2;
      }
  later_by j y u key ws pair undecided held (Refused _) is fit = absurd (nothing_put u.puts fit (record { key = key; rec = held.0 }) held.1)
  later_by j y u key ws pair undecided held FellShort is fit = absurd (nothing_put u.puts fit (record { key = key; rec = held.0 }) held.1)
  later_by j y u key ws pair undecided held Abandoned is fit = absurd (nothing_put u.puts fit (record { key = key; rec = held.0 }) held.1)

  -- the key lies in what was read, or would have been
  read_by_asked : (t : Transaction) (x : Txn) (r : Refusal) (key : List ℕ) → Among r x.refusals → FitsOn L t.items x (base L past t)
      → (asked : Asked) → r.asked ≡ asked → IsAskedFor asked key → PutsUpto asked x.puts (writes_at_base L past t) → InAny (footprint_at_base L past t) key
  read_by_asked t x r key among on (KeyAsked k) is asked_for fit =
      subst (InAny (footprint_at_base L past t)) (sym asked_for)
      (written_within L laws (base L past t) t.items k (state_is L laws past (base_number t.ending)) fit.1)
  read_by_asked t x r key among on (PartAsked part) is asked_for fit = on.checked_only part (inr (r, among, is)) key asked_for

  pub conflicts : (t : Transaction) → Among t (transactions_of cs) → NamesOneMet L (transactions_of cs) past t
  unfolding prints named
  conflicts t t_among conn ordinal key closed =
      let found = txn_of L of cs each t t_among in
      let i : ℕ = found.0 in
      let x : Txn = found.1 in
      let pair = found.2 in
      let fit : PutsFit (Refused (Busy conn ordinal key)) x (writes_at_base L past t) =
      subst (λ (c : Close). PutsFit c x (writes_at_base L past t)) closed (puts_at_base t i x pair).puts in
      let names = (sound.each i x pair.there).refusals fit.0 fit.1.among in
      let who = named i x conn ordinal key fit.0 fit.1 names in
      let held : HoldsKey who.u.puts key = subst (HoldsKey who.u.puts) fit.1.key_is who.held in
      let base_is : base_number t.ending ≡ x.snapshot = snapshot_is t.close t.ending (Busy conn ordinal key) x closed pair.ends pair.fits.number in
      let puts = (puts_at_base who.y who.j who.u who.pair).puts in (
        who.y,
        who.is_named,
        record {
          other = λ same. who.other (sym who.pair.t_conn ∙ same ∙ pair.t_conn);
          written = (held.0, puts_written who.y.close who.u (writes_at_base L past who.y) puts (record { key = key; rec = held.0 }) held.1);
          read = read_by_asked t x fit.0 key fit.1.among (fits_at_base t i x pair) fit.0.asked refl (subst (IsAskedFor fit.0.asked) fit.1.key_is names.10) fit.2;
          later = ⊎_elim
              (λ undecided. inr (later_by who.j who.y who.u key (writes_at_base L past who.y) who.pair undecided held who.y.close refl puts))
              (λ placed. inl (record {
                commit = prints who.y who.j who.u who.pair placed;
                above = subst (λ (n : ℕ). n < who.u.place) (sym base_is) (who.above placed);
              }))
              (cases_eq who.u.place 0);
        },
      )
