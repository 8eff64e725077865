-- The history that a log shows: for each commit number the transaction that fits the one with this number.
use Rattle.std.proofs.Common.{◌≡◌, ◌≢◌, ◌∙◌, ⊎_elim, refl, sym, ap, subst, ℕ, zero, suc, ◌<◌, ◌≤◌, List, [], ◌∷◌, ◌++◌, length, map, length-append, arith}
use Rattle.std.specs.List.{AllByRecursion}
use Rattle.std.proofs.lemmas.Bool.{cases_lt}
use Rattle.hc_core.specs.Account.{Txn}
use Rattle.hc_base.specs.Lookup.{Among}
use Rattle.hc_core.specs.Sound.{AreSound}
use Rattle.hc_transcript.specs.declared.reply.Ending.{Ending}
use Rattle.hc_transcript.specs.declared.reply.Ending.TheVariants.{Commit, Snapshot, RolledBack}
use Rattle.hc_meaning.specs.Runs.Cut.{Connection, Script, Transaction}
use Rattle.hc_meaning.specs.Runs.Fitting.{EndsAs}
use Rattle.hc_meaning.specs.Runs.Language.{Language, IsLanguage}
use Rattle.hc_meaning.specs.Runs.Walk.{Close, Finished, Refused, FellShort, Abandoned}
use Rattle.hc_meaning.proofs.Runs.Closed.{EndsSo}
use Rattle.hc_meaning.proofs.Runs.Connections.{Fitted, Pair, transaction_of}
use Rattle.hc_meaning.proofs.Runs.States.{CommitAt, HasPuts, has_puts}
use Rattle.hc_meaning.proofs.SerialRun.Places.{slice_get-earlier, slice_get-last}

-- what is not rolled back was finished
pub finished_if : (close : Close) (ending : Ending) → EndsSo close ending → ((s : ℕ) → ending ≡ RolledBack s → ⊥) → close ≡ Finished
finished_if Finished ending so never = refl
finished_if (Refused refusal) (Commit k) so never = absurd so
finished_if (Refused refusal) (Snapshot s) so never = absurd so
finished_if (Refused refusal) (RolledBack s) so never = absurd (never s refl)
finished_if FellShort (Commit k) so never = absurd so
finished_if FellShort (Snapshot s) so never = absurd so
finished_if FellShort (RolledBack s) so never = absurd (never s refl)
finished_if Abandoned (Commit k) so never = absurd so
finished_if Abandoned (Snapshot s) so never = absurd so
finished_if Abandoned (RolledBack s) so never = absurd (never s refl)

-- the ending of a transaction with a commit number
pub committed_as : (ending : Ending) (x : Txn) → EndsAs ending x → x.place ≢ 0 → ending ≡ Commit x.place
committed_as (Commit k) x ends placed = ap Commit (sym ends.0)
committed_as (Snapshot s) x ends placed = absurd (placed ends.0)
committed_as (RolledBack s) x ends placed = absurd (placed ends.0)

module _ (L : Language) (laws : IsLanguage L) {size : ℕ} {log : ℕ → ℕ} {of : ℕ → List Txn} (sound : AreSound size log of) (cs : List Connection) where
  -- the history has such a transaction at a place
  pub record Slot (history : List Transaction) (k : ℕ) : Type 0 where
    pub commit : CommitAt L laws sound history k
    pub pair : Pair L of cs commit.t commit.i commit.x

  earlier : (history : List Transaction) (t : Transaction) (k : ℕ) → Slot history k → Slot (history ++ t ∷ []) k
  earlier history t k slot = record {
    commit = record {
      t = slot.commit.t;
      i = slot.commit.i;
      x = slot.commit.x;
      is = slice_get-earlier history t slot.commit.t k slot.commit.is;
      there = slot.commit.there;
      place = slot.commit.place;
      fits = slot.commit.fits;
      finished = slot.commit.finished;
    };
    pair = slot.pair;
  }

  newest : (history : List Transaction) (t : Transaction) (i : ℕ) (x : Txn) → Pair L of cs t i x → x.place ≡ suc (length history)
      → Slot (history ++ t ∷ []) (length history)
  newest history t i x pair place =
      let ending : t.ending ≡ Commit x.place = committed_as t.ending x pair.fits.number (λ none. omega (arith, none, place)) in
      record {
        commit = record {
          t = t;
          i = i;
          x = x;
          is = slice_get-last history t;
          there = pair.there;
          place = place;
          fits = pair.fits;
          finished = finished_if t.close t.ending pair.ends (λ s rolled. let e : Commit x.place ≡ RolledBack s = sym ending ∙ rolled in cc);
        };
        pair = pair;
      }

  -- a history with a transaction at each place below n
  pub record Shown (n : ℕ) : Type 0 where
    pub history : List Transaction
    pub long : length history ≡ n
    pub slots : (k : ℕ) → k < n → Slot history k

  one_more : (n : ℕ) (shown : Shown n) (t : Transaction) (i : ℕ) (x : Txn) → Pair L of cs t i x → x.place ≡ suc n → Shown (suc n)
  one_more n shown t i x pair place = record {
    history = shown.history ++ t ∷ [];
    long = omega (arith, length-append shown.history (t ∷ []), shown.long);
    slots = λ k below. ⊎_elim
        (λ inside. earlier shown.history t k (shown.slots k inside))
        (λ beyond.
        let at : length shown.history ≡ k = omega (arith, beyond, below, shown.long) in
        let next : x.place ≡ suc (length shown.history) = omega (arith, place, shown.long) in
        subst (Slot (shown.history ++ t ∷ [])) at (newest shown.history t i x pair next))
        (cases_lt k n);
  }

  pub shown_to : (each : AllByRecursion (Fitted L of) cs)
      → ((i : ℕ) → ((s : Script) → Among s (map (λ (c : Connection). c.script) cs) → s.conn ≢ i) → of i ≡ [])
      → (n : ℕ) → n ≤ size → Shown n
  shown_to each no_other zero within = record { history = []; long = refl; slots = λ k below. absurd (omega (arith, below)) }
  shown_to each no_other (suc n) within =
      let entry = sound.entries n (omega (arith, within)) in
      let found = transaction_of L of cs each no_other entry.0 entry.1 entry.2 in
      one_more n (shown_to each no_other n (omega (arith, within))) found.0 entry.0 entry.1 found.1 (omega (arith, entry.3))

  -- each state has what the commits put
  pub puts_to : (n : ℕ) (shown : Shown n) (k : ℕ) → k ≤ n → HasPuts L laws sound shown.history k
  puts_to n shown k within = has_puts L laws sound shown.history k (λ c below. (shown.slots c (omega (arith, below, within))).commit)
