-- What a history that grows by one transaction keeps.
use Rattle.std.proofs.Common.{◌≡◌, ◌∙◌, ap, sym, ℕ, ◌+◌, ◌≤◌, List, [], ◌∷◌, ◌++◌, length, arith, fold, length-append}
use Rattle.std.proofs.lemmas.List.{take-append-le, take_all}
use Rattle.std.proofs.lemmas.List.Sums.{fold-append}
use Rattle.hc_transcript.specs.declared.reply.Ending.{Ending}
use Rattle.hc_transcript.specs.declared.reply.Ending.TheVariants.{Commit, Snapshot, RolledBack}
use Rattle.hc_meaning.specs.declared.transaction.Transaction.{Transaction}
use Rattle.hc_meaning.specs.Database.{empty_db}
use Rattle.hc_meaning.specs.History.{after, state}
use Rattle.hc_meaning.specs.RightOutput.{IsReadAt, IsReadUnlessCommitted}

-- the db after an earlier number of commits stays
pub state-earlier : (history : List Transaction) (t : Transaction) (k : ℕ) → k ≤ length history → state (history ++ t ∷ []) k ≡ state history k
state-earlier history t k within = ap (λ (h : List Transaction). fold after empty_db h) (take-append-le k history (t ∷ []) within)

-- the db after all commits is the one before the last, with that transaction run on it
pub state-last : (history : List Transaction) (t : Transaction) → state (history ++ t ∷ []) (length history + 1) ≡ after (state history (length history)) t
state-last history t =
    ap (λ (h : List Transaction). fold after empty_db h) (take_all (length history + 1) (history ++ t ∷ []) (omega (arith, length-append history (t ∷ []))))
    ∙ fold-append after empty_db history (t ∷ [])
    ∙ ap (λ (h : List Transaction). after (fold after empty_db h) t) (sym (take_all (length history) history (omega arith)))

-- what was read after an earlier number of commits is read so still
is_read-grown : (history : List Transaction) (t u : Transaction) (s : ℕ) → IsReadAt history s t → IsReadAt (history ++ u ∷ []) s t
is_read-grown history t u s read =
    let same : state (history ++ u ∷ []) s ≡ state history s = state-earlier history u s read.within in
    record {
      within = omega (arith, read.within, length-append history (u ∷ []));
      replies = rw same read.replies;
      snapshot = rw same read.snapshot;
    }

-- a transaction that was read on an earlier db is so still
pub reads-grown : (history : List Transaction) (t u : Transaction) (ending : Ending) → IsReadUnlessCommitted history t ending → IsReadUnlessCommitted (history ++ u ∷ []) t ending
reads-grown history t u (Commit k) read = tt
reads-grown history t u (Snapshot s) read = is_read-grown history t u s read
reads-grown history t u (RolledBack s) read = is_read-grown history t u s read
