-- A change that leaves the id, the ordinal, the snapshot and the place.
use Rattle.std.proofs.Common.{◌≡◌, ◌∙◌, subst, sym, ℕ, ◌<◌, ◌≤◌, List, [], ◌∷◌}
use Rattle.hc_base.specs.Lookup.{but}
use Rattle.hc_core.specs.Account.{HoldsKey, Txn}
use Rattle.hc_core.specs.Sound.{AreSnapshotReads, AreSound, ChecksAreSound, ComesAfterEach, HoldsAlone, IsFirstCommitter, NumbersAreSound, RefusalsAreTrue, TxnIsSound, WritesAreSound}
use Rattle.hc_core.specs.declared.cells.Write.{Write}
use Rattle.hc_core.proofs.Changed.{Keeps, kept_changed}
use Rattle.hc_core.proofs.Ordered.{newest_after, newest_there}

-- it is the same transaction
pub record IsSame (t new : Txn) : Type 0 where
  pub id : new.id ≡ t.id
  pub ord : new.ord ≡ t.ord
  pub snapshot : new.snapshot ≡ t.snapshot

-- the same transaction, changed, comes after the same ones
pub same_after : (t new : Txn) (rest : List Txn) → IsSame t new → ComesAfterEach t rest → ComesAfterEach new rest
same_after t new [] same after = tt
same_after t new (u ∷ rest) same after = (
  record {
    ended = after.0.ended;
    id = λ drawn older_same. after.0.id (λ none. drawn (same.id ∙ none)) (older_same ∙ same.id);
    ord = λ drawn. subst (λ n. u.ord < n) (sym same.ord) (after.0.ord (λ none. drawn (same.id ∙ none)));
    snapshot = subst (λ n. u.snapshot ≤ n) (sym same.snapshot) after.0.snapshot;
    place = subst (λ n. u.place ≤ n) (sym same.snapshot) after.0.place;
  },
  same_after t new rest same after.1,
)

-- the newest transaction changes but stays the same one, sound, and all stays sound
pub kept_same : {size : ℕ} {log : ℕ → ℕ} {of : ℕ → List Txn} (s : AreSound size log of) (i : ℕ) (t new : Txn) (rest : List Txn) (is : of i ≡ t ∷ rest)
    → Keeps t new → IsSame t new → TxnIsSound size of i new → AreSound size log (but of i (new ∷ rest))
kept_same {size} {log} {of} s i t new rest is keeps same sound =
    kept_changed size log of i t new rest s is keeps sound
    (same_after t new rest same (newest_after s i t rest is))
    (λ j u there drawn id_same. s.ids i j t u (newest_there s i t rest is) there (λ none. drawn (same.id ∙ none)) (sym same.id ∙ id_same))

-- a change that leaves all that others rest on: who it is, its place, its write set and what it put
pub record IsAside (t new : Txn) : Type 0 where
  pub id : new.id ≡ t.id
  pub ord : new.ord ≡ t.ord
  pub snapshot : new.snapshot ≡ t.snapshot
  pub place : new.place ≡ t.place
  pub write_set : new.write_set ≡ t.write_set
  pub puts : new.puts ≡ t.puts

-- after such a change of the newest transaction all is sound where it is
pub kept_aside : {size : ℕ} {log : ℕ → ℕ} {of : ℕ → List Txn} (s : AreSound size log of) (i : ℕ) (t new : Txn) (rest : List Txn) (is : of i ≡ t ∷ rest)
    → IsAside t new → TxnIsSound size of i new → AreSound size log (but of i (new ∷ rest))
kept_aside s i t new rest is aside = kept_same s i t new rest is
    (record {
      place = aside.place;
      write_set = λ placed. aside.write_set;
      id = λ placed. aside.id;
      named = λ key put. (aside.id, aside.ord, subst (λ (ws : List Write). HoldsKey ws key) (sym aside.puts) put);
    })
    (record { id = aside.id; ord = aside.ord; snapshot = aside.snapshot })

-- a transaction is sound by its parts
pub by_parts : {size : ℕ} {of : ℕ → List Txn} {i : ℕ} (t : Txn) → NumbersAreSound size t.id t.snapshot t.proposed t.place
    → WritesAreSound t.id t.place t.ended t.write_set t.puts → HoldsAlone of i t.snapshot t.place t.write_set
    → AreSnapshotReads of t.snapshot t.reads → ChecksAreSound of size t.snapshot t.proposed t.checked t.unchanged
    → IsFirstCommitter of t.snapshot t.place t.reads t.write_set → RefusalsAreTrue of i t.snapshot t.refusals → TxnIsSound size of i t
by_parts t numbers writes holds reads checks first refusals = record {
  numbers = numbers;
  writes = writes;
  holds = holds;
  reads = reads;
  checks = checks;
  first = first;
  refusals = refusals;
}
