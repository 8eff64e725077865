-- What a transaction has read and logged, one call after another.
use Rattle.std.proofs.Common.{◌≡◌, ◌∙◌, refl, sym, ap, subst, ℕ, List, [], ◌∷◌, ◌++◌, append_assoc, Result, Ok, Err, OnErr, inl, inr}
use Rattle.hc_range.specs.declared.range.Range.{Range}
use Rattle.hc_core.specs.Account.{PartRead}
use Rattle.hc_core.specs.Diary.{entry_of}
use Rattle.hc_core.specs.declared.account.Entry.{Entry}
use Rattle.hc_core.specs.declared.event.Event.TheVariants.{Read}
use Rattle.hc_core.specs.declared.outcome.Outcome.TheVariants.{Cells}
use Rattle.hc_txn.specs.Reading.{only}
use Rattle.hc_txn.specs.Stores.{Agrees, Store}
use Rattle.hc_txn.specs.Transactions.{HasOnlyRead, IsOf, LogsKeyToo, LogsWithin, Transaction, entries_of, reads_of}
use Rattle.hc_txn.proofs.Logging.{agrees_older, of_reads, reads_grown}
use Rattle.hc_txn.proofs.OneKey.{one_key}

pub on_err : {T E P : Type 0} (r : Result T E) → P → OnErr r P
on_err (Ok t) p = tt
on_err (Err e) p = p

-- a key more is within its range
pub key_within : (key : List ℕ) (log more : List Range) → LogsKeyToo key log more → LogsWithin (only key) log more
key_within key log more h = (
  λ k a. (h k).1 (inl a),
  λ k a. elim ((h k).0 a) [ inl b ↦ inl b | inr b ↦ inr ((one_key key k).1 b) ],
)

pub within_chain : (key : List ℕ) (log more most : List Range) → LogsWithin (only key) log more → LogsWithin (only key) more most → LogsWithin (only key) log most
within_chain key log more most h also = (
  λ k a. also.0 k (h.0 k a),
  λ k a. elim (also.1 k a) [ inl b ↦ h.1 k b | inr b ↦ inr b ],
)

-- where the key was logged before, nothing within its range is new
pub key_chain : (key : List ℕ) (log more most : List Range) → LogsKeyToo key log more → LogsWithin (only key) more most → LogsKeyToo key log most
key_chain key log more most h also k = (
  λ a. elim (also.1 k a) [ inl b ↦ (h k).0 b | inr b ↦ inr ((one_key key k).0 b) ],
  λ a. also.0 k ((h k).1 a),
)

entries_append : (conn : ℕ) (reads older : List PartRead) → entries_of conn (reads ++ older) ≡ entries_of conn reads ++ entries_of conn older
entries_append conn [] older = refl
entries_append conn (read ∷ reads) older = ap (λ (entries : List Entry). entry_of (Read conn read.part.lo read.part.hi) (Cells (record { cells = read.cells })) ∷ entries) (entries_append conn reads older)

-- reads and then reads are reads
pub reads_chain : (conn other : ℕ) (before between after : List Entry) → other ≡ conn → HasOnlyRead conn before between → HasOnlyRead other between after → HasOnlyRead conn before after
reads_chain conn other before between after same h also = (
  also.0 ++ h.0,
  also.1
      ∙ ap (λ (n : ℕ). entries_of n also.0 ++ between) same
      ∙ ap (λ (account : List Entry). entries_of conn also.0 ++ account) h.1
      ∙ sym (append_assoc (entries_of conn also.0) (entries_of conn h.0) before)
      ∙ ap (λ (entries : List Entry). entries ++ before) (sym (entries_append conn also.0 h.0)),
)

-- a store that agrees with more agrees with what was read before
pub still_agrees : (conn : ℕ) (account after : List Entry) (txn : Transaction) → IsOf account txn → HasOnlyRead conn account after → (store : Store) → Agrees (reads_of after) store → Agrees (reads_of account) store
still_agrees conn account after txn of grown store agrees =
    agrees_older grown.0 (reads_of account) store
    (subst (λ (reads : List PartRead). Agrees reads store) (reads_grown conn grown.0 account (of_reads account txn.snapshot txn.log txn.kept of))
    (subst (λ (entries : List Entry). Agrees (reads_of entries) store) grown.1 agrees))
