-- A transaction that is open stays one of its desk.
use Rattle.std.proofs.Common.{◌≡◌, ◌∙◌, refl, sym, ap, subst, ℕ, ◌<◌, max, None, Result, Ok, Err, List, [], ◌∷◌, ◌++◌, arith}
use Rattle.hc_base.specs.declared.numbers.Cid.{Cid}
use Rattle.hc_core.specs.Account.{Txn, after_end, after_read, newest_changed, txns}
use Rattle.hc_core.specs.Diary.{entry_of}
use Rattle.hc_core.specs.Running.{greatest_ord}
use Rattle.hc_core.specs.declared.account.Entry.{Entry}
use Rattle.hc_core.specs.declared.event.Event.TheVariants.{Begin, End}
use Rattle.hc_core.specs.declared.outcome.Outcome.TheVariants.{Began, Cells, Done}
use Rattle.hc_core.specs.Account.{PartRead}
use Rattle.hc_core.specs.declared.cells.Write.{Write}
use Rattle.hc_range.specs.declared.range.Range.{Range}
use Rattle.hc_txn.specs.Marks.{HasReleased, HasUndone}
use Rattle.hc_txn.specs.Transactions.{AreRecordsOf, HasOnlyRead, IsLogOf, IsOf, Mark, Transaction, entries_of, having_read, reads_of}
use Rattle.hc_txn_tests.specs.Lanes.{IsLane, KeepsReads}

-- a begin leaves the ordinals
pub begun_ord : (conn : ℕ) (snapshot : Cid) (before after : List Entry) → after ≡ entry_of (Begin conn) (Began snapshot) ∷ before → greatest_ord (txns after) ≡ greatest_ord (txns before)
begun_ord conn snapshot before after e = ap (λ (a : List Entry). greatest_ord (txns a)) e ∙ zero_max (greatest_ord (txns before))
  where
    zero_max : (n : ℕ) → max 0 n ≡ n
    zero_max n = omega arith

ord_changed : (f : Txn → Txn) → ((t : Txn) → (f t).ord ≡ t.ord) → (ts : List Txn) → greatest_ord (newest_changed f ts) ≡ greatest_ord ts
ord_changed f same [] = refl
ord_changed f same (t ∷ ts) = ap (λ (n : ℕ). max n (greatest_ord ts)) (same t)

ord_read : (conn : ℕ) (reads : List PartRead) (account : List Entry) → greatest_ord (txns (entries_of conn reads ++ account)) ≡ greatest_ord (txns account)
ord_read conn [] account = refl
ord_read conn (read ∷ reads) account =
    ord_changed (after_read read.part (Cells (record { cells = read.cells }))) (λ t. refl) (txns (entries_of conn reads ++ account)) ∙ ord_read conn reads account

-- an end leaves the ordinals
pub ended_ord : (conn : ℕ) (before after : List Entry) → after ≡ entry_of (End conn) Done ∷ before → greatest_ord (txns after) ≡ greatest_ord (txns before)
ended_ord conn before after e = ap (λ (a : List Entry). greatest_ord (txns a)) e ∙ ord_changed (after_end Done) (λ t. refl) (txns before)

-- reads leave the ordinals
pub reads_ord : (conn : ℕ) (before after : List Entry) → HasOnlyRead conn before after → greatest_ord (txns after) ≡ greatest_ord (txns before)
reads_ord conn before after h = ap (λ (a : List Entry). greatest_ord (txns a)) h.1 ∙ ord_read conn h.0 before

pub keeps_of : (account : List Entry) (before after : Transaction) → IsOf account before → KeepsReads before after → IsOf account after
keeps_of account before after h k = record {
  older = h.older;
  newest = subst (λ (n : ℕ). txns account ≡ having_read n (reads_of account) ∷ h.older) (sym k.0) h.newest;
  log = subst (λ (l : List Range). IsLogOf (reads_of account) l) (sym k.1) h.log;
  records = subst (λ (w : List Write). AreRecordsOf (reads_of account) w) (sym k.2) h.records;
}

pub undone_keeps : {T E : Type 0} (r : Result T E) (marks : List Mark) (before after : Transaction) → HasUndone r marks before after → KeepsReads before after
undone_keeps (Ok done) (mark ∷ outer) before after e = (ap (λ (t : Transaction). t.snapshot) e, ap (λ (t : Transaction). t.log) e, ap (λ (t : Transaction). t.kept) e)
undone_keeps (Err none) [] before after e = (ap (λ (t : Transaction). t.snapshot) e, ap (λ (t : Transaction). t.log) e, ap (λ (t : Transaction). t.kept) e)
undone_keeps (Ok done) [] before after e = absurd e
undone_keeps (Err none) (mark ∷ outer) before after e = absurd e

pub released_keeps : {T E : Type 0} (r : Result T E) (marks : List Mark) (before after : Transaction) → HasReleased r marks before after → KeepsReads before after
released_keeps (Ok done) (mark ∷ outer) before after e = (ap (λ (t : Transaction). t.snapshot) e, ap (λ (t : Transaction). t.log) e, ap (λ (t : Transaction). t.kept) e)
released_keeps (Err none) [] before after e = (ap (λ (t : Transaction). t.snapshot) e, ap (λ (t : Transaction). t.log) e, ap (λ (t : Transaction). t.kept) e)
released_keeps (Ok done) [] before after e = absurd e
released_keeps (Err none) (mark ∷ outer) before after e = absurd e
