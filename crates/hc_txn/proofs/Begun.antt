-- A transaction that has just begun is one of its desk.
use Rattle.std.proofs.Common.{◌≡◌, refl, sym, subst, ℕ, None, List, [], ◌∷◌}
use Rattle.hc_base.specs.declared.numbers.Cid.{Cid}
use Rattle.hc_core.specs.Account.{txns}
use Rattle.hc_core.specs.Diary.{entry_of}
use Rattle.hc_core.specs.declared.account.Entry.{Entry}
use Rattle.hc_core.specs.declared.event.Event.TheVariants.{Begin}
use Rattle.hc_core.specs.declared.outcome.Outcome.TheVariants.{Began}
use Rattle.hc_txn.specs.Transactions.{IsOf, Transaction}

pub begun : (conn : ℕ) (snapshot : Cid) (before after : List Entry) (txn : Transaction) → after ≡ entry_of (Begin conn) (Began snapshot) ∷ before
    → txn ≡ record { snapshot = snapshot.0; log = []; own = []; kept = []; marks = []; statement = None } → IsOf after txn
begun conn snapshot before after txn e same =
    subst (λ (t : Transaction). IsOf after t) (sym same)
    (subst (λ (a : List Entry). IsOf a (record { snapshot = snapshot.0; log = []; own = []; kept = []; marks = []; statement = None })) (sym e) (record {
      older = txns before;
      newest = refl;
      log = λ key. (λ h. absurd h, λ h. absurd h.1);
      records = λ write a. absurd a;
    }))
