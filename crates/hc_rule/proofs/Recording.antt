-- What a seat learns of transactions and the log, where no word changes.
use Rattle.std.proofs.Common.{◌≡◌, ◌∙◌, sym, ap, subst, ℕ, ◌≤◌, List}
use Rattle.hc_base.specs.Lookup.{Among, but}
use Rattle.hc_base.proofs.Lookups.{each_but}
use Rattle.hc_core.specs.Account.{Txn}
use Rattle.hc_core.specs.declared.account.Entry.{Entry}
use Rattle.hc_base.specs.declared.tid_word.TidWord.{TidWord}
use Rattle.hc_rule.specs.declared.view.Role.{Role}
use Rattle.hc_rule.specs.declared.view.Role.TheVariants.{Connection}
use Rattle.hc_rule.specs.declared.view.Told.{Told}
use Rattle.hc_rule.specs.declared.view.SeenWord.{SeenWord}
use Rattle.hc_rule.specs.declared.view.SeenPlace.{SeenPlace}
use Rattle.hc_rule.specs.Views.{Knowledge}
use Rattle.hc_rule.specs.Accounts.{AreAccounts, HasBegun}
use Rattle.hc_rule.specs.Stages.{IsStage, AreStaged}
use Rattle.hc_base.specs.Words.{IsSeatWord, seat_word}
use Rattle.hc_rule.specs.TidWords.{AreOwn, IsOpenId, open_id}
use Rattle.hc_rule.specs.Seen.{AreSeen, IsSeenWord, IsSeenPlace}
use Rattle.hc_rule.specs.Recorded.{IsRecorded, txns_of}

-- what is of a connection's own is as it was
pub record IsSameOwn (k was : Knowledge) : Type 0 where
  pub account : k.account ≡ was.account
  pub stage : k.stage ≡ was.stage
  pub own : k.own ≡ was.own
  pub word : k.word ≡ was.word

-- what else a seat knows is true
pub record IsTrue (size : ℕ) (log : ℕ → ℕ) (account : ℕ → List Entry) (form : ℕ → TidWord) (k : Knowledge) : Type 0 where
  pub told : (x : Told) → Among x k.told → HasBegun account x
  pub within : k.seen ≤ size
  pub words : (x : SeenWord) → Among x k.words → IsSeenWord size form (txns_of account) x
  pub places : (x : SeenPlace) → Among x k.places → IsSeenPlace log x

module _ (role : ℕ → Role) (know : ℕ → Knowledge) (i : ℕ) (k : Knowledge) where
  pub accounts_learned : (account : ℕ → List Entry) → ((conn : ℕ) → role i ≡ Connection conn → k.account ≡ (know i).account) → ((x : Told) → Among x k.told → HasBegun account x)
      → AreAccounts role know account → AreAccounts role (but know i k) account
  accounts_learned account same told h = record {
    own = λ j conn. each_but know i k (λ n q. role n ≡ Connection conn → q.account ≡ account conn) (λ is. same conn is ∙ h.own i conn is) (λ n differ is. h.own n conn is) j;
    told = λ j x. each_but know i k (λ n q. Among x q.told → HasBegun account x) (told x) (λ n differ there. h.told n x there) j;
    none = h.none;
    entries = h.entries;
  }

  pub staged_learned : (word : ℕ → ℕ) (of : ℕ → List Txn) → ((conn : ℕ) → role i ≡ Connection conn → k.stage ≡ (know i).stage) → AreStaged word role know of → AreStaged word role (but know i k) of
  staged_learned word of same h = record {
    word = λ j conn. each_but know i k (λ n q. role n ≡ Connection conn → word conn ≡ seat_word q.stage) (λ is. h.word i conn is ∙ ap seat_word (sym (same conn is))) (λ n differ is. h.word n conn is) j;
    form = λ j conn. each_but know i k (λ n q. role n ≡ Connection conn → IsSeatWord q.stage) (λ is. subst IsSeatWord (sym (same conn is)) (h.form i conn is)) (λ n differ is. h.form n conn is) j;
    stage = λ j conn. each_but know i k (λ n q. role n ≡ Connection conn → IsStage q.stage (of conn)) (λ is. subst (λ s. IsStage s (of conn)) (sym (same conn is)) (h.stage i conn is)) (λ n differ is. h.stage n conn is) j;
    none = h.none;
  }

  pub own_learned : (form : ℕ → TidWord) (of : ℕ → List Txn) → ((conn : ℕ) → role i ≡ Connection conn → (k.own ≡ (know i).own) × (k.word ≡ (know i).word)) → AreOwn role know form of → AreOwn role (but know i k) form of
  own_learned form of same h = record {
    id = λ j conn. each_but know i k (λ n q. role n ≡ Connection conn → IsOpenId (open_id (of conn)) q.own) (λ is. subst (λ o. IsOpenId (open_id (of conn)) o) (sym (same conn is).0) (h.id i conn is)) (λ n differ is. h.id n conn is) j;
    word = λ j conn. each_but know i k (λ n q. role n ≡ Connection conn → form (open_id (of conn)) ≡ q.word) (λ is. h.word i conn is ∙ sym (same conn is).1) (λ n differ is. h.word n conn is) j;
  }

  pub seen_learned : (log : ℕ → ℕ) (size : ℕ) (account : ℕ → List Entry) (form : ℕ → TidWord) → IsTrue size log account form k → AreSeen log size form (txns_of account) know → AreSeen log size form (txns_of account) (but know i k)
  seen_learned log size account form true_k h = record {
    within = each_but know i k (λ n q. q.seen ≤ size) true_k.within (λ n differ. h.within n);
    words = λ j x. each_but know i k (λ n q. Among x q.words → IsSeenWord size form (txns_of account) x) (true_k.words x) (λ n differ there. h.words n x there) j;
    places = λ j x. each_but know i k (λ n q. Among x q.places → IsSeenPlace log x) (true_k.places x) (λ n differ there. h.places n x there) j;
  }

-- a seat learns what is true
pub recorded_learned : (last : ℕ) (seat tid log : ℕ → ℕ) (role : ℕ → Role) (know : ℕ → Knowledge) (h : IsRecorded last seat tid log role know) (i : ℕ) (k : Knowledge)
    → ((conn : ℕ) → role i ≡ Connection conn → IsSameOwn k (know i)) → IsTrue h.size log h.account h.form k
    → IsRecorded last seat tid log role (but know i k)
recorded_learned last seat tid log role know h i k same true_k = record {
  size = h.size;
  drawn = h.drawn;
  account = h.account;
  form = h.form;
  accounts = accounts_learned role know i k h.account (λ conn is. (same conn is).account) true_k.told h.accounts;
  logged = h.logged;
  staged = staged_learned role know i k seat (txns_of h.account) (λ conn is. (same conn is).stage) h.staged;
  worded = h.worded;
  own = own_learned role know i k h.form (txns_of h.account) (λ conn is. ((same conn is).own, (same conn is).word)) h.own;
  seen = seen_learned role know i k log h.size h.account h.form true_k h.seen;
}
