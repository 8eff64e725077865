-- Accounts and the log: the words of connections, ids and commit numbers are those of one sound machine, whose accounts are
-- those that the seats know.
use Rattle.std.specs.Prelude.{ℕ, List}
use Rattle.hc_base.specs.declared.tid_word.TidWord.{TidWord}
use Rattle.hc_core.specs.Account.{Txn, txns}
use Rattle.hc_core.specs.declared.account.Entry.{Entry}
use Rattle.hc_rule.specs.declared.view.Role.{Role}
use Rattle.hc_rule.specs.Views.{Knowledge}
use Rattle.hc_rule.specs.Accounts.{AreAccounts}
use Rattle.hc_rule.specs.CommitLog.{IsLogged}
use Rattle.hc_rule.specs.Stages.{AreStaged}
use Rattle.hc_rule.specs.TidWords.{AreWorded, AreOwn}
use Rattle.hc_rule.specs.Seen.{AreSeen}

-- the transactions of each connection, newest first
abbrev pub txns_of : (ℕ → List Entry) → ℕ → List Txn
txns_of account conn = txns (account conn)

-- there are ids up to `last`; `seat`, `tid` and `log` have the words. Sizes, accounts and forms are the rule's own: each
-- step gives the new ones.
pub record IsRecorded (last : ℕ) (seat tid log : ℕ → ℕ) (role : ℕ → Role) (know : ℕ → Knowledge) : Type 0 where
  pub size : ℕ
  pub drawn : ℕ
  pub account : ℕ → List Entry
  pub form : ℕ → TidWord
  pub accounts : AreAccounts role know account
  pub logged : IsLogged last log size drawn (txns_of account)
  pub staged : AreStaged seat role know (txns_of account)
  pub worded : AreWorded tid form drawn (txns_of account)
  pub own : AreOwn role know form (txns_of account)
  pub seen : AreSeen log size form (txns_of account) know
