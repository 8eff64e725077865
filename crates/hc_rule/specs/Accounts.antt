-- Accounts: what happened to each connection, of which its own seat knows all, and other seats what they were told.
use Rattle.std.specs.Prelude.{◌≡◌, ℕ, ◌≤◌, List, [], ◌++◌}
use Rattle.hc_base.specs.Lookup.{Among}
use Rattle.hc_core.specs.Account.{AreOf}
use Rattle.hc_core.specs.declared.account.Entry.{Entry}
use Rattle.hc_rule.specs.declared.view.Role.{Role}
use Rattle.hc_rule.specs.declared.view.Role.TheVariants.{Dealer, Connection}
use Rattle.hc_rule.specs.declared.view.Told.{Told}
use Rattle.hc_rule.specs.Views.{Knowledge}

-- the account, newest first, was once what a seat was told, and grew since
abbrev pub HasBegun : (ℕ → List Entry) → Told → Type 0
HasBegun account x = (since : List Entry) × (account x.conn ≡ since ++ x.account.entries)

-- `account` is that of each connection
pub record AreAccounts (role : ℕ → Role) (know : ℕ → Knowledge) (account : ℕ → List Entry) : Type 0 where
  pub own : (i conn : ℕ) → role i ≡ Connection conn → (know i).account ≡ account conn
  pub told : (i : ℕ) (x : Told) → Among x (know i).told → HasBegun account x
  -- a connection that has no seat yet has done nothing
  pub none : (i n conn : ℕ) → role i ≡ Dealer n → n ≤ conn → account conn ≡ []
  pub entries : (conn : ℕ) → AreOf conn (account conn)
