-- One machine: the accounts of all connections with the words of the log, as a machine of `hc_core`.
use Rattle.std.specs.Prelude.{◌≡◌, ◌≢◌, ℕ, ◌+◌, ◌<◌, List, length, slice_index}
use Rattle.hc_base.specs.Lookup.{Among}
use Rattle.hc_core.specs.Machine.{Machine, account_of}
use Rattle.hc_rows.specs.declared.layout.Layout.{Layout}
use Rattle.hc_rows.specs.Regions.{log_words}
use Rattle.hc_rule.specs.declared.view.View.{View}
use Rattle.hc_rule.specs.declared.view.Told.{Told}
use Rattle.hc_rule.specs.declared.view.Role.TheVariants.{Connection}
use Rattle.hc_rule.specs.Views.{known, knowledge_of}
use Rattle.hc_rule.specs.Accounts.{HasBegun}

-- Its log is the words of commit numbers up to the first empty one. Its accounts are those of the seats, of which others
-- were told beginnings, for so many connections.
pub record IsMachineOf (y : Layout) (words : List ℕ) (views : List View) (n : ℕ) (m : Machine) : Type 0 where
  pub log : (c : ℕ) → c < length m.log → (slice_index m.log c ≡ log_words y words (c + 1)) × (log_words y words (c + 1) ≢ 0)
  pub ends : log_words y words (length m.log + 1) ≡ 0
  pub conns : length m.accounts ≡ n
  pub accounts : (i conn : ℕ) → known (λ v. v.role) views i ≡ Connection conn → account_of m conn ≡ (known knowledge_of views i).account
  pub told : (i : ℕ) (x : Told) → Among x (known knowledge_of views i).told → HasBegun (account_of m) x
