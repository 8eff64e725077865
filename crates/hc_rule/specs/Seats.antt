-- Seats: whose they are. One seat deals, and each connection has one at most.
use Rattle.std.specs.Prelude.{◌≡◌, ◌<◌, ℕ}
use Rattle.hc_rule.specs.declared.view.Role.{Role}
use Rattle.hc_rule.specs.declared.view.Role.TheVariants.{Dealer, Connection}

pub record IsDealt (seats : ℕ) (role : ℕ → Role) : Type 0 where
  pub one_dealer : (i j m n : ℕ) → role i ≡ Dealer m → role j ≡ Dealer n → i ≡ j
  pub dealt : (i j n conn : ℕ) → role i ≡ Dealer n → role j ≡ Connection conn → conn < n
  pub one_seat : (i j conn : ℕ) → role i ≡ Connection conn → role j ≡ Connection conn → i ≡ j
  pub there : (i conn : ℕ) → role i ≡ Connection conn → conn < seats
