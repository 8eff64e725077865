-- Roles are told apart.
use Rattle.std.proofs.Common.{◌≡◌, sym, ap, subst, ℕ}
use Rattle.hc_rule.specs.declared.view.Role.{Role}
use Rattle.hc_rule.specs.declared.view.Role.TheVariants.{Dealer, Connection, Nobody}

-- the number of a role, where it has one
abbrev pub number_of : Role → ℕ
number_of (Dealer n) = n
number_of (Connection n) = n
number_of Nobody = 0

abbrev IsConnection : Role → Type 0
IsConnection (Dealer n) = ⊥
IsConnection (Connection n) = Unit {0}
IsConnection Nobody = ⊥

abbrev IsDealer : Role → Type 0
IsDealer (Dealer n) = Unit {0}
IsDealer (Connection n) = ⊥
IsDealer Nobody = ⊥

pub not_both : (m n : ℕ) → Dealer m ≡ Connection n → ⊥
not_both m n same = subst IsDealer same tt

pub not_nobody : (n : ℕ) → Nobody ≡ Connection n → ⊥
not_nobody n same = subst IsConnection (sym same) tt

pub no_dealer : (n : ℕ) → Nobody ≡ Dealer n → ⊥
no_dealer n same = subst IsDealer (sym same) tt

pub same_number : (m n : ℕ) → Connection m ≡ Connection n → m ≡ n
same_number m n same = ap number_of same
