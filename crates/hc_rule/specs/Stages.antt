-- Stages: what the word of a connection says of its transaction.
use Rattle.std.specs.Prelude.{◌≡◌, ◌⊎◌, ℕ, ◌≤◌, List}
use Rattle.hc_base.specs.Words.{IsSeatWord, seat_word}
use Rattle.hc_base.specs.declared.seat_word.SeatWord.{SeatWord}
use Rattle.hc_base.specs.declared.seat_word.SeatWord.TheVariants as seat
use Rattle.hc_core.specs.Account.{Txn, IsIdle, WhenOpen, begun_at}
use Rattle.hc_rule.specs.declared.view.Role.{Role}
use Rattle.hc_rule.specs.declared.view.Role.TheVariants.{Dealer, Connection}
use Rattle.hc_rule.specs.Views.{Knowledge}

-- While it is starting, a transaction is open at most from the load that found its snapshot to the store of it, and has done
-- nothing but begun.
abbrev pub IsStage : SeatWord → List Txn → Type 0
IsStage seat.Idle ts = IsIdle ts
IsStage seat.Starting ts = IsIdle ts ⊎ WhenOpen ts (λ t. t ≡ begun_at t.snapshot)
IsStage (seat.Snapshot snapshot) ts = WhenOpen ts (λ t. t.snapshot ≡ snapshot.0)

-- `words` has the words of connections
pub record AreStaged (words : ℕ → ℕ) (role : ℕ → Role) (know : ℕ → Knowledge) (of : ℕ → List Txn) : Type 0 where
  pub word : (i conn : ℕ) → role i ≡ Connection conn → words conn ≡ seat_word (know i).stage
  pub form : (i conn : ℕ) → role i ≡ Connection conn → IsSeatWord (know i).stage
  pub stage : (i conn : ℕ) → role i ≡ Connection conn → IsStage (know i).stage (of conn)
  pub none : (i n conn : ℕ) → role i ≡ Dealer n → n ≤ conn → words conn ≡ 0
