-- What is asked of a log and accounts besides that they are sound: how the setup comes first, and what is true of a
-- commit that found something used up.
use Rattle.std.specs.Prelude.{◌≡◌, ◌≢◌, ℕ, zero, suc, ◌+◌, ◌<◌, ◌≤◌, Option, Some, None, List, [], ◌∷◌}
use Rattle.hc_base.specs.declared.full.Full.{Full}
use Rattle.hc_base.specs.declared.full.Full.TheVariants.{Pages, Numbers, Transactions}
use Rattle.hc_core.specs.Account.{Txn}
use Rattle.hc_base.specs.Lookup.{Among}

-- The setup, which is connection 0, has run to its end before all else.
pub record SetupIsFirst (size : ℕ) (of : ℕ → List Txn) : Type 0 where
  -- how many commits it made
  pub setup : ℕ
  pub within : setup ≤ size
  -- its commits are the first,
  pub first : (t : Txn) → Among t (of 0) → t.place ≤ setup
  -- and every snapshot of another connection counts them all
  pub counted : (i : ℕ) (t : Txn) → i ≢ 0 → Among t (of i) → setup ≤ t.snapshot

-- the weight of what one transaction made room for, if it has drawn an id
abbrev pub weight_drawn : ℕ → Option ℕ → ℕ
weight_drawn zero weight = 0
weight_drawn (suc id) None = 0
weight_drawn (suc id) (Some weight) = weight

abbrev pub weight_of_each : List Txn → ℕ
weight_of_each [] = 0
weight_of_each (t ∷ ts) = weight_drawn t.id t.weight + weight_of_each ts

-- what these connections made room for
abbrev pub weight_of_conns : (ℕ → List Txn) → List ℕ → ℕ
weight_of_conns of [] = 0
weight_of_conns of (i ∷ conns) = weight_of_each (of i) + weight_of_conns of conns

-- What a transaction found used up is true: the ids up to that number were drawn, and not by itself; or pages or
-- numbers, the first two of which are there from the start, and of which each other one was in the room of some
-- transaction.
abbrev pub IsTrueFull : (ℕ → List Txn) → List ℕ → Txn → Full → Type 0
IsTrueFull of conns x (Transactions n) = (x.id ≡ 0)
    × ((id : ℕ) → 0 < id → id ≤ n → (i : ℕ) × (t : Txn) × Among t (of i) × (t.id ≡ id))
IsTrueFull of conns x (Numbers n) = n ≤ 2 + weight_of_conns of conns
IsTrueFull of conns x (Pages n floor) = (n ≤ 2 + weight_of_conns of conns) × (floor.0 ≤ x.snapshot)

abbrev pub FullsAreTrue : (ℕ → List Txn) → List ℕ → Type 0
FullsAreTrue of conns = (i : ℕ) (x : Txn) → Among x (of i) → (full : Full) → x.full ≡ Some full → IsTrueFull of conns x full
