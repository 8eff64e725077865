-- What a transaction keeps of each key that it has written, in ascending order of keys.
use Rattle.std.specs.Prelude.{◌≡◌, ℕ, true, cond, Option, Some, None, List, [], ◌∷◌}
use Rattle.std.specs.Str.{bytes_eq}
use Rattle.hc_range.specs.Order.{is_below}
use Rattle.hc_core.specs.declared.cells.Write.{Write}

-- the record that the snapshot has at a key, and what the transaction's own writes have put there, if one stands
pub record Known : Type 0 where
  pub key : List ℕ
  pub before : Option (List ℕ)
  pub now : Option (Option (List ℕ))

-- what is known of a key
abbrev pub find_known : List ℕ → List Known → Option Known
find_known key [] = None
find_known key (k ∷ ks) = cond (bytes_eq k.key key) (Some k) (find_known key ks)

-- one more key, in its place
abbrev pub with_known : Known → List Known → List Known
with_known new [] = new ∷ []
with_known new (k ∷ ks) = cond (is_below new.key k.key) (new ∷ k ∷ ks) (cond (is_below k.key new.key) (k ∷ with_known new ks) (new ∷ ks))

-- with another own write at a key
abbrev pub with_now : List ℕ → Option (Option (List ℕ)) → List Known → List Known
with_now key now [] = []
with_now key now (k ∷ ks) = cond (bytes_eq k.key key) (record k { now = now } ∷ ks) (k ∷ with_now key now ks)

-- the own write that is known, if any is
abbrev pub own_of : Option Known → Option (Option (List ℕ))
own_of None = None
own_of (Some k) = k.now

-- the own write that stands at a key
abbrev pub now_at : List Known → List ℕ → Option (Option (List ℕ))
now_at ks key = own_of (find_known key ks)

-- the keys with the snapshot's records
abbrev pub records_before : List Known → List Write
records_before [] = []
records_before (k ∷ ks) = record { key = k.key; rec = k.before } ∷ records_before ks

-- the keys are in ascending order, each once
abbrev pub AreAbove : List ℕ → List Known → Type 0
AreAbove key [] = Unit {0}
AreAbove key (k ∷ ks) = (is_below key k.key ≡ true) × AreAbove key ks

abbrev pub AreOrdered : List Known → Type 0
AreOrdered [] = Unit {0}
AreOrdered (k ∷ ks) = AreAbove k.key ks × AreOrdered ks
