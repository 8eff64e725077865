-- The net writes of a transaction: the keys at which what it sees differs from its snapshot.
use Rattle.std.specs.Prelude.{◌≡◌, ◌≢◌, ℕ, Bool, true, false, cond, Option, Some, None, List, [], ◌∷◌, ◌↔◌}
use Rattle.std.specs.Str.{bytes_eq}
use Rattle.hc_core.specs.Desk.{AreAscendingWrites, EachFits}
use Rattle.hc_base.specs.Lookup.{Among}
use Rattle.hc_core.specs.declared.cells.Write.{Write}
use Rattle.hc_txn.specs.Kept.{Known}
use Rattle.hc_txn.specs.Stores.{Store, latest, over}

-- whether two records are the same, or are both none
abbrev pub same_record : Option (List ℕ) → Option (List ℕ) → Bool
same_record None None = true
same_record None (Some b) = false
same_record (Some a) None = false
same_record (Some a) (Some b) = bytes_eq a b

-- the own writes that stand and put another record than the snapshot's, in the order of the keys
abbrev pub with_net : List ℕ → Option (List ℕ) → Option (Option (List ℕ)) → List Write → List Write
with_net key before None rest = rest
with_net key before (Some rec) rest = cond (same_record before rec) rest (record { key = key; rec = rec } ∷ rest)

abbrev pub net : List Known → List Write
net [] = []
net (k ∷ ks) = with_net k.key k.before k.now (net ks)

-- writes are exactly what a store with own writes over it has where it differs from the store
abbrev pub AreNetWrites : List Write → Store → List Write → Type 0
AreNetWrites own store writes = (key : List ℕ) (rec : Option (List ℕ)) → Among (record { key = key; rec = rec }) writes ↔ ((over own store key ≡ rec) × (rec ≢ store key))

-- Writes in ascending order of keys, each within the limit of an entry, are the newest own writes of keys whose kept record is
-- another; and each own write that is the newest of its key is among them, where each record that is kept of the key is
-- another.
pub record IsNetOf (own kept writes : List Write) : Type 0 where
  pub ascending : AreAscendingWrites writes
  pub fit : EachFits writes
  pub sound : (key : List ℕ) (rec : Option (List ℕ)) → Among (record { key = key; rec = rec }) writes
      → (before : Option (List ℕ)) × Among (record { key = key; rec = before }) kept × (latest own key ≡ Some rec) × (before ≢ rec)
  pub complete : (key : List ℕ) (rec : Option (List ℕ)) → latest own key ≡ Some rec
      → ((before : Option (List ℕ)) → Among (record { key = key; rec = before }) kept → before ≢ rec)
      → Among (record { key = key; rec = rec }) writes
