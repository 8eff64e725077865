-- What the machine keeps of a connection at run time, and how it agrees with the connection's account.
use Rattle.std.specs.Prelude.{◌≡◌, ◌≢◌, ℕ, ◌≤◌, length, Bool, false, max, Option, Some, None, List, [], ◌∷◌, ◌↔◌}
use Rattle.hc_core.specs.Keys.{IsShortKey}
use Rattle.std.specs.Str.{bytes_eq}
use Rattle.std.specs.List.{list_any}
use Rattle.hc_range.specs.Ranges.{InAny}
use Rattle.hc_base.specs.Lookup.{Among}
use Rattle.hc_core.specs.Account.{Txn, HasRead, IsIdle, WhenOpen}
use Rattle.hc_core.specs.WriteSet.{HasAllOf}
use Rattle.hc_core.specs.declared.cells.Write.{Write}
use Rattle.hc_core.specs.declared.running.Running.{Running}

-- two lists have the same writes, in whatever order
abbrev pub HaveSameWrites : List Write → List Write → Type 0
HaveSameWrites writes others = (w : Write) → Among w writes ↔ Among w others

-- what is kept of an open transaction is what its account shows: the numbers, the keys that it read, the keys
-- that were checked for its proposal, unless it is a desk's, and, until it is decided, what is in the write set and the
-- writes for which it has room; these have short keys, and there are none before an id is drawn
pub record Matches (r : Running) (t : Txn) : Type 0 where
  pub id : r.tid ≡ t.id
  pub unweighed : t.id ≡ 0 → t.weight ≡ None
  pub ord : r.ord ≡ t.ord
  pub snapshot : r.snapshot ≡ t.snapshot
  pub proposed : r.proposed ≡ t.proposed
  pub place : r.place ≡ t.place
  pub reads : (key : List ℕ) → InAny r.reads key ↔ HasRead t key
  pub checked : t.weight ≡ None → (key : List ℕ) → InAny r.checked key ↔ InAny t.checked key
  pub writes : t.place ≡ 0 → HaveSameWrites r.writes.put t.write_set
  pub reserved : t.place ≡ 0 → HasAllOf t.reserved r.writes.all
  pub short : (w : Write) → Among w t.reserved → IsShortKey w.key

-- what is kept of a connection's open transaction, if it has one
abbrev pub IsOpenIn : Option Running → List Txn → Type 0
IsOpenIn None ts = IsIdle ts
IsOpenIn (Some r) ts = WhenOpen ts (Matches r)

-- the greatest ordinal, or 0
abbrev pub greatest_ord : List Txn → ℕ
greatest_ord [] = 0
greatest_ord (t ∷ ts) = max t.ord (greatest_ord ts)

-- whether a key is among writes
abbrev pub holds_key : List ℕ → List Write → Bool
holds_key key writes = list_any (λ w. bytes_eq w.key key) writes

-- it proposes a number and is not decided, and each key that was read was checked for that number
abbrev pub MayDecide : Running → Type 0
MayDecide r = (r.proposed ≢ 0) × (r.place ≡ 0) × ((key : List ℕ) → InAny r.reads key → InAny r.checked key)

-- an id is drawn, it is not decided, nothing is proposed, and the key is not in the write set
abbrev pub MayPut : Running → List ℕ → Type 0
MayPut r key = (r.tid ≢ 0) × (r.place ≡ 0) × (r.proposed ≡ 0) × (holds_key key r.writes.put ≡ false)
