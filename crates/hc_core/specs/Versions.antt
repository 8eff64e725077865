-- What is under a key: the versions that transactions put, and which of them a snapshot sees or a put
-- and a check meet. All is said of the transactions by connection, `of`, and so of any machine that has them.
use Rattle.std.specs.Prelude.{◌≡◌, ◌≢◌, ℕ, ◌<◌, ◌≤◌, Option, Some, List, [], ◌∷◌, ◌⊎◌, ◌↔◌}
use Rattle.hc_range.specs.declared.range.Range.{Range}
use Rattle.hc_range.specs.Order.{IsBelow, IsAtMost}
use Rattle.hc_range.specs.Ranges.{InRange}
use Rattle.hc_base.specs.Lookup.{Among}
use Rattle.hc_core.specs.Account.{Txn, HasWritten, HasWrittenAs}
use Rattle.hc_core.specs.declared.cells.Cell.{Cell}

-- the transaction with commit number c put key to rec
abbrev pub PutAt : (ℕ → List Txn) → ℕ → List ℕ → Option (List ℕ) → Type 0
PutAt of c key rec = (i : ℕ) × (t : Txn) × Among t (of i) × (t.place ≡ c) × (c ≢ 0) × HasWrittenAs t key rec

-- after k commits key has rec: the newest commit that put it put rec, where rec may be a tombstone
abbrev pub HasAfter : (ℕ → List Txn) → ℕ → List ℕ → Option (List ℕ) → Type 0
HasAfter of k key rec = (c : ℕ) × (c ≤ k) × PutAt of c key rec
    × ((d : ℕ) (other : Option (List ℕ)) → c < d → d ≤ k → PutAt of d key other → ⊥)

-- cells are in ascending order of keys, each key once
abbrev pub IsBelowEach : List ℕ → List Cell → Type 0
IsBelowEach key [] = Unit {0}
IsBelowEach key (cell ∷ cells) = IsBelow key cell.key × IsBelowEach key cells

abbrev pub AreAscending : List Cell → Type 0
AreAscending [] = Unit {0}
AreAscending (cell ∷ cells) = IsBelowEach cell.key cells × AreAscending cells

-- the cells of a part after k commits: in order, and exactly the keys of the part that have a record
pub record AreCellsAfter (of : ℕ → List Txn) (k : ℕ) (part : Range) (cells : List Cell) : Type 0 where
  pub ascending : AreAscending cells
  pub exact : (key rec : List ℕ) → Among (record { key = key; rec = rec }) cells ↔ (InRange part key × HasAfter of k key (Some rec))

-- transactions are newest first: an undecided one before all others, and then from the greatest commit number down
abbrev pub IsNewerThanEach : Txn → List Txn → Type 0
IsNewerThanEach t [] = Unit {0}
IsNewerThanEach t (u ∷ us) = ((u.place ≢ 0) × ((t.place ≡ 0) ⊎ (u.place < t.place))) × IsNewerThanEach t us

abbrev pub AreNewestFirst : List Txn → Type 0
AreNewestFirst [] = Unit {0}
AreNewestFirst (t ∷ ts) = IsNewerThanEach t ts × AreNewestFirst ts

-- the versions of a key: exactly the transactions in which it is in the write set, the newest first
pub record AreVersions (of : ℕ → List Txn) (key : List ℕ) (versions : List Txn) : Type 0 where
  pub exact : (t : Txn) → Among t versions ↔ ((i : ℕ) × Among t (of i) × HasWritten t key)
  pub ordered : AreNewestFirst versions

-- transaction t of connection i has the first version of a key: it is undecided, or no undecided one has
-- the key and no greater commit put it
abbrev pub IsLatestVersion : (ℕ → List Txn) → List ℕ → ℕ → Txn → Type 0
IsLatestVersion of key i t = Among t (of i) × HasWritten t key
    × ((t.place ≡ 0) ⊎ ((t.place ≢ 0)
    × ((j : ℕ) (u : Txn) → Among u (of j) → HasWritten u key → (u.place ≢ 0) × (u.place ≤ t.place))))

-- what a put of a key by a transaction of connection i with this snapshot meets: the first version is
-- another's and undecided, or was committed above the snapshot
abbrev pub IsInTheWay : (ℕ → List Txn) → ℕ → ℕ → List ℕ → ℕ → Txn → Type 0
IsInTheWay of i snapshot key j u = IsLatestVersion of key j u
    × (((u.place ≡ 0) × (j ≢ i)) ⊎ (snapshot < u.place))

-- transaction u of connection j committed a put of a key above a snapshot and below a commit number
abbrev pub IsBetween : (ℕ → List Txn) → ℕ → ℕ → List ℕ → ℕ → Txn → Type 0
IsBetween of snapshot number key j u = Among u (of j) × (snapshot < u.place) × (u.place < number) × HasWritten u key

-- what a check of a part finds: the least key of the part that a commit between put, and the newest such commit
pub record IsFound (of : ℕ → List Txn) (snapshot number : ℕ) (part : Range) (key : List ℕ) (j : ℕ) (u : Txn) : Type 0 where
  pub between : IsBetween of snapshot number key j u
  pub inside : InRange part key
  pub least : (other : List ℕ) (k : ℕ) (v : Txn) → InRange part other → IsBetween of snapshot number other k v → IsAtMost key other
  pub newest : (k : ℕ) (v : Txn) → IsBetween of snapshot number key k v → v.place ≤ u.place
