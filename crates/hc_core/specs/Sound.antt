-- When a machine is sound. All is said of the log, as its size and a function, where `log c` is the id of the
-- transaction with commit number c + 1, and of the transactions by connection, newest first, so that it can be
-- said of any machine that has them.
use Rattle.std.specs.Prelude.{◌≡◌, ◌≢◌, ℕ, ◌+◌, ◌<◌, ◌≤◌, Bool, true, Option, List, [], ◌∷◌, ◌⊎◌, length, slice_index}
use Rattle.hc_range.specs.declared.range.Range.{Range}
use Rattle.hc_range.specs.Ranges.{InRange}
use Rattle.hc_base.specs.Lookup.{Among}
use Rattle.hc_core.specs.Account.{AreOf, Txn, PartRead, PartChecked, Refusal, HoldsKey, HasWritten, LiesInRead, IsPart, IsAskedFor}
use Rattle.hc_core.specs.Versions.{PutAt, AreCellsAfter}
use Rattle.hc_core.specs.Machine.{Machine, account_of, txns_of}
use Rattle.hc_core.specs.declared.cells.Write.{Write}

-- no commit above a snapshot and below a number put the key
abbrev pub NonePutBetween : (ℕ → List Txn) → ℕ → ℕ → List ℕ → Type 0
NonePutBetween of snapshot number key = (c : ℕ) (rec : Option (List ℕ)) → snapshot < c → c < number → PutAt of c key rec → ⊥

-- a key is not among the writes
abbrev pub IsAbsent : List ℕ → List Write → Type 0
IsAbsent key [] = Unit {0}
IsAbsent key (w ∷ ws) = (w.key ≢ key) × IsAbsent key ws

-- each key is once among the writes
abbrev pub HasEachOnce : List Write → Type 0
HasEachOnce [] = Unit {0}
HasEachOnce (w ∷ ws) = IsAbsent w.key ws × HasEachOnce ws

-- a refusal of a transaction of connection i with this snapshot names a transaction of another connection
-- that put a key which was asked for; where that one is committed, it is above the snapshot, and after a check it is
-- committed
abbrev pub NamesWriter : (ℕ → List Txn) → ℕ → ℕ → Refusal → Type 0
NamesWriter of i snapshot r = (j : ℕ) × (u : Txn) × Among u (of j) × (j ≢ i)
    × (r.met.conn ≡ j) × (r.met.tid.0 ≡ u.id) × (r.met.ord ≡ u.ord) × HoldsKey u.puts r.met.key
    × (u.place ≢ 0 → snapshot < u.place) × (IsPart r.asked → u.place ≢ 0) × IsAskedFor r.asked r.met.key

-- The numbers of a transaction, where the log has `size` entries.
pub record NumbersAreSound (size id snapshot proposed place : ℕ) : Type 0 where
  pub snapshot_within : snapshot ≤ size
  -- only one that has drawn an id proposes or commits
  pub undrawn : id ≡ 0 → (place ≡ 0) × (proposed ≡ 0)
  -- its commit number is above its snapshot, and in the log
  pub place_within : place ≢ 0 → (snapshot < place) × (place ≤ size)
  -- a proposed number is at most the next one
  pub proposed_within : proposed ≤ size + 1
  -- once it is decided, that number is its commit number
  pub chosen : place ≢ 0 → proposed ≡ place

-- Its write set, and all that it ever put.
pub record WritesAreSound (id place : ℕ) (ended : Bool) (write_set puts : List Write) : Type 0 where
  -- only one that has drawn an id puts
  pub undrawn : id ≡ 0 → (write_set ≡ []) × (puts ≡ [])
  -- where it was rolled back, its write set is empty
  pub rolled_back : ended ≡ true → place ≡ 0 → write_set ≡ []
  pub once : HasEachOnce write_set
  -- what is in the write set was put, with the same record
  pub listed : (w : Write) → Among w write_set → Among w puts

-- While it is undecided, it alone has the keys of its write set.
pub record HoldsAlone (of : ℕ → List Txn) (i snapshot place : ℕ) (write_set : List Write) : Type 0 where
  -- no undecided transaction of another connection has such a key in its write set
  pub alone : place ≡ 0 → (j : ℕ) (u : Txn) (key : List ℕ) → Among u (of j) → u.place ≡ 0 → HoldsKey write_set key → HasWritten u key → j ≡ i
  -- and no commit above its snapshot put that key
  pub newest : place ≡ 0 → (j : ℕ) (u : Txn) (key : List ℕ) → Among u (of j) → HoldsKey write_set key → HasWritten u key → u.place ≤ snapshot

-- Each part read has the cells of the snapshot.
abbrev pub AreSnapshotReads : (ℕ → List Txn) → ℕ → List PartRead → Type 0
AreSnapshotReads of snapshot reads = (read : PartRead) → Among read reads → AreCellsAfter of snapshot read.part read.cells

-- What its checks found.
pub record ChecksAreSound (of : ℕ → List Txn) (size snapshot proposed : ℕ) (checked : List Range) (unchanged : List PartChecked) : Type 0 where
  -- no commit between its snapshot and the proposed number put a key of a part that was checked for it
  pub current : (part : Range) → Among part checked → (key : List ℕ) → InRange part key → NonePutBetween of snapshot proposed key
  -- and so it is for each part that a check ever found unchanged, below the number that was proposed then
  pub ever : (found : PartChecked) → Among found unchanged → (found.number ≤ size + 1)
      × ((key : List ℕ) → InRange found.part key → NonePutBetween of snapshot found.number key)

-- The first committer wins: no commit between its snapshot and its place put a key that it read or put.
abbrev pub IsFirstCommitter : (ℕ → List Txn) → ℕ → ℕ → List PartRead → List Write → Type 0
IsFirstCommitter of snapshot place reads write_set =
    place ≢ 0 → (key : List ℕ) → LiesInRead reads key ⊎ HoldsKey write_set key → NonePutBetween of snapshot place key

-- Each refusal names a transaction of another connection.
abbrev pub RefusalsAreTrue : (ℕ → List Txn) → ℕ → ℕ → List Refusal → Type 0
RefusalsAreTrue of i snapshot refusals = (r : Refusal) → Among r refusals → NamesWriter of i snapshot r

-- What holds of a transaction t of connection i, where the log has `size` entries: a part for each group of its
-- fields, so that a change keeps the parts that do not speak of what it changes.
pub record TxnIsSound (size : ℕ) (of : ℕ → List Txn) (i : ℕ) (t : Txn) : Type 0 where
  pub numbers : NumbersAreSound size t.id t.snapshot t.proposed t.place
  pub writes : WritesAreSound t.id t.place t.ended t.write_set t.puts
  pub holds : HoldsAlone of i t.snapshot t.place t.write_set
  pub reads : AreSnapshotReads of t.snapshot t.reads
  pub checks : ChecksAreSound of size t.snapshot t.proposed t.checked t.unchanged
  pub first : IsFirstCommitter of t.snapshot t.place t.reads t.write_set
  pub refusals : RefusalsAreTrue of i t.snapshot t.refusals

-- A transaction comes after an older one of its connection: that one has ended; once this one draws, its id is
-- another and its ordinal is above that one's; and its snapshot is not below that one's snapshot and commit number.
pub record ComesAfter (t older : Txn) : Type 0 where
  pub ended : older.ended ≡ true
  pub id : t.id ≢ 0 → older.id ≢ t.id
  pub ord : t.id ≢ 0 → older.ord < t.ord
  pub snapshot : older.snapshot ≤ t.snapshot
  pub place : older.place ≤ t.snapshot

abbrev pub ComesAfterEach : Txn → List Txn → Type 0
ComesAfterEach t [] = Unit {0}
ComesAfterEach t (u ∷ us) = ComesAfter t u × ComesAfterEach t us

abbrev pub AreInOrder : List Txn → Type 0
AreInOrder [] = Unit {0}
AreInOrder (t ∷ ts) = ComesAfterEach t ts × AreInOrder ts

-- the log and the transactions are sound
pub record AreSound (size : ℕ) (log : ℕ → ℕ) (of : ℕ → List Txn) : Type 0 where
  -- the log's ids differ
  pub distinct : (c d : ℕ) → c < size → d < size → log c ≡ log d → c ≡ d
  -- each entry of the log has a transaction with that commit number
  pub entries : (c : ℕ) → c < size → (i : ℕ) × (t : Txn) × Among t (of i) × (t.place ≡ c + 1)
  -- and a transaction with a commit number has its id there
  pub decided : (i : ℕ) (t : Txn) (c : ℕ) → Among t (of i) → t.place ≡ c + 1 → log c ≡ t.id
  -- an id belongs to one connection
  pub ids : (i j : ℕ) (t u : Txn) → Among t (of i) → Among u (of j) → t.id ≢ 0 → t.id ≡ u.id → i ≡ j
  -- the transactions of a connection come one after another
  pub in_order : (i : ℕ) → AreInOrder (of i)
  pub each : (i : ℕ) (t : Txn) → Among t (of i) → TxnIsSound size of i t

-- a machine is sound: its log and transactions are; the ids of transactions are those from 1 up to the number of ids
-- drawn; and each account has entries of its own connection alone
pub record IsSound (m : Machine) : Type 0 where
  pub sound : AreSound (length m.log) (slice_index m.log) (txns_of m)
  pub drawn : (i : ℕ) (t : Txn) → Among t (txns_of m i) → t.id ≤ m.drawn
  pub each_drawn : (id : ℕ) → 0 < id → id ≤ m.drawn → (i : ℕ) × (t : Txn) × Among t (txns_of m i) × (t.id ≡ id)
  pub entries : (i : ℕ) → AreOf i (account_of m i)
