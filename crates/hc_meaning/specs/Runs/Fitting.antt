-- When a connection's transcript fits its account.
use Rattle.std.specs.Prelude.{◌≡◌, ◌≢◌, ◌↔◌, ℕ, true, false, List, [], ◌⊎◌, Some, IsTrue}
use Rattle.hc_range.specs.Order.{IsBelow}
use Rattle.hc_range.specs.Ranges.{InAny, InRange}
use Rattle.hc_range.specs.declared.range.Range.{Range}
use Rattle.hc_base.specs.declared.full.Full.{Full as Shortage}
use Rattle.hc_core.specs.Account.{Asked, HasRead, HoldsKey, KeyAsked, PartAsked, PartChecked, PartRead, Refusal, Txn, weight_of}
use Rattle.hc_base.specs.Lookup.{Among}
use Rattle.hc_core.specs.Running.{HaveSameWrites}
use Rattle.hc_core.specs.declared.cells.Write.{Write}
use Rattle.hc_transcript.specs.declared.refusal.Refusal.{Refusal as Reason}
use Rattle.hc_transcript.specs.declared.refusal.Refusal.TheVariants.{Busy, Full}
use Rattle.hc_transcript.specs.declared.reply.Ending.{Ending}
use Rattle.hc_transcript.specs.declared.reply.Ending.TheVariants.{Commit, Snapshot, RolledBack}
use Rattle.hc_meaning.specs.Runs.Cut.{Transaction}
use Rattle.hc_meaning.specs.Runs.Language.{Language, record_at}
use Rattle.hc_meaning.specs.Runs.RightRun.{asks}
use Rattle.hc_meaning.specs.Runs.Walk.{Close, Finished, Refused, FellShort, Abandoned, Item}
use Rattle.hc_meaning.specs.Runs.Writes.{AreGiven, footprint, reads, writes}

-- a database has what was read, at each key of the parts read
abbrev pub AgreesWith : (L : Language) → L.Db → List PartRead → Type 0
AgreesWith L db parts = (read : PartRead) → Among read parts → (key : List ℕ) → InRange read.part key
    → record_at (L.cells db) key ≡ record_at read.cells key

-- a part was checked, whatever was found
abbrev pub HasChecked : Txn → Range → Type 0
HasChecked x part = ((found : PartChecked) × Among found x.unchanged × (found.part ≡ part))
    ⊎ ((r : Refusal) × Among r x.refusals × (r.asked ≡ PartAsked part))

-- What fits on one database that has what was read.
pub record FitsOn (L : Language) (items : List Item) (x : Txn) (db : L.Db) : Type 0 where
  -- The items give the printed answers there.
  pub replies : AreGiven L db items
  -- All that they read was read, and nothing but their footprint was read or checked.
  pub read_all : (key : List ℕ) → InAny (reads L db items) key → HasRead x key
  pub read_only : (key : List ℕ) → HasRead x key → InAny (footprint L db items) key
  pub checked_only : (part : Range) → HasChecked x part → (key : List ℕ) → InRange part key → InAny (footprint L db items) key

-- a refusal in the account is the one that was printed
pub record IsConflict (x : Txn) (conn ordinal : ℕ) (key : List ℕ) (r : Refusal) : Type 0 where
  pub among : Among r x.refusals
  pub conn_is : r.met.conn ≡ conn
  pub ordinal_is : r.met.ord ≡ ordinal
  pub key_is : r.met.key ≡ key

-- what had been put: the writes below the key whose put was refused, or all where a check was
abbrev pub PutsUpto : Asked → List Write → List Write → Type 0
PutsUpto (KeyAsked key) puts ws = ((w : Write) → Among w puts ↔ (Among w ws × IsBelow w.key key)) × HoldsKey ws key
PutsUpto (PartAsked part) puts ws = HaveSameWrites puts ws

-- what a transaction with these writes put, by how it was closed. What it put it kept, where its commit was not refused
abbrev pub PutsFit : Close → Txn → List Write → Type 0
PutsFit Finished x ws = (x.write_set ≡ x.puts) × HaveSameWrites x.puts ws
PutsFit (Refused (Busy conn ordinal key)) x ws = (r : Refusal) × IsConflict x conn ordinal key r × PutsUpto r.asked x.puts ws
PutsFit (Refused _) x ws = x.puts ≡ []
PutsFit FellShort x ws = x.puts ≡ []
PutsFit Abandoned x ws = x.puts ≡ []

-- The rest that fits there of a transaction that is closed.
pub record PutsFitOn (L : Language) (t : Transaction) (x : Txn) (db : L.Db) : Type 0 where
  pub puts : PutsFit t.close x (writes L db t.items)
  -- It drew an id only for a commit with writes, and has the weight of these.
  pub drew : x.id ≢ 0 → writes L db t.items ≢ []
  pub weight : x.id ≢ 0 → x.weight ≡ Some (weight_of (writes L db t.items))
  -- Its commit was refused only where there are some.
  pub refused : (refusal : Reason) → t.close ≡ Refused refusal → writes L db t.items ≢ []

-- the number of an ending is that of the account
abbrev pub EndsAs : Ending → Txn → Type 0
EndsAs (Commit k) x = (x.place ≡ k) × (k ≢ 0)
EndsAs (Snapshot s) x = (x.place ≡ 0) × (x.snapshot ≡ s)
EndsAs (RolledBack s) x = (x.place ≡ 0) × (x.snapshot ≡ s)

-- A closed transaction fits one of the account.
pub record FitsOne (L : Language) (t : Transaction) (x : Txn) : Type 0 where
  pub ended : x.ended ≡ true
  pub number : EndsAs t.ending x
  pub ordinal : x.id ≢ 0 → x.ord ≡ t.ordinal
  pub asked : x.id ≢ 0 → IsTrue (asks t.close t.ending)
  pub full : (full : Shortage) → t.close ≡ Refused (Full full) → x.full ≡ Some full
  -- on every database that has what it read
  pub on : (db : L.Db) → L.IsDb db → AgreesWith L db x.reads → FitsOn L t.items x db
  pub puts_on : (db : L.Db) → L.IsDb db → AgreesWith L db x.reads → PutsFitOn L t x db

-- The transaction that the replies leave open fits one that has begun, and has drawn no id.
pub record FitsOpen (L : Language) (items : List Item) (x : Txn) : Type 0 where
  pub ended : x.ended ≡ false
  pub undrawn : x.id ≡ 0
  pub on : (db : L.Db) → L.IsDb db → AgreesWith L db x.reads → FitsOn L items x db
