-- What the machine keeps at run time, which machine it is, and what holds of it between two events.
use Rattle.std.specs.Prelude.{◌≢◌, None, ℕ, ◌<◌, ◌≤◌, ◌^◌, List, length, map}
use Rattle.hc_core.specs.Keys.{IsShortKey}
use Rattle.hc_base.specs.Lookup.{Among}
use Rattle.hc_core.specs.Account.{Txn, HasWritten, WhenOpen}
use Rattle.hc_core.specs.Commits.{AreCommits}
use Rattle.hc_core.specs.Machine.{Machine, txns_of}
use Rattle.hc_core.specs.Sound.{IsSound}
use Rattle.hc_core.specs.declared.account.Entry.{Entry}
use Rattle.hc_core.specs.declared.commit.Commit.{Commit}
use Rattle.hc_core.specs.declared.event.Event.{Event}
use Rattle.hc_core.specs.declared.event.Event.TheVariants.{Check, Decide, Draw, Put, Read}

-- the machine of a number of drawn ids, a log and accounts
abbrev pub machine_of : ℕ → List Commit → List (List Entry) → Machine
machine_of drawn commits accounts = record { drawn = drawn; log = map (λ commit. commit.tid) commits; accounts = accounts }

-- what holds of it, where the log has room for some number of entries
pub record IsKept (drawn : ℕ) (commits : List Commit) (room : ℕ) (accounts : List (List Entry)) : Type 0 where
  pub sound : IsSound (machine_of drawn commits accounts)
  -- the log has what the transactions put
  pub logged : AreCommits (txns_of (machine_of drawn commits accounts)) 1 commits
  -- a key that is in the write set can be named in a refusal
  pub short : (i : ℕ) (t : Txn) (key : List ℕ) → Among t (txns_of (machine_of drawn commits accounts) i) → HasWritten t key → IsShortKey key
  -- connections are numbers of 32 bits
  pub few : length accounts < 2 ^ 32
  -- ids are numbers of 32 bits
  pub bounded : drawn < 2 ^ 32
  -- there is room for a commit of each transaction that has drawn an id
  pub roomy : drawn ≤ room

-- a put has a key of at most 463 bytes
abbrev pub PutsShortKey : Event → Type 0
PutsShortKey (Put conn key rec) = IsShortKey key
PutsShortKey _ = Unit {0}

-- only a draw, a read, a put and a check may want memory
abbrev pub MayTakeMemory : Event → Type 0
MayTakeMemory (Draw conn ord) = Unit {0}
MayTakeMemory (Read conn from upto) = Unit {0}
MayTakeMemory (Put conn key rec) = Unit {0}
MayTakeMemory (Check conn from upto) = Unit {0}
MayTakeMemory _ = ⊥

-- the parts that a connection's open transaction checked are kept. They are not where a desk makes its calls: from the note
-- of its writes on, while it proposes a number
abbrev pub KeepsChecks : Machine → ℕ → Type 0
KeepsChecks m i = WhenOpen (txns_of m i) (λ t. (t.weight ≢ None) × (t.proposed ≢ 0)) → ⊥

-- a decision is by checks that are kept
abbrev pub DecidesOnKept : Machine → Event → Type 0
DecidesOnKept m (Decide i) = KeepsChecks m i
DecidesOnKept m _ = Unit {0}

-- no open transaction is a desk's
abbrev pub NoneIsDesks : Machine → Type 0
NoneIsDesks m = (i : ℕ) → WhenOpen (txns_of m i) (λ t. t.weight ≢ None) → ⊥
