-- What a refusal with 517 names.
use Rattle.std.specs.Prelude.{◌≡◌, ◌≢◌, ℕ, ◌<◌, ◌⊎◌, List}
use Rattle.hc_range.specs.Order.{IsBelow}
use Rattle.hc_range.specs.Ranges.{InAny}
use Rattle.hc_core.specs.Account.{HoldsKey}
use Rattle.hc_base.specs.Lookup.{Among}
use Rattle.hc_transcript.specs.declared.refusal.Refusal.TheVariants.{Busy}
use Rattle.hc_transcript.specs.declared.reply.Ending.TheVariants.{Commit}
use Rattle.hc_meaning.specs.Runs.Commits.{base_number, footprint_at_base, writes_at_base}
use Rattle.hc_meaning.specs.Runs.Cut.{Transaction}
use Rattle.hc_meaning.specs.Runs.Language.{Language}
use Rattle.hc_meaning.specs.Runs.Walk.{Refused}

-- it printed `commit k`
pub record PrintsCommit (t : Transaction) : Type 0 where
  pub number : ℕ
  pub printed : t.ending ≡ Commit number

-- a transaction of this connection with this ordinal
pub record IsNamed (transactions : List Transaction) (conn ordinal : ℕ) (t : Transaction) : Type 0 where
  pub among : Among t transactions
  pub conn_is : t.conn ≡ conn
  pub ordinal_is : t.ordinal ≡ ordinal

-- it committed above a snapshot
pub record CommittedAbove (snapshot : ℕ) (t : Transaction) : Type 0 where
  pub commit : PrintsCommit t
  pub above : snapshot < commit.number

-- Its own commit was answered 517, with a key above this one, or with a transaction that printed a commit number: so it
-- had put this key, and each chain of such answers ends at a commit.
pub record WasRefusedLater (transactions : List Transaction) (key : List ℕ) (t : Transaction) : Type 0 where
  pub conn : ℕ
  pub ordinal : ℕ
  pub other_key : List ℕ
  pub refusal : t.close ≡ Refused (Busy conn ordinal other_key)
  pub later : IsBelow key other_key ⊎ ((z : Transaction) × IsNamed transactions conn ordinal z × PrintsCommit z)

-- y can have refused the commit of x, over a key.
pub record IsMet (L : Language) (transactions history : List Transaction) (x y : Transaction) (key : List ℕ) : Type 0 where
  -- They are of different connections.
  pub other : y.conn ≢ x.conn
  -- y writes the key on its base, and x reads it, or would have, on its own.
  pub written : HoldsKey (writes_at_base L history y) key
  pub read : InAny (footprint_at_base L history x) key
  -- y committed above the snapshot of x, or had put the key when it was refused itself.
  pub later : CommittedAbove (base_number x.ending) y ⊎ WasRefusedLater transactions key y
