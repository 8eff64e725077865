-- How a commit gives up: what was put is taken out again.
use Rattle.std.specs.Prelude.{◌≡◌, ◌≢◌, ℕ, ◌⊎◌, List, ◌∷◌, ◌++◌, length}
use Rattle.hc_range.specs.declared.range.Range.{Range}
use Rattle.hc_core.specs.Diary.{entry_of}
use Rattle.hc_core.specs.declared.account.Entry.{Entry}
use Rattle.hc_core.specs.declared.cells.Write.{Write}
use Rattle.hc_core.specs.declared.event.Event.TheVariants.{Put}
use Rattle.hc_core.specs.declared.outcome.Met.{Met as MetRecord}
use Rattle.hc_core.specs.declared.outcome.Outcome.TheVariants.{Met}
use Rattle.hc_commit.specs.Checks.{HasSettled}
use Rattle.hc_commit.specs.Entries.{with_puts, with_unputs}
use Rattle.hc_commit.specs.declared.proposal.Proposal.TheVariants.{Refused}

-- A put was refused: those before it are put, and another connection has the key.
pub record HasMetPut (conn : ℕ) (writes : List Write) (met : MetRecord) (before after : List Entry) : Type 0 where
  pub put : List Write
  pub write : Write
  pub left : List Write
  pub all : writes ≡ put ++ write ∷ left
  pub grown : after ≡ entry_of (Put conn write.key write.rec) (Met met) ∷ with_puts conn put before
  pub names : (met.key ≡ write.key) × (met.conn ≢ conn)

-- the same, with how many are put
abbrev pub HasMetAt : ℕ → List Write → MetRecord → ℕ → List Entry → List Entry → Type 0
HasMetAt conn writes met count before after = (m : HasMetPut conn writes met before after) × (length m.put ≡ count)

-- and then those were taken out
pub record HasGivenUpPuts (conn : ℕ) (writes : List Write) (met : MetRecord) (before after : List Entry) : Type 0 where
  pub between : List Entry
  pub refused : HasMetPut conn writes met before between
  pub taken : after ≡ with_unputs conn refused.put between

-- a check was refused after all writes were put, and they were taken out
pub record HasGivenUpChecks (conn : ℕ) (log : List Range) (most : ℕ) (writes : List Write) (met : MetRecord) (before after : List Entry) : Type 0 where
  pub between : List Entry
  pub refused : HasSettled conn log most (Refused met) (with_puts conn writes before) between
  pub taken : after ≡ with_unputs conn writes between

-- another transaction was met by a put, or by a check
abbrev pub HasMet : ℕ → List Range → ℕ → List Write → MetRecord → List Entry → List Entry → Type 0
HasMet conn log most writes met before after = HasGivenUpPuts conn writes met before after ⊎ HasGivenUpChecks conn log most writes met before after
