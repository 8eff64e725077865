-- What the steps of a commit add to its desk's account. An account has the newest entry first; what is listed here has the
-- first one first.
use Rattle.std.specs.Prelude.{ℕ, List, [], ◌∷◌}
use Rattle.hc_range.specs.declared.range.Range.{Range}
use Rattle.hc_core.specs.Diary.{entry_of}
use Rattle.hc_core.specs.declared.account.Entry.{Entry}
use Rattle.hc_core.specs.declared.cells.Write.{Write}
use Rattle.hc_core.specs.declared.event.Event.TheVariants.{Put, Unput, Propose, Check, Decide}
use Rattle.hc_core.specs.declared.outcome.Lost.{Lost as LostRecord}
use Rattle.hc_core.specs.declared.outcome.Outcome.TheVariants.{Done, Proposed, Lost}

-- writes were put, one after another
abbrev pub with_puts : ℕ → List Write → List Entry → List Entry
with_puts conn [] account = account
with_puts conn (w ∷ ws) account = with_puts conn ws (entry_of (Put conn w.key w.rec) Done ∷ account)

-- they were taken out, one after another
abbrev pub with_unputs : ℕ → List Write → List Entry → List Entry
with_unputs conn [] account = account
with_unputs conn (w ∷ ws) account = with_unputs conn ws (entry_of (Unput conn w.key) Done ∷ account)

-- parts were checked, one after another, and found unchanged
abbrev pub with_checks : ℕ → List Range → List Entry → List Entry
with_checks conn [] account = account
with_checks conn (part ∷ parts) account = with_checks conn parts (entry_of (Check conn part.lo part.hi) Done ∷ account)

-- a number was proposed, and parts were checked for it
abbrev pub with_proposal : ℕ → ℕ → List Range → List Entry → List Entry
with_proposal conn number parts account = with_checks conn parts (entry_of (Propose conn) (Proposed (record { 0 = number })) ∷ account)

-- a proposal that another transaction was ahead of: the parts that were checked for it, and who has the number
pub record LostProposal : Type 0 where
  pub parts : List Range
  pub lost : LostRecord

-- proposals were lost, one after another
abbrev pub with_lost : ℕ → List LostProposal → List Entry → List Entry
with_lost conn [] account = account
with_lost conn (p ∷ ps) account = with_lost conn ps (entry_of (Decide conn) (Lost p.lost) ∷ with_proposal conn p.lost.cid.0 p.parts account)
