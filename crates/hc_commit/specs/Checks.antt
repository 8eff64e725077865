-- Which parts of the keys are checked for a proposal.
use Rattle.std.specs.Prelude.{◌≡◌, ◌≢◌, ℕ, ◌<◌, ◌≤◌, Option, List, [], ◌∷◌, ◌↔◌, length}
use Rattle.hc_range.specs.declared.range.Range.{Range}
use Rattle.hc_range.specs.Order.{IsBelow}
use Rattle.hc_range.specs.Ranges.{InAny, InRange}
use Rattle.hc_core.specs.Account.{part_of}
use Rattle.hc_core.specs.Diary.{entry_of}
use Rattle.hc_core.specs.declared.account.Entry.{Entry}
use Rattle.hc_core.specs.declared.event.Event.TheVariants.{Check, Decide, Propose}
use Rattle.hc_core.specs.declared.outcome.Met.{Met as MetRecord}
use Rattle.hc_core.specs.declared.outcome.Outcome.TheVariants.{Decided, Lost, Met, Proposed}
use Rattle.hc_commit.specs.Entries.{LostProposal, with_checks, with_lost, with_proposal}
use Rattle.hc_commit.specs.declared.proposal.Proposal.{Proposal}
use Rattle.hc_commit.specs.declared.proposal.Proposal.TheVariants.{Won, Beaten, Refused}

-- the parts are exactly what a log covers
abbrev pub AreAllOf : List Range → List Range → Type 0
AreAllOf log parts = (key : List ℕ) → InAny parts key ↔ InAny log key

-- the parts are exactly what a log covers below some key
abbrev pub AreAllBelow : List Range → List ℕ → List Range → Type 0
AreAllBelow log from parts = (key : List ℕ) → InAny parts key ↔ (InAny log key × IsBelow key from)

-- A check was refused: all of the log below where it began was found unchanged, the refused part lies in the log, and another
-- connection put a key of it.
pub record HasMetOther (conn : ℕ) (log : List Range) (met : MetRecord) (before after : List Entry) : Type 0 where
  pub parts : List Range
  pub from : List ℕ
  pub upto : Option (List ℕ)
  pub grown : after ≡ entry_of (Check conn from upto) (Met met) ∷ with_checks conn parts before
  pub below : AreAllBelow log from parts
  pub inside : (key : List ℕ) → InRange (part_of from upto) key → InAny log key
  pub names : InRange (part_of from upto) met.key × (met.conn ≢ conn)

-- a number was proposed, all of the log was checked for it, and it was decided, or lost; or a check was refused
abbrev pub HasProposed : ℕ → List Range → Proposal → List Entry → List Entry → Type 0
HasProposed conn log (Won number) before after = (parts : List Range) × AreAllOf log parts
    × (after ≡ entry_of (Decide conn) (Decided number) ∷ with_proposal conn number.0 parts before)
HasProposed conn log (Beaten lost) before after = (parts : List Range) × AreAllOf log parts
    × (after ≡ entry_of (Decide conn) (Lost lost) ∷ with_proposal conn lost.cid.0 parts before)
HasProposed conn log (Refused met) before after = (number : ℕ) × HasMetOther conn log met (entry_of (Propose conn) (Proposed (record { 0 = number })) ∷ before) after

-- the number is above what was seen, and at most the greatest; and where it was decided or lost it is seen then
abbrev pub IsNumbered : Proposal → ℕ → ℕ → ℕ → Type 0
IsNumbered (Won number) seen most seen_after = (seen < number.0) × (number.0 ≤ most) × (number.0 ≤ seen_after)
IsNumbered (Beaten lost) seen most seen_after = (seen < lost.cid.0) × (lost.cid.0 ≤ most) × (lost.cid.0 ≤ seen_after)
IsNumbered (Refused met) seen most seen_after = seen < most

-- for each proposal that was lost all of the log was checked
abbrev pub AreLostOver : List Range → List LostProposal → Type 0
AreLostOver log [] = Unit {0}
AreLostOver log (p ∷ ps) = AreAllOf log p.parts × AreLostOver log ps

-- proposals were lost, and one went as it did: fewer were lost than the greatest commit number is
pub record HasSettled (conn : ℕ) (log : List Range) (most : ℕ) (proposal : Proposal) (before after : List Entry) : Type 0 where
  pub lost : List LostProposal
  pub over : AreLostOver log lost
  pub bounded : length lost < most
  pub last : HasProposed conn log proposal (with_lost conn lost before) after
