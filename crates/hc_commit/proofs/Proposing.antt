-- Proposals of a commit number.
use Rattle.std.proofs.Common.{◌≡◌, ◌≢◌, ◌∙◌, refl, sym, ap, subst, ℕ, ◌+◌, ◌<◌, ◌≤◌, List, [], ◌∷◌, ◌++◌, length, inl, inr, arith}
use Rattle.hc_range.specs.declared.range.Range.{Range}
use Rattle.hc_range.specs.Ranges.{InAny, InRange}
use Rattle.hc_core.specs.Account.{Txn, WhenOpen, after_check, after_propose, txns}
use Rattle.hc_core.specs.Desk.{MayDecideNow, Proposes}
use Rattle.hc_core.specs.Diary.{entry_of}
use Rattle.hc_core.specs.declared.account.Entry.{Entry}
use Rattle.hc_core.specs.declared.event.Event.TheVariants.{Check, Decide, Propose}
use Rattle.hc_core.specs.declared.outcome.Lost.{Lost as LostRecord}
use Rattle.hc_core.specs.declared.outcome.Outcome.TheVariants.{Decided, Done, Lost, Proposed}
use Rattle.hc_commit.specs.Checks.{AreAllOf, AreLostOver, HasProposed, HasSettled, IsNumbered}
use Rattle.hc_commit.specs.Entries.{LostProposal, with_checks, with_lost, with_proposal}
use Rattle.hc_commit.specs.Stages.{HasAllPut, HasDecided, IsSeen}
use Rattle.hc_commit.specs.declared.proposal.Proposal.{Proposal}
use Rattle.hc_commit.specs.declared.proposal.Proposal.TheVariants.{Won, Beaten, Refused}
use Rattle.hc_commit.proofs.Growing.{checks_keep, lost_keep, lost_more, when_changed, when_open}

-- it has proposed a number, for which parts were checked
abbrev pub HasProposedIt : List Range → ℕ → Txn → Type 0
HasProposedIt log number t = HasAllPut log t × (t.proposed ≡ number)

-- all is put still where a number is proposed
pub propose_stage : (conn : ℕ) (log : List Range) (number : ℕ) (account : List Entry) → WhenOpen (txns account) (HasAllPut log)
    → WhenOpen (txns (entry_of (Propose conn) (Proposed (record { 0 = number })) ∷ account)) (HasProposedIt log number)
propose_stage conn log number account =
    when_changed (after_propose (Proposed (record { 0 = number }))) (HasAllPut log) (HasProposedIt log number) (txns account)
    (λ t live h. (live, (record { id = h.id; room = h.room; undecided = h.undecided; put = h.put; read = h.read }, refl)))

kept_by_check : (log : List Range) (number : ℕ) (part : Range) (t : Txn) → HasProposedIt log number t → HasProposedIt log number (after_check part Done t)
kept_by_check log number part t h = (record { id = h.0.id; room = h.0.room; undecided = h.0.undecided; put = h.0.put; read = h.0.read }, h.1)

-- it proposes a number still where parts were checked
pub checked_stage : (conn : ℕ) (log : List Range) (number : ℕ) (parts : List Range) (account : List Entry) → WhenOpen (txns account) (HasProposedIt log number)
    → WhenOpen (txns (with_checks conn parts account)) (HasProposedIt log number)
checked_stage conn log number parts account = checks_keep conn (HasProposedIt log number) parts account (kept_by_check log number)

-- parts count as checked
abbrev Counts : List Range → Txn → Type 0
Counts parts t = (key : List ℕ) → InAny parts key → InAny t.checked key

abbrev CountsPart : Range → Txn → Type 0
CountsPart part t = (key : List ℕ) → InRange part key → InAny t.checked key

-- what was checked counts then, beside what counted before
checks_count : (conn : ℕ) (P : Txn → Type 0) (parts : List Range) (account : List Entry) → ((part : Range) (t : Txn) → P t → P (after_check part Done t))
    → WhenOpen (txns account) P → WhenOpen (txns (with_checks conn parts account)) (λ t. P t × Counts parts t)
checks_count conn P [] account keeps h = when_open P (λ t. P t × Counts [] t) (txns account) (λ t p. (p, λ key a. absurd a)) h
checks_count conn P (part ∷ parts) account keeps h =
    when_open (λ t. (P t × CountsPart part t) × Counts parts t) (λ t. P t × Counts (part ∷ parts) t) (txns (with_checks conn (part ∷ parts) account))
    (λ t p. (p.0.0, λ key a. elim a [ inl b ↦ p.0.1 key b | inr b ↦ p.1 key b ]))
    (checks_count conn (λ t. P t × CountsPart part t) parts (entry_of (Check conn part.lo part.hi) Done ∷ account) (λ other t p. (keeps other t p.0, λ key a. inr (p.1 key a)))
    (when_changed (after_check part Done) P (λ t. P t × CountsPart part t) (txns account) (λ t live p. (live, (keeps part t p, λ key a. inl a))) h))

-- where all of the log was checked it may be decided
pub may_decide : (conn : ℕ) (log : List Range) (number : ℕ) (parts : List Range) (account : List Entry) → number ≢ 0 → AreAllOf log parts
    → WhenOpen (txns account) (HasProposedIt log number) → MayDecideNow (with_checks conn parts account)
may_decide conn log number parts account some all h =
    when_open (λ t. HasProposedIt log number t × Counts parts t) _ (txns (with_checks conn parts account))
    (λ t p. (
      λ e. some (sym p.0.1 ∙ e),
      p.0.0.undecided,
      λ read a key inside. p.1 key ((all key).1 ((p.0.0.read key).1 (read, a, inside))),
    ))
    (checks_count conn (HasProposedIt log number) parts account (kept_by_check log number) h)

-- the number that is decided is the proposed one
pub same_number : (log : List Range) (number other : ℕ) (account : List Entry) → WhenOpen (txns account) (HasProposedIt log number) → Proposes account other → other ≡ number
same_number log number other account h p = at (txns account) h p
  where
    at : (ts : List Txn) → WhenOpen ts (HasProposedIt log number) → WhenOpen ts (λ t. t.proposed ≡ other) → other ≡ number
    at [] h p = absurd h
    at (t ∷ ts) h p = sym p.1 ∙ h.1.1

-- all is put still where proposals were lost
pub lost_stage : (conn : ℕ) (log : List Range) (ps : List LostProposal) (account : List Entry) → WhenOpen (txns account) (HasAllPut log) → WhenOpen (txns (with_lost conn ps account)) (HasAllPut log)
lost_stage conn log ps account =
    lost_keep conn (HasAllPut log) ps account
    (λ part t h. record { id = h.id; room = h.room; undecided = h.undecided; put = h.put; read = h.read })
    (λ n t h. record { id = h.id; room = h.room; undecided = h.undecided; put = h.put; read = h.read })
    (λ p t h. record { id = h.id; room = h.room; undecided = h.undecided; put = h.put; read = h.read })

pub over_more : (log : List Range) (ps : List LostProposal) (p : LostProposal) → AreLostOver log ps → AreAllOf log p.parts → AreLostOver log (ps ++ p ∷ [])
over_more log [] p h a = (a, tt)
over_more log (x ∷ ps) p h a = (h.0, over_more log ps p h.1 a)

pub length_more : (ps : List LostProposal) (p : LostProposal) → length (ps ++ p ∷ []) ≡ length ps + 1
length_more [] p = refl
length_more (x ∷ ps) p = omega (arith, length_more ps p)

-- proposals were lost, each at a number that was seen then
pub record HasLost (conn : ℕ) (log : List Range) (seen : ℕ) (before : List Entry) (seen_now : ℕ) (now : List Entry) : Type 0 where
  pub proposals : List LostProposal
  pub over : AreLostOver log proposals
  pub counted : length proposals + seen ≤ seen_now
  pub entries : now ≡ with_lost conn proposals before

module _ (conn : ℕ) (log : List Range) (number : ℕ) (parts : List Range) (before proposed between after : List Entry)
    (entry : proposed ≡ entry_of (Propose conn) (Proposed (record { 0 = number })) ∷ before) (put : WhenOpen (txns before) (HasAllPut log)) where
  pub proposed_stage : WhenOpen (txns proposed) (HasProposedIt log number)
  proposed_stage = subst (λ (a : List Entry). WhenOpen (txns a) (HasProposedIt log number)) (sym entry) (propose_stage conn log number before put)

  module _ (at : ℕ) (same : at ≡ conn) (all : AreAllOf log parts) (checked : between ≡ with_checks at parts proposed) where
    pub decidable : number ≢ 0 → MayDecideNow between
    decidable some = subst MayDecideNow (sym checked) (may_decide at log number parts proposed some all proposed_stage)

    between_stage : WhenOpen (txns between) (HasProposedIt log number)
    between_stage = subst (λ (a : List Entry). WhenOpen (txns a) (HasProposedIt log number)) (sym checked) (checked_stage at log number parts proposed proposed_stage)

    its_number : (other : ℕ) → Proposes between other → other ≡ number
    its_number other p = same_number log number other between between_stage p

    entries_as : (other : ℕ) → other ≡ number → between ≡ with_proposal conn other parts before
    entries_as other e =
        checked
        ∙ ap (λ (n : ℕ). with_checks n parts proposed) same
        ∙ ap (with_checks conn parts) (entry ∙ ap (λ (n : ℕ). entry_of (Propose conn) (Proposed (record { 0 = n })) ∷ before) (sym e))

    -- a number was proposed, checked for and decided
    pub proposal_made : (conn_then : ℕ) (proposal : Proposal) → conn_then ≡ conn → HasDecided conn_then proposal between after → HasProposed conn log proposal before after
    proposal_made conn_then (Won other) e h = (
      parts,
      all,
      h.1 ∙ ap (λ (n : ℕ). entry_of (Decide n) (Decided other) ∷ between) e
          ∙ ap (λ (a : List Entry). entry_of (Decide conn) (Decided other) ∷ a) (entries_as other.0 (its_number other.0 h.0)),
    )
    proposal_made conn_then (Beaten lost) e h = (
      parts,
      all,
      h.1 ∙ ap (λ (n : ℕ). entry_of (Decide n) (Lost lost) ∷ between) e
          ∙ ap (λ (a : List Entry). entry_of (Decide conn) (Lost lost) ∷ a) (entries_as lost.cid.0 (its_number lost.cid.0 h.0)),
    )
    proposal_made conn_then (Refused met) e h = absurd h

    pub proposal_numbered : (conn_then : ℕ) (proposal : Proposal) (seen most seen_after : ℕ) → HasDecided conn_then proposal between after → seen < number → number ≤ most → IsSeen proposal seen_after
        → IsNumbered proposal seen most seen_after
    proposal_numbered conn_then (Won other) seen most seen_after h above within there =
        let e : other.0 ≡ number = its_number other.0 h.0 in
        (omega (arith, e, above), omega (arith, e, within), there)
    proposal_numbered conn_then (Beaten lost) seen most seen_after h above within there =
        let e : lost.cid.0 ≡ number = its_number lost.cid.0 h.0 in
        (omega (arith, e, above), omega (arith, e, within), there)
    proposal_numbered conn_then (Refused met) seen most seen_after h above within there = absurd h

module _ (conn : ℕ) (log : List Range) (seen : ℕ) (before : List Entry) (seen_now : ℕ) (now after : List Entry) (h : HasLost conn log seen before seen_now now) where
  -- it may propose again
  pub still_put : WhenOpen (txns before) (HasAllPut log) → WhenOpen (txns now) (HasAllPut log)
  still_put put = subst (λ (a : List Entry). WhenOpen (txns a) (HasAllPut log)) (sym h.entries) (lost_stage conn log h.proposals before put)

  -- the last proposal was won, or refused
  pub settled : (at most : ℕ) (proposal : Proposal) → at ≡ conn → seen_now < most → HasProposed at log proposal now after → HasSettled conn log most proposal before after
  settled at most proposal same below last = record {
    lost = h.proposals;
    over = h.over;
    bounded = omega (arith, h.counted, below);
    last = subst (λ (a : List Entry). HasProposed conn log proposal a after) h.entries (subst (λ (n : ℕ). HasProposed n log proposal now after) same last);
  }

  -- or lost too
  pub lost_again : (at most : ℕ) (lost : LostRecord) (seen_after : ℕ) → at ≡ conn → IsNumbered (Beaten lost) seen_now most seen_after → HasProposed at log (Beaten lost) now after
      → HasLost conn log seen before seen_after after
  lost_again at most lost seen_after same numbered last =
      let more : LostProposal = record { parts = last.0; lost = lost } in
      record {
        proposals = h.proposals ++ more ∷ [];
        over = over_more log h.proposals more h.over last.1;
        counted = omega (arith, length_more h.proposals more, h.counted, numbered.0, numbered.2);
        entries = last.2
            ∙ ap (λ (n : ℕ). entry_of (Decide n) (Lost lost) ∷ with_proposal n lost.cid.0 last.0 now) same
            ∙ ap (λ (a : List Entry). entry_of (Decide conn) (Lost lost) ∷ with_proposal conn lost.cid.0 last.0 a) h.entries
            ∙ sym (lost_more conn h.proposals more before);
      }
