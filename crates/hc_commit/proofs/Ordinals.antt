-- The ordinals of a connection, as a commit leaves them.
use Rattle.std.proofs.Common.{◌≡◌, ◌∙◌, refl, ap, ℕ, ◌<◌, ◌≤◌, max, Some, List, [], ◌∷◌, inl, inr, arith}
use Rattle.hc_range.specs.declared.range.Range.{Range}
use Rattle.hc_base.specs.declared.numbers.Cid.{Cid}
use Rattle.hc_core.specs.Account.{Txn, after_check, after_decide, after_draw, after_end, after_propose, after_put, after_reserve, after_unput, newest_changed, part_of, txns}
use Rattle.hc_core.specs.Desk.{with_room}
use Rattle.hc_core.specs.Diary.{entry_of}
use Rattle.hc_core.specs.Running.{greatest_ord}
use Rattle.hc_core.specs.declared.account.Entry.{Entry}
use Rattle.hc_core.specs.declared.cells.Write.{Write}
use Rattle.hc_core.specs.declared.event.Event.TheVariants.{Check, End, Propose, Put, Unput}
use Rattle.hc_core.specs.declared.outcome.Met.{Met as MetRecord}
use Rattle.hc_core.specs.declared.outcome.Outcome.TheVariants.{Decided, Done, Drew, Lost, Met, Proposed}
use Rattle.hc_transcript.specs.declared.reply.Ending.{Ending}
use Rattle.hc_transcript.specs.declared.reply.Ending.TheVariants.{Commit, Snapshot, RolledBack}
use Rattle.hc_txn.specs.Transactions.{Transaction}
use Rattle.hc_commit.specs.Checks.{HasSettled}
use Rattle.hc_commit.specs.Commit.{HasFailed, HasGivenUp, HasSucceeded}
use Rattle.hc_commit.specs.Entries.{LostProposal, with_checks, with_lost, with_proposal, with_puts, with_unputs}
use Rattle.hc_commit.specs.Giving.{HasMet}
use Rattle.hc_commit.specs.declared.committing.CommitFault.{CommitFault}
use Rattle.hc_commit.specs.declared.committing.CommitFault.TheVariants.{Full, NoMemory, Met as MetFault}
use Rattle.hc_commit.specs.declared.proposal.Proposal.TheVariants.{Won, Refused}

-- a change that leaves the ordinal leaves the greatest
ord_changed : (f : Txn → Txn) → ((t : Txn) → (f t).ord ≡ t.ord) → (ts : List Txn) → greatest_ord (newest_changed f ts) ≡ greatest_ord ts
ord_changed f same [] = refl
ord_changed f same (t ∷ ts) = ap (λ (n : ℕ). max n (greatest_ord ts)) (same t)

module _ (conn : ℕ) where
  ord_puts : (ws : List Write) (a : List Entry) → greatest_ord (txns (with_puts conn ws a)) ≡ greatest_ord (txns a)
  ord_puts [] a = refl
  ord_puts (w ∷ ws) a = ord_puts ws (entry_of (Put conn w.key w.rec) Done ∷ a) ∙ ord_changed (after_put w.key w.rec Done) (λ t. refl) (txns a)

  ord_unputs : (ws : List Write) (a : List Entry) → greatest_ord (txns (with_unputs conn ws a)) ≡ greatest_ord (txns a)
  ord_unputs [] a = refl
  ord_unputs (w ∷ ws) a = ord_unputs ws (entry_of (Unput conn w.key) Done ∷ a) ∙ ord_changed (after_unput w.key Done) (λ t. refl) (txns a)

  ord_checks : (parts : List Range) (a : List Entry) → greatest_ord (txns (with_checks conn parts a)) ≡ greatest_ord (txns a)
  ord_checks [] a = refl
  ord_checks (part ∷ parts) a = ord_checks parts (entry_of (Check conn part.lo part.hi) Done ∷ a) ∙ ord_changed (after_check part Done) (λ t. refl) (txns a)

  ord_proposal : (number : ℕ) (parts : List Range) (a : List Entry) → greatest_ord (txns (with_proposal conn number parts a)) ≡ greatest_ord (txns a)
  ord_proposal number parts a =
      ord_checks parts (entry_of (Propose conn) (Proposed (record { 0 = number })) ∷ a) ∙ ord_changed (after_propose (Proposed (record { 0 = number }))) (λ t. refl) (txns a)

  ord_lost : (ps : List LostProposal) (a : List Entry) → greatest_ord (txns (with_lost conn ps a)) ≡ greatest_ord (txns a)
  ord_lost [] a = refl
  ord_lost (p ∷ ps) a =
      ord_lost ps _
      ∙ ord_changed (after_decide (Lost p.lost)) (λ t. refl) (txns (with_proposal conn p.lost.cid.0 p.parts a))
      ∙ ord_proposal p.lost.cid.0 p.parts a

  ord_won : (log : List Range) (most : ℕ) (number : Cid) (before after : List Entry) → HasSettled conn log most (Won number) before after → greatest_ord (txns after) ≡ greatest_ord (txns before)
  ord_won log most number before after h =
      ap (λ (a : List Entry). greatest_ord (txns a)) h.last.2
      ∙ ord_changed (after_decide (Decided number)) (λ t. refl) (txns (with_proposal conn number.0 h.last.0 (with_lost conn h.lost before)))
      ∙ ord_proposal number.0 h.last.0 (with_lost conn h.lost before)
      ∙ ord_lost h.lost before

  ord_refused : (log : List Range) (most : ℕ) (met : MetRecord) (before after : List Entry) → HasSettled conn log most (Refused met) before after → greatest_ord (txns after) ≡ greatest_ord (txns before)
  ord_refused log most met before after h =
      let m = h.last.1 in
      ap (λ (a : List Entry). greatest_ord (txns a)) m.grown
      ∙ ord_changed (after_check (part_of m.from m.upto) (Met met)) (λ t. refl) (txns (with_proposal conn h.last.0 m.parts (with_lost conn h.lost before)))
      ∙ ord_proposal h.last.0 m.parts (with_lost conn h.lost before)
      ∙ ord_lost h.lost before

  ord_met : (log : List Range) (most : ℕ) (writes : List Write) (met : MetRecord) (before after : List Entry) → HasMet conn log most writes met before after → greatest_ord (txns after) ≡ greatest_ord (txns before)
  ord_met log most writes met before after (inl h) =
      ap (λ (a : List Entry). greatest_ord (txns a)) h.taken
      ∙ ord_unputs h.refused.put h.between
      ∙ ap (λ (a : List Entry). greatest_ord (txns a)) h.refused.grown
      ∙ ord_changed (after_put h.refused.write.key h.refused.write.rec (Met met)) (λ t. refl) (txns (with_puts conn h.refused.put before))
      ∙ ord_puts h.refused.put before
  ord_met log most writes met before after (inr h) =
      ap (λ (a : List Entry). greatest_ord (txns a)) h.taken
      ∙ ord_unputs writes h.between
      ∙ ord_refused log most met (with_puts conn writes before) h.between h.refused
      ∙ ord_puts writes before

  -- room is made with an ordinal above all
  ord_room : (ord id : ℕ) (writes : List Write) (a : List Entry) → greatest_ord (txns a) < ord → greatest_ord (txns (with_room conn ord writes id a)) ≤ ord
  ord_room ord id writes a above = at (txns a) above
    where
      at : (ts : List Txn) → greatest_ord ts < ord → greatest_ord (newest_changed (after_reserve writes) (newest_changed (after_draw ord (Drew (record { 0 = id }))) ts)) ≤ ord
      at [] h = omega arith
      at (t ∷ ts) h = omega (arith, h)

  ord_given_up : (ord most : ℕ) (log : List Range) (writes : List Write) (fault : CommitFault) (before after : List Entry) → greatest_ord (txns before) < ord
      → HasGivenUp conn ord most log writes fault before after → greatest_ord (txns after) ≤ ord
  ord_given_up ord most log writes (Full full) before after above (inl h) =
      let same = ap (λ (a : List Entry). greatest_ord (txns a)) h ∙ ord_changed (λ t. record t { full = Some full }) (λ t. refl) (txns before) in
      omega (arith, same, above)
  ord_given_up ord most log writes (Full full) before after above (inr h) =
      let same = ap (λ (a : List Entry). greatest_ord (txns a)) h.2 ∙ ord_changed (λ t. record t { full = Some full }) (λ t. refl) (txns (with_room conn ord writes h.0 before)) in
      omega (arith, same, ord_room ord h.0 writes before above)
  ord_given_up ord most log writes NoMemory before after above h =
      let same = ap (λ (a : List Entry). greatest_ord (txns a)) h in
      omega (arith, same, above)
  ord_given_up ord most log writes (MetFault met) before after above h =
      let same = ord_met log most writes met (with_room conn ord writes h.0 before) after h.2 in
      omega (arith, same, ord_room ord h.0 writes before above)

  ord_ended : (tried after : List Entry) → after ≡ entry_of (End conn) Done ∷ tried → greatest_ord (txns after) ≡ greatest_ord (txns tried)
  ord_ended tried after e = ap (λ (a : List Entry). greatest_ord (txns a)) e ∙ ord_changed (after_end Done) (λ t. refl) (txns tried)

  -- no ordinal is above that of a commit then
  pub ord_succeeded : (ord most : ℕ) (txn : Transaction) (ending : Ending) (before tried after : List Entry) → greatest_ord (txns before) < ord → after ≡ entry_of (End conn) Done ∷ tried
      → HasSucceeded conn ord most txn ending before tried → greatest_ord (txns after) ≤ ord
  ord_succeeded ord most txn (Commit number) before tried after above e h =
      let same = ord_won txn.log most (record { 0 = number }) (with_puts conn h.0 (with_room conn ord h.0 h.3.0 before)) tried h.3.2 ∙ ord_puts h.0 (with_room conn ord h.0 h.3.0 before) in
      omega (arith, same, ord_ended tried after e, ord_room ord h.3.0 h.0 before above)
  ord_succeeded ord most txn (Snapshot snapshot) before tried after above e h =
      let same = ap (λ (a : List Entry). greatest_ord (txns a)) h.2 in
      omega (arith, same, ord_ended tried after e, above)
  ord_succeeded ord most txn (RolledBack snapshot) before tried after above e h = absurd h

  pub ord_failed : (ord most : ℕ) (txn : Transaction) (fault : CommitFault) (before tried after : List Entry) → greatest_ord (txns before) < ord → after ≡ entry_of (End conn) Done ∷ tried
      → HasFailed conn ord most txn fault before tried → greatest_ord (txns after) ≤ ord
  ord_failed ord most txn fault before tried after above e (inl h) =
      let same = ap (λ (a : List Entry). greatest_ord (txns a)) h.1 in
      omega (arith, same, ord_ended tried after e, above)
  ord_failed ord most txn fault before tried after above e (inr h) =
      omega (arith, ord_ended tried after e, ord_given_up ord most txn.log h.0 fault before tried above h.3)
