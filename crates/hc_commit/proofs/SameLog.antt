-- A log with the same keys: what is said of the one holds of the other.
use Rattle.std.proofs.Common.{◌≡◌, refl, sym, subst, ℕ, false, None, List, [], ◌∷◌, inl, inr, ◌⊎◌, ◌↔◌}
use Rattle.hc_range.specs.declared.range.Range.{Range}
use Rattle.hc_reads.specs.Gathered.{HaveSameKeys}
use Rattle.hc_base.specs.declared.numbers.Cid.{Cid}
use Rattle.hc_core.specs.Account.{Txn, WhenOpen, txns}
use Rattle.hc_core.specs.declared.account.Entry.{Entry}
use Rattle.hc_core.specs.declared.cells.Write.{Write}
use Rattle.hc_core.specs.declared.outcome.Met.{Met as MetRecord}
use Rattle.hc_txn.specs.Transactions.{IsOf, Transaction, having_read, reads_of}
use Rattle.hc_commit.specs.declared.committing.CommitFault.{CommitFault}
use Rattle.hc_commit.specs.declared.committing.CommitFault.TheVariants.{Full, Met, NoMemory}
use Rattle.hc_commit.specs.declared.proposal.Proposal.{Proposal}
use Rattle.hc_commit.specs.declared.proposal.Proposal.TheVariants.{Won, Beaten, Refused}
use Rattle.hc_commit.specs.Checks.{AreAllOf, AreLostOver, HasMetOther, HasProposed, HasSettled}
use Rattle.hc_commit.specs.Commit.{HasCommitted, HasGivenUp}
use Rattle.hc_commit.specs.Entries.{LostProposal}
use Rattle.hc_commit.specs.Giving.{HasMet}
use Rattle.hc_commit.specs.Stages.{HasOnlyReadIn}

module _ (log other : List Range) (same : HaveSameKeys log other) where
  all_of : (parts : List Range) → AreAllOf other parts → AreAllOf log parts
  all_of parts h key = (λ a. (same key).1 ((h key).0 a), λ a. (h key).1 ((same key).0 a))

  lost_over : (ps : List LostProposal) → AreLostOver other ps → AreLostOver log ps
  lost_over [] h = tt
  lost_over (p ∷ ps) h = (all_of p.parts h.0, lost_over ps h.1)

  met_other : (conn : ℕ) (met : MetRecord) (before after : List Entry) → HasMetOther conn other met before after → HasMetOther conn log met before after
  met_other conn met before after h = record {
    parts = h.parts;
    from = h.from;
    upto = h.upto;
    grown = h.grown;
    below = λ key. (λ a. let b = (h.below key).0 a in ((same key).1 b.0, b.1), λ a. (h.below key).1 ((same key).0 a.0, a.1));
    inside = λ key a. (same key).1 (h.inside key a);
    names = h.names;
  }

  proposed : (conn : ℕ) (proposal : Proposal) (before after : List Entry) → HasProposed conn other proposal before after → HasProposed conn log proposal before after
  proposed conn (Won number) before after h = (h.0, all_of h.0 h.1, h.2)
  proposed conn (Beaten lost) before after h = (h.0, all_of h.0 h.1, h.2)
  proposed conn (Refused met) before after h = (h.0, met_other conn met _ after h.1)

  settled : (conn most : ℕ) (proposal : Proposal) (before after : List Entry) → HasSettled conn other most proposal before after → HasSettled conn log most proposal before after
  settled conn most proposal before after h = record {
    lost = h.lost;
    over = lost_over h.lost h.over;
    bounded = h.bounded;
    last = proposed conn proposal _ after h.last;
  }

  met_same : (conn most : ℕ) (writes : List Write) (met : MetRecord) (before after : List Entry) → HasMet conn other most writes met before after → HasMet conn log most writes met before after
  met_same conn most writes met before after (inl h) = inl h
  met_same conn most writes met before after (inr h) = inr (record { between = h.between; refused = settled conn most (Refused met) _ h.between h.refused; taken = h.taken })

  pub committed_same : (conn ord most : ℕ) (writes : List Write) (number : Cid) (before after : List Entry) → HasCommitted conn ord most other writes number before after
      → HasCommitted conn ord most log writes number before after
  committed_same conn ord most writes number before after h = (h.0, h.1, settled conn most (Won number) _ after h.2)

  pub given_up_same : (conn ord most : ℕ) (writes : List Write) (fault : CommitFault) (before after : List Entry) → HasGivenUp conn ord most other writes fault before after
      → HasGivenUp conn ord most log writes fault before after
  given_up_same conn ord most writes (Full full) before after h = h
  given_up_same conn ord most writes NoMemory before after h = h
  given_up_same conn ord most writes (Met met) before after h = (h.0, h.1, met_same conn most writes met _ after h.2)

-- a transaction that is of a desk has done nothing but read what a log with the same keys covers
pub only_read : (account : List Entry) (txn : Transaction) (other : List Range) → IsOf account txn → HaveSameKeys txn.log other → WhenOpen (txns account) (HasOnlyReadIn other)
only_read account txn other of same =
    subst (λ (ts : List Txn). WhenOpen ts (HasOnlyReadIn other)) (sym of.newest) (
      refl,
      (
        refl,
        refl,
        refl,
        refl,
        refl,
        λ key. (λ a. (of.log key).0 ((same key).1 a), λ a. (same key).0 ((of.log key).1 a)),
      ),
    )
