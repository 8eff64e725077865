use Rattle.std.proofs.Common.{refl}
use Rattle.hc_core.specs.Account.{after_propose}
use Rattle.hc_core.specs.Diary.{entry_of}
use Rattle.hc_core.specs.declared.event.Event.TheVariants.{Propose}
use Rattle.hc_core.specs.declared.outcome.Outcome.TheVariants.{Proposed}
use Rattle.hc_core.proofs.Conns.{kept_open}
use Rattle.hc_core.proofs.Matching.{matches_proposal}
use Rattle.hc_core.proofs.conn.Conn.propose.Goals as goal

-- the proposal is that of the account, and no check counts
pub invariant_of-self : goal.invariant_of-self
invariant_of-self c = kept_open c.taken-running.result _ _ _ _ (entry_of (Propose c.args.conn) (Proposed (record { 0 = c.args.number }))) (after_propose (Proposed (record { 0 = c.args.number }))) _
    c.taken-running.ensures c.self.invariant.0 c.self.invariant.1 c.note.ensures
    (λ ts. refl) (λ t. refl) (λ t e h. (e, matches_proposal c.taken-running.result _ _ t c.set_proposal.ensures h))
