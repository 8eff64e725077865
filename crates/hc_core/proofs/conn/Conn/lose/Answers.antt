use Rattle.std.proofs.Common.{refl}
use Rattle.hc_core.specs.Account.{after_decide}
use Rattle.hc_core.specs.Diary.{entry_of}
use Rattle.hc_core.specs.declared.event.Event.TheVariants.{Decide}
use Rattle.hc_core.specs.declared.outcome.Lost.{Lost as LostRecord}
use Rattle.hc_core.specs.declared.outcome.Outcome.TheVariants.{Lost}
use Rattle.hc_core.proofs.Conns.{kept_open}
use Rattle.hc_core.proofs.Matching.{matches_proposal}
use Rattle.hc_core.proofs.conn.Conn.lose.Goals as goal

-- nothing is proposed, and no check counts
pub invariant_of-self : goal.invariant_of-self
invariant_of-self c =
    let lost : LostRecord = record { cid = record { 0 = c.args.number }; other = record { 0 = c.args.other } } in
    kept_open c.taken-running.result _ _ _ _ (entry_of (Decide c.args.conn) (Lost lost)) (after_decide (Lost lost)) _
    c.taken-running.ensures c.self.invariant.0 c.self.invariant.1 c.note.ensures
    (λ ts. refl) (λ t. refl) (λ t e h. (e, matches_proposal c.taken-running.result _ 0 t c.set_proposal.ensures h))
