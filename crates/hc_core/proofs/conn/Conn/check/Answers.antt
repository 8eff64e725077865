use Rattle.std.proofs.Common.{refl}
use Rattle.hc_core.specs.Account.{after_check}
use Rattle.hc_core.specs.Diary.{entry_of}
use Rattle.hc_core.specs.declared.event.Event.TheVariants.{Check}
use Rattle.hc_core.specs.declared.outcome.Outcome.TheVariants.{Done}
use Rattle.hc_core.proofs.Conns.{check_said, kept_open, open_of}
use Rattle.hc_core.proofs.Matching.{matches_checked}
use Rattle.hc_core.proofs.conn.Conn.check.Goals as goal

-- the part counts as checked
pub invariant_of-self-2 : goal.invariant_of-self-2
invariant_of-self-2 c = kept_open c.taken-running.result _ _ _ _ (entry_of (Check c.args.conn c.args.range.now.lo c.args.range.now.hi) Done) (after_check c.args.range.now Done) _
    c.taken-running.ensures c.self.invariant.0 c.self.invariant.1 (check_said _ _ _ _ _ _ _ _ c.note.ensures c.as_slice.ensures c.lent.ensures)
    (λ ts. refl) (λ t. refl) (λ t e h. (e, matches_checked c.taken-running.result _ c.args.range.now t c.in_ok-added.ensures.added h))

-- nothing has changed
pub invariant_of-self : goal.invariant_of-self
invariant_of-self c = rw c.in_err-added.ensures.no_memory
    (open_of _ c.taken-running.result _ c.taken-running.ensures c.self.invariant.0, c.self.invariant.1)
