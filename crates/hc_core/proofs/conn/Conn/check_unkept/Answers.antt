use Rattle.std.proofs.Common.{◌≢◌, None, refl}
use Rattle.hc_core.specs.Account.{after_check, part_of}
use Rattle.hc_core.specs.Diary.{entry_of}
use Rattle.hc_core.specs.declared.event.Event.TheVariants.{Check}
use Rattle.hc_core.specs.declared.outcome.Outcome.TheVariants.{Done}
use Rattle.hc_core.proofs.Conns.{check_said, same_open}
use Rattle.hc_core.proofs.Matching.{matches_unkept}
use Rattle.hc_core.proofs.conn.Conn.check_unkept.Goals as goal

-- where there is room for writes, what is kept says nothing of checks
pub invariant_of-self : goal.invariant_of-self
invariant_of-self c = same_open (λ t. t.weight ≢ None) _ _ _ (entry_of (Check c.args.conn c.args.from.now c.args.upto.now) Done) (after_check (part_of c.args.from.now c.args.upto.now) Done) _
    (rw c.self.view_is c.requires.open) c.self.invariant.0 c.self.invariant.1 (check_said _ _ _ _ _ _ _ _ c.note.ensures refl c.lent.ensures) (λ ts. refl) (λ t. refl)
    (λ r t e p h. (e, matches_unkept r (part_of c.args.from.now c.args.upto.now) t p h))
