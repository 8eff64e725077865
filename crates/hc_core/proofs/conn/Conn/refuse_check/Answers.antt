use Rattle.std.proofs.Common.{refl, ◌∷◌}
use Rattle.hc_core.specs.Account.{PartAsked, after_check, part_of}
use Rattle.hc_core.specs.Diary.{entry_of}
use Rattle.hc_core.specs.declared.event.Event.TheVariants.{Check}
use Rattle.hc_core.specs.declared.outcome.Outcome.TheVariants.{Met}
use Rattle.hc_core.proofs.Conns.{check_said, same_open}
use Rattle.hc_core.proofs.Matching.{matches_refused}
use Rattle.hc_core.proofs.conn.Conn.refuse_check.Goals as goal

-- a refusal changes nothing of what is kept
pub invariant_of-self : goal.invariant_of-self
invariant_of-self c = same_open (λ _. Unit {0}) _ _ _ (entry_of (Check c.args.conn c.args.from.now c.args.upto.now) (Met c.args.met.now)) (after_check (part_of c.args.from.now c.args.upto.now) (Met c.args.met.now)) _
    (rw c.self.view_is c.requires.open) c.self.invariant.0 c.self.invariant.1 (check_said _ _ _ _ _ _ _ _ c.note_met.ensures refl c.lent.ensures) (λ ts. refl) (λ t. refl)
    (λ r t e p h. (e, matches_refused r t (record { asked = PartAsked (part_of c.args.from.now c.args.upto.now); met = c.args.met.now } ∷ t.refusals) h))
