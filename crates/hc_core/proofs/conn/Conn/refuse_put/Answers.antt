use Rattle.std.proofs.Common.{refl, ◌∷◌}
use Rattle.std.specs.Option.{option_copied}
use Rattle.hc_core.specs.Account.{KeyAsked, after_put}
use Rattle.hc_core.specs.Diary.{entry_of}
use Rattle.hc_core.specs.declared.event.Event.TheVariants.{Put}
use Rattle.hc_core.specs.declared.outcome.Outcome.TheVariants.{Met}
use Rattle.hc_core.proofs.Conns.{same_open}
use Rattle.hc_core.proofs.Matching.{matches_refused}
use Rattle.hc_core.proofs.conn.Conn.refuse_put.Goals as goal

-- a refusal changes nothing of what is kept
pub invariant_of-self : goal.invariant_of-self
invariant_of-self c = same_open (λ _. Unit {0}) _ _ _ (entry_of (Put c.args.conn c.args.key.now (option_copied c.args.rec)) (Met c.args.met.now)) (after_put c.args.key.now (option_copied c.args.rec) (Met c.args.met.now)) _
    (rw c.self.view_is c.requires.open) c.self.invariant.0 c.self.invariant.1 c.note_met.ensures (λ ts. refl) (λ t. refl)
    (λ r t e p h. (e, matches_refused r t (record { asked = KeyAsked c.args.key.now; met = c.args.met.now } ∷ t.refusals) h))
