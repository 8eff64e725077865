use Rattle.std.proofs.Common.{◌≡◌, ◌≢◌, ◌⊎◌, [], inl, refl}
use Rattle.hc_core.specs.Account.{after_end}
use Rattle.hc_core.specs.Kept.{machine_of}
use Rattle.hc_core.specs.declared.event.Event.TheVariants.{End}
use Rattle.hc_core.specs.declared.outcome.Outcome.TheVariants.{Done}
use Rattle.hc_core.proofs.Steps.{held_open, kept_event, settles_same, when_map}
use Rattle.hc_core.proofs.machine.Core.end.Goals as goal

-- an end leaves what is decided and what is written
pub invariant_of-self : goal.invariant_of-self
invariant_of-self c =
    let open_now = held_open (machine_of c.self.inside.drawn c.self.inside.log.items c.self.inside.conns.items) _ c.args.conn (λ t. (t.place ≢ 0) ⊎ (t.write_set ≡ [])) c.self.view_is (c.may_end.ensures.0 c.if-not-may_end.false) in (
      kept_event _ _ _ _ c.args.conn _ _ _ (End c.args.conn) Done (after_end Done) c.self.invariant.0 c.end.ensures.account c.index_mut.ensures.value
          (inl (open_now, refl)) refl (λ ts. refl) (when_map _ _ _ (λ t h. settles_same t _ refl refl refl refl) open_now),
      c.self.invariant.1,
    )
