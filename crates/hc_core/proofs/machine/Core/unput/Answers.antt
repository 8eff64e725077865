use Rattle.std.proofs.Common.{◌≡◌, inl, refl}
use Rattle.hc_core.specs.Account.{HasWritten, after_unput}
use Rattle.hc_core.specs.Kept.{machine_of}
use Rattle.hc_core.specs.declared.event.Event.TheVariants.{Unput}
use Rattle.hc_core.specs.declared.outcome.Outcome.TheVariants.{Done}
use Rattle.hc_core.proofs.Steps.{held_open, kept_event, settles_without, there_open, when_map}
use Rattle.hc_core.proofs.machine.Core.unput.Goals as goal

-- the key is in the write set
pub unput-requires : goal.unput-requires
unput-requires c = record { «open» = there_open _ _ c.args.conn _ _ (λ t. HasWritten t c.args.key.now × (t.place ≡ 0)) _ c.self.view_is c.index_mut.ensures.value (c.may_unput.ensures.0 c.if-not-may_unput.false) (λ t h. h) }

-- what is decided has no key taken out
pub invariant_of-self : goal.invariant_of-self
invariant_of-self c =
    let open_now = held_open (machine_of c.self.inside.drawn c.self.inside.log.items c.self.inside.conns.items) _ c.args.conn (λ t. HasWritten t c.args.key.now × (t.place ≡ 0)) c.self.view_is (c.may_unput.ensures.0 c.if-not-may_unput.false) in (
      kept_event _ _ _ _ c.args.conn _ _ _ (Unput c.args.conn c.args.key.now) Done (after_unput c.args.key.now Done) c.self.invariant.0 c.unput.ensures.account c.index_mut.ensures.value
          (inl (open_now, refl)) refl (λ ts. refl) (when_map _ _ _ (λ t h. settles_without c.args.key.now t h.1) open_now),
      c.self.invariant.1,
    )
