use Rattle.std.proofs.Common.{◌≢◌, None, refl, sym, subst}
use Rattle.hc_core.specs.Account.{after_check, part_of}
use Rattle.hc_core.specs.Kept.{machine_of}
use Rattle.hc_core.specs.Machine.{Answers, Machine}
use Rattle.hc_core.specs.declared.event.Event.TheVariants.{Check}
use Rattle.hc_core.specs.declared.outcome.Outcome.TheVariants.{Done, Met}
use Rattle.hc_core.proofs.Steps.{held_open, kept_event, settles_same, there_open, when_map}
use Rattle.hc_core.proofs.machine.Core.check_unkept.Goals as goal

pub found-requires : goal.found-requires
found-requires c = record { proposing = when_map _ _ _ (λ t h. h.0) c.requires.proposing }

pub refuse_check-requires : goal.refuse_check-requires
refuse_check-requires c = record { «open» = there_open _ _ c.args.conn _ _ _ _ c.self.view_is c.index_mut.ensures.value c.requires.proposing (λ t h. tt) }

pub check_unkept-requires : goal.check_unkept-requires
check_unkept-requires c = record { «open» = there_open _ _ c.args.conn _ _ _ _ c.self.view_is c.index_mut-2.ensures.value c.requires.proposing (λ t h. h.1) }

-- the refusal is entered
pub invariant_of-self : goal.invariant_of-self
invariant_of-self c =
    let m = machine_of c.self.inside.drawn c.self.inside.log.items c.self.inside.conns.items in
    let open_now = held_open m _ c.args.conn (λ t. (t.proposed ≢ 0) × (t.weight ≢ None)) c.self.view_is c.requires.proposing in (
      kept_event _ _ _ _ c.args.conn _ _ _ (Check c.args.conn c.args.from.now c.args.upto.now) (Met c.in-Some.met) (after_check (part_of c.args.from.now c.args.upto.now) (Met c.in-Some.met)) c.self.invariant.0 c.refuse_check.ensures c.index_mut.ensures.value
          (subst (λ (n : Machine). Answers n (Check c.args.conn c.args.from.now c.args.upto.now) (Met c.in-Some.met)) (sym c.self.view_is) c.in-Some.ensures)
          refl (λ ts. refl) (when_map _ _ _ (λ t h. settles_same t _ refl refl refl refl) open_now),
      c.self.invariant.1,
    )

-- the check is entered
pub invariant_of-self-2 : goal.invariant_of-self-2
invariant_of-self-2 c =
    let m = machine_of c.self.inside.drawn c.self.inside.log.items c.self.inside.conns.items in
    let open_now = held_open m _ c.args.conn (λ t. (t.proposed ≢ 0) × (t.weight ≢ None)) c.self.view_is c.requires.proposing in (
      kept_event _ _ _ _ c.args.conn _ _ _ (Check c.args.conn c.args.from.now c.args.upto.now) (Done) (after_check (part_of c.args.from.now c.args.upto.now) (Done)) c.self.invariant.0 c.check_unkept.ensures c.index_mut-2.ensures.value
          (subst (λ (n : Machine). Answers n (Check c.args.conn c.args.from.now c.args.upto.now) (Done)) (sym c.self.view_is) c.in_default.ensures)
          refl (λ ts. refl) (when_map _ _ _ (λ t h. settles_same t _ refl refl refl refl) open_now),
      c.self.invariant.1,
    )
