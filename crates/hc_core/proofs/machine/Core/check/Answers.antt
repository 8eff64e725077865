use Rattle.std.proofs.Common.{◌≢◌, ap, refl, sym, subst}
use Rattle.hc_core.specs.Account.{after_check, part_of}
use Rattle.hc_core.specs.Kept.{machine_of}
use Rattle.hc_core.specs.Machine.{Answers, Machine}
use Rattle.hc_core.specs.declared.event.Event.TheVariants.{Check}
use Rattle.hc_core.specs.declared.outcome.Outcome.TheVariants.{Done, Met}
use Rattle.hc_range.specs.declared.range.Range.{Range}
use Rattle.hc_core.proofs.Conns.{check_said}
use Rattle.hc_core.proofs.Steps.{held_open, kept_event, settles_same, there_open, when_map}
use Rattle.hc_core.proofs.machine.Core.check.Goals as goal

-- something is proposed
pub found-requires : goal.found-requires
found-requires c = record { proposing = c.may_check.ensures.0 c.if-not-may_check.false }

pub refuse_check-requires : goal.refuse_check-requires
refuse_check-requires c = record { «open» = there_open _ _ c.args.conn _ _ (λ t. t.proposed ≢ 0) _ c.self.view_is c.index_mut.ensures.value (c.may_check.ensures.0 c.if-not-may_check.false) (λ t h. tt) }

pub check-requires : goal.check-requires
check-requires c = record { «open» = there_open _ _ c.args.conn _ _ (λ t. t.proposed ≢ 0) _ c.self.view_is c.index_mut-2.ensures.value (c.may_check.ensures.0 c.if-not-may_check.false) (λ t h. tt) }

-- the refusal is entered
pub invariant_of-self : goal.invariant_of-self
invariant_of-self c =
    let m = machine_of c.self.inside.drawn c.self.inside.log.items c.self.inside.conns.items in
    let open_now = held_open m _ c.args.conn (λ t. t.proposed ≢ 0) c.self.view_is (c.may_check.ensures.0 c.if-not-may_check.false) in (
      kept_event _ _ _ _ c.args.conn _ _ _ (Check c.args.conn c.args.from.now c.args.upto.now) (Met c.in-Some.met) (after_check (part_of c.args.from.now c.args.upto.now) (Met c.in-Some.met)) c.self.invariant.0 c.refuse_check.ensures c.index_mut.ensures.value
          (subst (λ (n : Machine). Answers n (Check c.args.conn c.args.from.now c.args.upto.now) (Met c.in-Some.met)) (sym c.self.view_is) c.in-Some.ensures)
          refl (λ ts. refl) (when_map _ _ _ (λ t h. settles_same t _ refl refl refl refl) open_now),
      c.self.invariant.1,
    )

-- the check is entered
pub invariant_of-self-2 : goal.invariant_of-self-2
invariant_of-self-2 c =
    let m = machine_of c.self.inside.drawn c.self.inside.log.items c.self.inside.conns.items in
    let open_now = held_open m _ c.args.conn (λ t. t.proposed ≢ 0) c.self.view_is (c.may_check.ensures.0 c.if-not-may_check.false) in (
      kept_event _ _ _ _ c.args.conn _ _ _ (Check c.args.conn c.args.from.now c.args.upto.now) (Done) (after_check (part_of c.args.from.now c.args.upto.now) (Done)) c.self.invariant.0
          (check_said _ _ _ _ _ _ _ _ c.in_ok-outcome.ensures.account (ap (λ (part : Range). part.lo) c.in_ok-part.ensures) (ap (λ (part : Range). part.hi) c.in_ok-part.ensures)) c.index_mut-2.ensures.value
          (subst (λ (n : Machine). Answers n (Check c.args.conn c.args.from.now c.args.upto.now) (Done)) (sym c.self.view_is) c.in_default.ensures)
          refl (λ ts. refl) (when_map _ _ _ (λ t h. settles_same t _ refl refl refl refl) open_now),
      c.self.invariant.1,
    )

pub returns-clause-answer : goal.returns-clause-answer
returns-clause-answer c = subst (Answers c.args.self.now (Check c.args.conn c.args.from.now c.args.upto.now)) (sym c.in_ok-outcome.ensures.outcome) c.in_default.ensures
