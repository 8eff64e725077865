use Rattle.std.proofs.Common.{◌≡◌, ◌∙◌, inr, refl, sym, subst}
use Rattle.std.specs.Option.{option_copied}
use Rattle.hc_core.specs.Account.{HasWritten, after_put}
use Rattle.hc_core.specs.Kept.{machine_of}
use Rattle.hc_core.specs.Machine.{Answers, Machine}
use Rattle.hc_core.specs.Running.{Matches}
use Rattle.hc_core.specs.declared.event.Event.TheVariants.{Put}
use Rattle.hc_core.specs.declared.outcome.Outcome.TheVariants.{Done, Met}
use Rattle.hc_core.proofs.Asked.{own_closed, put_disabled, put_done, put_refused, settles_put}
use Rattle.hc_core.proofs.Steps.{held_of, held_open, kept_event, not_both_ways, settles_same, there_open, when_map}
use Rattle.hc_core.proofs.machine.Core.put.Goals as goal

pub returns-then-not-may_put-clause-answer : goal.returns-then-not-may_put-clause-answer
returns-then-not-may_put-clause-answer c = inr (
  put_disabled c.args.self.now c.args.conn c.args.key.now (option_copied c.args.rec) c.in-Some.running.now c.in-Some.ensures
      (λ may. not_both_ways _ (c.may_put.ensures.1 may) c.if-not-may_put.true),
  refl,
)

-- the connection itself has not put the key
pub in_the_way-requires-clause-own : goal.in_the_way-requires-clause-own
in_the_way-requires-clause-own c = own_closed c.args.self.now c.args.conn c.args.key.now c.in-Some.running.now c.in-Some.ensures (c.may_put.ensures.0 c.if-not-may_put.false)

pub refuse_put-requires : goal.refuse_put-requires
refuse_put-requires c = record { «open» = there_open _ _ c.args.conn _ _ (Matches c.in-Some.running.now) _ c.self.view_is c.index_mut.ensures.value c.in-Some.ensures (λ t h. tt) }

-- the key is not put
pub put-requires : goal.put-requires
put-requires c =
    let may = c.may_put.ensures.0 c.if-not-may_put.false in
    record {
      «open» = there_open _ _ c.args.conn _ _ (Matches c.in-Some.running.now) (λ t. (t.place ≡ 0) × (HasWritten t c.args.key.now → ⊥)) c.self.view_is c.index_mut-2.ensures.value c.in-Some.ensures
          (λ t h. (sym h.place ∙ may.1, λ written. not_both_ways _ (held_of c.in-Some.running.now t c.args.key.now h (sym h.place ∙ may.1) written) may.3));
    }

-- what is in the way refuses the put
refused : (c : goal.After-self-1) → Answers c.args.self.now (Put c.args.conn c.args.key.now (option_copied c.args.rec)) (Met c.in-Some-in_the_way.met)
refused c =
    let may = c.may_put.ensures.0 c.if-not-may_put.false in
    put_refused c.args.self.now c.args.conn c.args.key.now (option_copied c.args.rec) c.in-Some.running.now c.in-Some-in_the_way.met c.in-Some.ensures may
    (c.in-Some-in_the_way.ensures c.args.conn (own_closed c.args.self.now c.args.conn c.args.key.now c.in-Some.running.now c.in-Some.ensures may))

-- the refusal is entered
pub invariant_of-self : goal.invariant_of-self
invariant_of-self c =
    let m = machine_of c.self.inside.drawn c.self.inside.log.items c.self.inside.conns.items in
    let open_now = held_open m _ c.args.conn (Matches c.in-Some.running.now) c.self.view_is c.in-Some.ensures in (
      kept_event _ _ _ _ c.args.conn _ _ _ (Put c.args.conn c.args.key.now (option_copied c.args.rec)) (Met c.in-Some-in_the_way.met) (after_put c.args.key.now (option_copied c.args.rec) (Met c.in-Some-in_the_way.met)) c.self.invariant.0 c.refuse_put.ensures c.index_mut.ensures.value
          (subst (λ (n : Machine). Answers n (Put c.args.conn c.args.key.now (option_copied c.args.rec)) (Met c.in-Some-in_the_way.met)) (sym c.self.view_is) (refused c))
          refl (λ ts. refl) (when_map _ _ _ (λ t h. settles_same t _ refl refl refl refl) open_now),
      c.self.invariant.1,
    )

pub returns-in-Some-in_the_way-clause-answer : goal.returns-in-Some-in_the_way-clause-answer
returns-in-Some-in_the_way-clause-answer c = refused c

-- where nothing is, the put is done
done : (c : goal.In_ok-outcome) → Answers c.args.self.now (Put c.args.conn c.args.key.now (option_copied c.args.rec)) Done
done c = put_done c.args.self.now c.args.conn c.args.key.now (option_copied c.args.rec) c.in-Some.running.now c.in-Some.ensures
    (c.may_put.ensures.0 c.if-not-may_put.false) (c.in_default-in_the_way.ensures c.args.conn)

-- the put is entered
pub invariant_of-self-2 : goal.invariant_of-self-2
invariant_of-self-2 c =
    let m = machine_of c.self.inside.drawn c.self.inside.log.items c.self.inside.conns.items in
    let open_now = held_open m _ c.args.conn (Matches c.in-Some.running.now) c.self.view_is c.in-Some.ensures in (
      kept_event _ _ _ _ c.args.conn _ _ _ (Put c.args.conn c.args.key.now (option_copied c.args.rec)) (Done) (after_put c.args.key.now (option_copied c.args.rec) (Done)) c.self.invariant.0 c.in_ok-outcome.ensures.account c.index_mut-2.ensures.value
          (subst (λ (n : Machine). Answers n (Put c.args.conn c.args.key.now (option_copied c.args.rec)) (Done)) (sym c.self.view_is) (done c))
          refl (λ ts. refl) (when_map _ _ _ (λ t h. settles_put c.args.key.now (option_copied c.args.rec) t (sym h.place ∙ (c.may_put.ensures.0 c.if-not-may_put.false).1) c.requires.short) open_now),
      c.self.invariant.1,
    )

pub returns-clause-answer : goal.returns-clause-answer
returns-clause-answer c = subst (Answers c.args.self.now (Put c.args.conn c.args.key.now (option_copied c.args.rec))) (sym c.in_ok-outcome.ensures.outcome) (done c)
