use Rattle.std.proofs.Common.{refl, sym, subst}
use Rattle.std.specs.Option.{option_copied}
use Rattle.hc_core.specs.Account.{after_put}
use Rattle.hc_core.specs.Calls.{MayPutReserved}
use Rattle.hc_core.specs.Kept.{machine_of}
use Rattle.hc_core.specs.Machine.{Answers, Machine}
use Rattle.hc_core.specs.declared.event.Event.TheVariants.{Put}
use Rattle.hc_core.specs.declared.outcome.Outcome.TheVariants.{Done, Met}
use Rattle.hc_core.proofs.Asked.{own_free, put_done_of, put_refused_of, reserved_short, settles_put}
use Rattle.hc_core.proofs.Steps.{held_open, kept_event, settles_same, there_open, when_map}
use Rattle.hc_core.proofs.machine.Core.put_reserved.Goals as goal

pub in_the_way-requires-clause-own : goal.in_the_way-requires-clause-own
in_the_way-requires-clause-own c = own_free c.args.self.now c.args.conn c.args.key.now (when_map _ _ _ (λ t h. h.4) c.requires.reserved)

pub in_the_way-requires-clause-short : goal.in_the_way-requires-clause-short
in_the_way-requires-clause-short c = reserved_short _ _ _ _ c.opened.ensures c.requires.reserved

pub refuse_put-requires : goal.refuse_put-requires
refuse_put-requires c = record { «open» = there_open _ _ c.args.conn _ _ (MayPutReserved c.args.key.now (option_copied c.args.rec)) _ c.self.view_is c.index_mut.ensures.value c.requires.reserved (λ t h. tt) }

pub put_reserved-requires : goal.put_reserved-requires
put_reserved-requires c = record { «open» = there_open _ _ c.args.conn _ _ (MayPutReserved c.args.key.now (option_copied c.args.rec)) _ c.self.view_is c.index_mut-2.ensures.value c.requires.reserved (λ t h. (h.1, h.3, h.4)) }

-- what is in the way refuses the put
refused : (c : goal.After-self-1) → Answers c.args.self.now (Put c.args.conn c.args.key.now (option_copied c.args.rec)) (Met c.in-Some.met)
refused c = put_refused_of c.args.self.now c.args.conn c.args.key.now (option_copied c.args.rec) c.opened.result.now c.in-Some.met c.opened.ensures
    (when_map _ _ _ (λ t h. (h.0, h.1, h.2, h.4)) c.requires.reserved)
    (c.in-Some.ensures c.args.conn (own_free c.args.self.now c.args.conn c.args.key.now (when_map _ _ _ (λ t h. h.4) c.requires.reserved)))

-- the refusal is entered
pub invariant_of-self : goal.invariant_of-self
invariant_of-self c =
    let m = machine_of c.self.inside.drawn c.self.inside.log.items c.self.inside.conns.items in
    let open_now = held_open m _ c.args.conn (MayPutReserved c.args.key.now (option_copied c.args.rec)) c.self.view_is c.requires.reserved in (
      kept_event _ _ _ _ c.args.conn _ _ _ (Put c.args.conn c.args.key.now (option_copied c.args.rec)) (Met c.in-Some.met) (after_put c.args.key.now (option_copied c.args.rec) (Met c.in-Some.met)) c.self.invariant.0 c.refuse_put.ensures c.index_mut.ensures.value
          (subst (λ (n : Machine). Answers n (Put c.args.conn c.args.key.now (option_copied c.args.rec)) (Met c.in-Some.met)) (sym c.self.view_is) (refused c))
          refl (λ ts. refl) (when_map _ _ _ (λ t h. settles_same t _ refl refl refl refl) open_now),
      c.self.invariant.1,
    )

pub returns-in-Some-clause-answer : goal.returns-in-Some-clause-answer
returns-in-Some-clause-answer c = refused c

-- where nothing is, the put is done
done : (c : goal.After-self-2-1) → Answers c.args.self.now (Put c.args.conn c.args.key.now (option_copied c.args.rec)) Done
done c = put_done_of c.args.self.now c.args.conn c.args.key.now (option_copied c.args.rec) c.opened.result.now c.opened.ensures
    (when_map _ _ _ (λ t h. (h.0, h.1, h.2, h.4)) c.requires.reserved) (c.in_default.ensures c.args.conn)

-- the put is entered
pub invariant_of-self-2 : goal.invariant_of-self-2
invariant_of-self-2 c =
    let m = machine_of c.self.inside.drawn c.self.inside.log.items c.self.inside.conns.items in
    let open_now = held_open m _ c.args.conn (MayPutReserved c.args.key.now (option_copied c.args.rec)) c.self.view_is c.requires.reserved in (
      kept_event _ _ _ _ c.args.conn _ _ _ (Put c.args.conn c.args.key.now (option_copied c.args.rec)) (Done) (after_put c.args.key.now (option_copied c.args.rec) (Done)) c.self.invariant.0 c.put_reserved.ensures c.index_mut-2.ensures.value
          (subst (λ (n : Machine). Answers n (Put c.args.conn c.args.key.now (option_copied c.args.rec)) (Done)) (sym c.self.view_is) (done c))
          refl (λ ts. refl) (when_map _ _ _ (λ t h. settles_put c.args.key.now (option_copied c.args.rec) t h.1 (reserved_short _ _ _ _ c.opened.ensures c.requires.reserved)) open_now),
      c.self.invariant.1,
    )

pub returns-clause-answer : goal.returns-clause-answer
returns-clause-answer c = done c
