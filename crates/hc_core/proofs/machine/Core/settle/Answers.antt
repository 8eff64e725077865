use Rattle.std.proofs.Common.{◌≡◌, ◌∙◌, ◌∷◌, ◌+◌, ◌-◌, ◌<◌, refl, sym, ap, subst, length, map, arith, vec_len, vec_capacity}
use Rattle.hc_core.specs.Account.{after_decide}
use Rattle.hc_core.specs.Diary.{entry_of}
use Rattle.hc_core.specs.Kept.{machine_of}
use Rattle.hc_core.specs.Machine.{Machine, Answers, IsEnabled}
use Rattle.hc_core.specs.Running.{Matches}
use Rattle.hc_core.specs.declared.commit.Commit.{Commit}
use Rattle.hc_core.specs.declared.event.Event.TheVariants.{Decide}
use Rattle.hc_core.specs.declared.outcome.Lost.{Lost as LostRecord}
use Rattle.hc_core.specs.declared.outcome.Outcome.TheVariants.{Lost}
use Rattle.hc_core.proofs.Asked.{something_proposed}
use Rattle.hc_core.proofs.BaseCells.{based_pushed}
use Rattle.hc_core.proofs.Steps.{held_open, kept_event, log_length, number_bounded, settles_same, there_open, when_map}
use Rattle.hc_core.proofs.Won.{kept_won, log_at, lost_to, proposed_within, proposer_drew}
use Rattle.hc_core.proofs.machine.Core.settle.Goals as goal

-- a proposed number that is not the next one is in the log
pub index-requires : goal.index-requires
index-requires c =
    let m = machine_of c.self.inside.drawn c.self.inside.log.items c.self.inside.conns.items in
    let r = c.opened-running.result.now in
    let open_now = held_open m _ c.args.conn (Matches r) c.self.view_is c.opened-running.ensures in
    let some = something_proposed _ r c.opened-running.ensures (when_map _ _ _ (λ t h. h.0) c.requires.enabled) in
    omega (arith, proposed_within m c.args.conn r c.self.invariant.0.sound open_now, c.if-number-len.true, c.len.ensures, log_length c.self.inside.log, some)

pub lose-requires : goal.lose-requires
lose-requires c = record { «open» = there_open _ _ c.args.conn _ _ _ _ c.self.view_is c.index_mut.ensures.value c.requires.enabled (λ t h. tt) }

-- the number is lost to who has it in the log
lost : (c : goal.After-self-1)
    → Answers (machine_of c.self.inside.drawn c.self.inside.log.items c.self.inside.conns.items) (Decide c.args.conn)
    (Lost (record { cid = record { 0 = c.opened-running.result.now.proposed }; other = record { 0 = c.index.result.now.tid } }))
lost c =
    let m = machine_of c.self.inside.drawn c.self.inside.log.items c.self.inside.conns.items in
    let r = c.opened-running.result.now in
    let open_now = held_open m _ c.args.conn (Matches r) c.self.view_is c.opened-running.ensures in
    let some = something_proposed _ r c.opened-running.ensures (when_map _ _ _ (λ t h. h.0) c.requires.enabled) in
    let not_next : r.proposed ≡ length (map (λ (commit : Commit). commit.tid) c.self.inside.log.items) + 1 → ⊥ =
    λ next. c.if-number-len.true (next ∙ ap (λ n. n + 1) (log_length c.self.inside.log ∙ sym c.len.ensures)) in
    let place : r.proposed - 1 < length c.self.inside.log.items = omega (
      arith,
      proposed_within m c.args.conn r c.self.invariant.0.sound open_now,
      c.if-number-len.true,
      c.len.ensures,
      log_length c.self.inside.log,
      c.self.inside.log.ok.0,
      some,
    ) in
    lost_to m c.args.conn r c.index.result.now.tid open_now (subst (λ (n : Machine). IsEnabled n (Decide c.args.conn)) (sym c.self.view_is) c.requires.enabled) not_next
    (log_at _ _ c.index.result.now place ∙ ap (λ (commit : Commit). commit.tid) (sym c.index.ensures))

-- the number is another's
pub invariant_of-self : goal.invariant_of-self
invariant_of-self c =
    let m = machine_of c.self.inside.drawn c.self.inside.log.items c.self.inside.conns.items in
    let r = c.opened-running.result.now in
    let open_now = held_open m _ c.args.conn (Matches r) c.self.view_is c.opened-running.ensures in
    let other : LostRecord = record { cid = record { 0 = r.proposed }; other = record { 0 = c.index.result.now.tid } } in (
      kept_event _ _ _ _ c.args.conn _ _ _ (Decide c.args.conn) (Lost other) (after_decide (Lost other)) c.self.invariant.0
          (c.lose.ensures.account ∙ ap (λ (l : LostRecord). entry_of (Decide c.args.conn) (Lost l) ∷ c.index_mut.result.now) c.lose.ensures.lost)
          c.index_mut.ensures.value (lost c) refl (λ ts. refl) (when_map _ _ _ (λ t h. settles_same t _ refl refl refl refl) open_now),
      c.self.invariant.1,
    )

pub returns-then-number-len-clause-answer : goal.returns-then-number-len-clause-answer
returns-then-number-len-clause-answer c =
    let m = machine_of c.self.inside.drawn c.self.inside.log.items c.self.inside.conns.items in
    subst (λ (n : Machine). Answers n (Decide c.args.conn) (Lost c.lose.result)) c.self.view_is
    (subst (λ (l : LostRecord). Answers m (Decide c.args.conn) (Lost l)) (sym c.lose.ensures.lost) (lost c))

-- there is room for the entry
pub unreachable-requires : goal.unreachable-requires
unreachable-requires c =
    let m = machine_of c.self.inside.drawn c.self.inside.log.items c.self.inside.conns.items in
    let drew = proposer_drew m c.args.conn c.self.invariant.0.sound (subst (λ (n : Machine). IsEnabled n (Decide c.args.conn)) (sym c.self.view_is) c.requires.enabled) in
    let room : vec_len c.self.inside.log < vec_capacity c.self.inside.log = omega (
      arith,
      log_length c.self.inside.log,
      c.self.invariant.0.roomy,
      number_bounded m c.args.conn c.self.invariant.0.sound c.self.invariant.0.bounded drew,
    ) in
    let e = c.in_default.ensures.succeeds room in cc

-- the number is won
pub invariant_of-self-2 : goal.invariant_of-self-2
invariant_of-self-2 c =
    let m = machine_of c.self.inside.drawn c.self.inside.log.items c.self.inside.conns.items in
    let r = c.opened-running.result.now in
    let open_now = held_open m _ c.args.conn (Matches r) c.self.view_is c.opened-running.ensures in
    rw c.in-Ok.ensures.items (
      kept_won _ _ _ _ c.args.conn _ _ _ _ _ r c.self.invariant.0 c.decide-writes.ensures.account c.index_mut-2.ensures.value refl
          open_now (subst (λ (n : Machine). IsEnabled n (Decide c.args.conn)) (sym c.self.view_is) c.requires.enabled) (c.if-number-len.false ∙ ap (λ n. n + 1) (c.len.ensures ∙ c.self.inside.log.ok.0))
          refl refl refl c.decide-writes.ensures.writes _ c.in-Ok.ensures.capacity,
      based_pushed _ _ _ c.self.invariant.1,
    )
