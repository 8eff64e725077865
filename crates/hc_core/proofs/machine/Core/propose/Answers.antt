use Rattle.std.proofs.Common.{◌≡◌, ◌≢◌, ◌∙◌, ◌+◌, ◌<◌, ◌^◌, refl, sym, ap, inl, arith, rules}
use Rattle.hc_core.specs.Account.{after_propose}
use Rattle.hc_core.specs.Kept.{machine_of}
use Rattle.hc_core.specs.declared.outcome.Outcome.TheVariants.{Proposed}
use Rattle.hc_core.proofs.Steps.{entry_is, held_open, log_length, number_bounded, open_in_range, settles_same, when_map}
use Rattle.hc_core.proofs.Upheld.{kept_changed}
use Rattle.hc_core.proofs.machine.Core.propose.Goals as goal

-- a transaction that drew an id is undecided, so the log is shorter than the ids drawn
short_log : (c : goal.After-len) → c.len.result + 1 < 2 ^ 32
short_log c = omega (
  arith,
  c.len.ensures,
  log_length c.self.inside.log,
  c.self.invariant.0.bounded,
  number_bounded _ c.args.conn c.self.invariant.0.sound c.self.invariant.0.bounded
      (held_open _ _ c.args.conn (λ t. (t.id ≢ 0) × (t.place ≡ 0)) c.self.view_is (c.may_propose.ensures.0 c.if-not-may_propose.false)),
)

pub overflow_cast-number : goal.overflow_cast-number
overflow_cast-number c = let short : c.len.result < 2 ^ 32 = omega (arith, short_log c) in search (rules, short)

pub overflow_add-number : goal.overflow_add-number
overflow_add-number c = search (rules, short_log c)

-- a proposal leaves what is decided and what is written
pub invariant_of-self : goal.invariant_of-self
invariant_of-self c =
    let open_now = held_open _ _ c.args.conn (λ t. (t.id ≢ 0) × (t.place ≡ 0)) c.self.view_is (c.may_propose.ensures.0 c.if-not-may_propose.false) in
    let within = open_in_range (machine_of c.self.inside.drawn c.self.inside.log.items c.self.inside.conns.items) c.args.conn _ open_now in (
      kept_changed _ _ _ _ _ _ _ _ (entry_is _ _ _ _ _ _ _ _ c.propose.ensures.account c.index_mut.ensures.value within refl) refl
          _ (after_propose (Proposed (record { 0 = c.len.result + 1 }))) c.self.invariant.0
          (inl (open_now, ap (λ n. Proposed (record { 0 = n + 1 })) (c.len.ensures ∙ sym (log_length c.self.inside.log))))
          refl (λ ts. refl)
          (when_map _ _ _ (λ t h. settles_same t _ refl refl refl refl) open_now),
      c.self.invariant.1,
    )
