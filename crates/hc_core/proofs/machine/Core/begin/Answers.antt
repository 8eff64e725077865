use Rattle.std.proofs.Common.{refl, sym, ap, subst, ◌∙◌, inl, ◌<◌, ◌^◌, length, arith, rules}
use Rattle.hc_core.specs.Account.{IsIdle}
use Rattle.hc_core.specs.Machine.{txns_of}
use Rattle.hc_core.specs.declared.outcome.Outcome.TheVariants.{Began}
use Rattle.hc_core.proofs.Counted.{log_within}
use Rattle.hc_core.proofs.Steps.{entry_is, log_length, none_idle}
use Rattle.hc_core.proofs.Upheld.{kept_begun}
use Rattle.hc_core.proofs.machine.Core.begin.Goals as goal

-- the log is no longer than the ids drawn
pub overflow_cast-snapshot : goal.overflow_cast-snapshot
overflow_cast-snapshot c =
    let short : c.len-snapshot.result < 2 ^ 32 = omega (
      arith,
      c.len-snapshot.ensures,
      log_length c.self.inside.log,
      log_within _ c.self.invariant.0.sound,
      c.self.invariant.0.bounded,
    ) in search (rules, short)

-- the transaction begins at the log's end
pub invariant_of-self : goal.invariant_of-self
invariant_of-self c =
    let within : c.args.conn < length c.self.inside.conns.items = omega (arith, c.if-index-len.false, c.len.ensures, c.self.inside.conns.ok.0) in (
      kept_begun _ _ _ _ _ _ _ _ (entry_is _ _ _ _ _ _ _ _ c.begin.ensures.account c.index_mut.ensures.value within refl) refl
          _ _ c.self.invariant.0
          (inl (
            (within, subst (λ m. IsIdle (txns_of m c.args.conn)) (sym c.self.view_is) (none_idle _ _ _ c.open.ensures (sym c.is_some.ensures ∙ c.if-is_some.false))),
            ap (λ n. Began (record { 0 = n })) (c.len-snapshot.ensures ∙ sym (log_length c.self.inside.log)),
          ))
          within refl (λ ts. refl),
      c.self.invariant.1,
    )
