use Rattle.std.proofs.Common.{◌∙◌, subst, sym, ap₂, arith, ◌<◌, length}
use Rattle.hc_core.specs.Account.{txns}
use Rattle.hc_core.specs.Running.{holds_key}
use Rattle.hc_test_desks.specs.Guarded.{KnowsOpen}
use Rattle.hc_test_desks.proofs.Guards.{among_at, may_put}
use Rattle.hc_test_desks.proofs.guard.Guard.put.Goals as goal

-- there is room for the write, and its key is not put
pub put-requires : goal.put-requires
put-requires g c =
    let w = c.index-write.result.now in
    let guard = c.args.self.now in
    let account = g.D.Desk.account c.args.desk.now in
    let within : c.args.place < length guard.reserved.items = omega (arith, guard.reserved.ok, subst (λ n. c.args.place < n) c.len.ensures c.if-place-len.false) in
    record {
      reserved = may_put guard account w (subst (λ s. KnowsOpen s guard (txns account)) c.in-Writing.is c.requires.0)
          (among_at guard.reserved.items c.args.place w w within c.index-write.ensures)
          (sym (ap₂ holds_key c.as_slice-2.ensures c.as_slice.ensures.value) ∙ sym c.has_key.ensures ∙ c.if-has_key.false);
    }
