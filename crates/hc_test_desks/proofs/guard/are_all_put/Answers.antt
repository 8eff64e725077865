use Rattle.std.proofs.Common.{◌≡◌, ◌∙◌, subst, sym, ap, take, add-one, true}
use Rattle.hc_core.specs.Account.{HoldsKey}
use Rattle.hc_base.specs.Lookup.{Among}
use Rattle.hc_core.specs.Running.{holds_key}
use Rattle.hc_core.proofs.LogEntries.{holds_into}
use Rattle.hc_test_desks.proofs.Guards.{all_more}
use Rattle.hc_test_desks.proofs.guard.are_all_put.Goals as goal

-- one more is put
pub loop-write-preserved : goal.loop-write-preserved
loop-write-preserved c =
    let w = c.write-item.result in
    let held : holds_key w.key c.args.put.now ≡ true = ap (λ key. holds_key key c.args.put.now) (sym c.as_slice.ensures) ∙ sym c.has_key.ensures ∙ c.if-not-has_key.false in
    λ v there. all_more c.args.writes.now c.loop-write.write-index w w (λ u. HoldsKey c.args.put.now u.key) c.write-item.is
    (holds_into w.key c.args.put.now held) c.loop-write.invariant v (subst (λ n. Among v (take n c.args.writes.now)) (add-one c.loop-write.write-index) there)
