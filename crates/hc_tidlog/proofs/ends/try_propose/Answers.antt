-- What was found is noted where it is taken.
use Rattle.std.proofs.Common.{◌+◌, true, ap, subst}
use Rattle.atomic_table.specs.Table.{Me}
use Rattle.hc_base.specs.declared.numbers.Cid.{Cid}
use Rattle.hc_rule.specs.declared.view.View.{View}
use Rattle.hc_tidlog.specs.Looking.{LooksAt}
use Rattle.hc_tidlog.proofs.Looks.{looked_up}
use Rattle.hc_tidlog.proofs.ends.try_propose.Goals as goal

pub returns-in-Some-clause-looked : goal.returns-in-Some-clause-looked
returns-in-Some-clause-looked c =
    let seen = ap (λ (s : Cid). s.0) c.seen-seen.ensures.seen in
    subst (λ n. LooksAt c.args.grip.now.layout (n + 1) c.args.grip.now.seat.me.0 true c.load_log.new.self.seat.me.0) seen
    (looked_up c.args.grip.now.layout c.args.grip.now.seat.me.0 c.load_log.new.self.seat.me.0 (c.seen-seen.result.0 + 1) c.in-Some.field-0.0 (ap (λ (m : Me Unit View). m.0) c.in-Some.ensures.taken.2))
