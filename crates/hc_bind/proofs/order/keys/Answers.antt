use Rattle.std.proofs.Common.{◌∙◌, ap, sym, Ok}
use Rattle.hc_schema.specs.Binding.Queries.{sorted_by}
use Rattle.hc_bind.specs.Settings.{read_on}
use Rattle.hc_bind.specs.Sorted.{items_of}
use Rattle.hc_bind.proofs.Judging.{each_more, each_why}
use Rattle.hc_bind.proofs.order.keys.Goals as goal

pub loop-t-preserved : goal.loop-t-preserved
loop-t-preserved c =
    each_more (sorted_by (read_on c.args.setting.now) c.args.sought.now.distinct (items_of c.args.sought.now)) c.args.terms.now c.loop-t.t-index c.t-item.result c.loop-t.found c.in-Ok.key c.loop-t-test.true c.t-item.is c.loop-t.invariant c.in-Ok.ensures
    ∙ ap (λ v. Ok v) (sym c.in_ok-push-in-Ok.ensures.ok)

pub returns-in-Err : goal.returns-in-Err
returns-in-Err c =
    each_why (sorted_by (read_on c.args.setting.now) c.args.sought.now.distinct (items_of c.args.sought.now)) c.args.terms.now c.loop-t.t-index c.t-item.result c.loop-t.found c.in-Err.fault c.loop-t-test.true c.t-item.is c.loop-t.invariant c.in-Err.ensures
