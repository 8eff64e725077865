use Rattle.std.proofs.Common.{◌∙◌, sym, ap, map, Ok}
use Rattle.hc_schema.specs.Binding.Changes.{new_row}
use Rattle.hc_bind.specs.Places.{placed_of}
use Rattle.hc_bind.proofs.Judging.{each_more, each_why}
use Rattle.hc_bind.proofs.change.new_rows.Goals as goal

pub loop-row-preserved : goal.loop-row-preserved
loop-row-preserved c =
    each_more (new_row (map placed_of c.args.places.now)) c.args.rows.now c.loop-row.row-index c.row-item.result c.loop-row.found c.in-Ok.row c.loop-row-test.true c.row-item.is c.loop-row.invariant c.in-Ok.ensures
    ∙ ap (λ v. Ok v) (sym c.in_ok-push-in-Ok.ensures.ok)

pub returns-in-Err : goal.returns-in-Err
returns-in-Err c =
    each_why (new_row (map placed_of c.args.places.now)) c.args.rows.now c.loop-row.row-index c.row-item.result c.loop-row.found c.in-Err.fault c.loop-row-test.true c.row-item.is c.loop-row.invariant c.in-Err.ensures
