use Rattle.std.proofs.Common.{FitsSigned, w64}
use Rattle.std.proofs.lemmas.Int.{to_z-of_z}
use Rattle.hc_meaning.proofs.Table.Rows.{parts_joined}
use Rattle.hc_meaning.proofs.reference.rows.with_row.Goals as goal

pub returns : goal.returns
returns c =
    let id_fits : FitsSigned w64 c.args.id = c.ranges.id in
    let v_fits : FitsSigned w64 c.args.v = c.ranges.v in
    let pushed = simp to_z-of_z at c.in_ok-push.ensures.ok in
    let below = simp to_z-of_z at c.in_ok-rows.ensures in
    let above = simp to_z-of_z at c.in_ok-rows_above.ensures in
    parts_joined c.append.new.self c.push.new.self c.in_ok-rows.rows c.in_ok-rows_above.field-0 _ _ (c.args.id, c.args.v) c.in_ok-append.ensures pushed below above
