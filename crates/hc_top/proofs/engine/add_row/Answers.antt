use Rattle.std.proofs.Common.{◌≡◌, None, w64, to_z, of_z, arith}
use Rattle.std.proofs.lemmas.Grind.{common_steps}
use Rattle.std.proofs.lemmas.Int.{to_z-of_z}
use Rattle.hc_meaning.specs.Database.{value_at}
use Rattle.hc_top.proofs.Table.{lookup-at, insert_entry-is-with_row}
use Rattle.hc_top.proofs.engine.add_row.Goals as goal

pub returns-in-Occupied-clause-added : goal.returns-in-Occupied-clause-added
returns-in-Occupied-clause-added c =
    let here = lookup-at c.args.rows.now.entries c.args.id (to_z w64 (of_z w64 c.args.id)) (to_z-of_z w64 c.args.id c.ranges.id) in
    grind (arith, common_steps)

pub returns-in-Vacant-clause-added : goal.returns-in-Vacant-clause-added
returns-in-Vacant-clause-added c =
    let here = lookup-at c.args.rows.now.entries c.args.id (to_z w64 (of_z w64 c.args.id)) (to_z-of_z w64 c.args.id c.ranges.id) in
    grind (arith, common_steps)

pub returns-in-Vacant-clause-rows : goal.returns-in-Vacant-clause-rows
returns-in-Vacant-clause-rows c =
    let same : to_z w64 (of_z w64 c.args.id) ≡ c.args.id = to_z-of_z w64 c.args.id c.ranges.id in
    let same_v : to_z w64 (of_z w64 c.args.v) ≡ c.args.v = to_z-of_z w64 c.args.v c.ranges.v in
    let here = lookup-at c.args.rows.now.entries c.args.id (to_z w64 (of_z w64 c.args.id)) same in
    let free : value_at c.args.rows.now.entries c.args.id ≡ None = grind (arith, common_steps) in
    let put = insert_entry-is-with_row c.args.rows.now.entries c.args.id c.args.v c.in_ok-rows.ensures.ordered free in
    grind (arith, common_steps)
