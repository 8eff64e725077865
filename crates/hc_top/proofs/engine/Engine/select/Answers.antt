use Rattle.std.proofs.Common.{◌∙◌, ap, ℤ, w64}
use Rattle.std.specs.Ordering.{int_cmp}
use Rattle.std.specs.BTreeMap.{get_by}
use Rattle.std.proofs.lemmas.Int.{to_z-of_z}
use Rattle.hc_top.proofs.Table.{lookup-is-value_at}
use Rattle.hc_top.proofs.Selected.{select_reply}
use Rattle.hc_top.proofs.engine.Engine.select.Goals as goal

pub returns : goal.returns
returns c =
    let rows = c.args.self.now.rows in
    let same = ap (λ (key : ℤ). get_by (int_cmp key) rows) (to_z-of_z w64 c.args.id c.ranges.id) in
    select_reply c.args.self.now.commits rows.entries c.args.id _ _ c.copied.result c.args.self.now.in_order
    (c.copied.ensures ∙ c.get.ensures.value ∙ same ∙ lookup-is-value_at rows.entries c.args.id) c.in_ok-rows.ensures c.len-count.ensures
