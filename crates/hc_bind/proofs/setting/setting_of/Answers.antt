use Rattle.std.proofs.Common.{Bool, ap, sym, Some, None}
use Rattle.std.specs.Prelude.{if◌then◌else◌}
use Rattle.hc_schema.specs.Binding.Queries.{Setting, grouping_of}
use Rattle.hc_bind.specs.Scopes.{seen}
use Rattle.hc_bind.proofs.setting.setting_of.Goals as goal

pub returns : goal.returns
returns c =
    let made : Bool → Setting = λ b. record { scope = seen c.args.scope; grouping = if b then Some (grouping_of (seen c.args.scope) c.args.q.now) else None } in
    ap made (sym c.requires)
