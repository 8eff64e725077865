use Rattle.std.proofs.Common.{ap}
use Rattle.hc_schema.specs.Binding.Queries.{having}
use Rattle.hc_bind.specs.Settings.{read_on}
use Rattle.hc_bind.proofs.Judging.{tells_same}
use Rattle.hc_bind.proofs.query.having.Goals as goal

pub returns-in-Some : goal.returns-in-Some
returns-in-Some c =
    tells_same _ _ c.chosen.result (ap (having (read_on c.args.setting.now)) c.in-Some.is)
    (c.chosen.ensures _ (c.condition.ensures _ c.result_of.ensures))
