use Rattle.std.proofs.Common.{◌+◌}
use Rattle.hc_meaning.specs.declared.command.Command.TheVariants.{Begin}
use Rattle.hc_judge.proofs.Walks.{is_not_over}
use Rattle.hc_judge.proofs.cutting.is_last.Goals as goal

pub returns-then-at-commands : goal.returns-then-at-commands
returns-then-at-commands c = is_not_over c.args.commands.now (c.args.at + 1) Begin c.if-at-commands.true
