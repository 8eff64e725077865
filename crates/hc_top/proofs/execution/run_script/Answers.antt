-- Each row of the replies has a value, since they are those of the serial run.
use Rattle.std.proofs.Common.{◌∙◌, List, sym, subst}
use Rattle.std.specs.List.{AllByRecursion}
use Rattle.hc_transcript.specs.declared.reply.Reply.{Reply}
use Rattle.hc_transcript.specs.Outputs.{RowsHaveValues}
use Rattle.hc_meaning.specs.Database.{empty_db}
use Rattle.hc_meaning.proofs.SerialRun.RowsHaveValues.{played_have_values}
use Rattle.hc_top.proofs.execution.run_script.Goals as goal

pub print-requires-2-clause-values : goal.print-requires-2-clause-values
print-requires-2-clause-values c = (
  subst (λ (replies : List Reply). AllByRecursion RowsHaveValues replies) (sym (c.from_vec-replies.ensures ∙ c.in_ok-replies.ensures)) (played_have_values 0 empty_db c.args.statements.now),
  tt,
)
