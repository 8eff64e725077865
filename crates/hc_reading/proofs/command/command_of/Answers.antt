use Rattle.std.proofs.Common.{subst}
use Rattle.hc_lex.specs.Reading.{IsFaultOf}
use Rattle.hc_grammar.specs.Laws.{ALexicalFault}
use Rattle.hc_transcript.specs.declared.refusal.Refusal.TheVariants as refusal
use Rattle.hc_meaning.specs.declared.command.Command.TheVariants as command
use Rattle.hc_reading.proofs.command.command_of.Goals as goal

pub returns-in-Err-Bad : goal.returns-in-Err-Bad
returns-in-Err-Bad c = (
  ALexicalFault c.in-Err-Bad.kind c.in-Err-Bad.at,
  subst (IsFaultOf c.args.text.now) c.in-Err-Bad.field-0-is c.in-Err-Bad.ensures.fault,
  λ i. command.Fault (refusal.Lex (c.in-Err-Bad.kind-is i) (c.in-Err-Bad.at-is i)),
)
