use Rattle.std.proofs.Common.{refl, subst}
use Rattle.hc_grammar.specs.Laws.{ASyntaxFault, AStatement, ATooDeep}
use Rattle.hc_parse.specs.Laws.{IsCauseOf}
use Rattle.hc_reading.proofs.command.parsed.Goals as goal

pub returns-in-Ok : goal.returns-in-Ok
returns-in-Ok c = (AStatement c.in-Ok.statement, (c.args.tokens.now, c.requires.tokens, c.in-Ok.ensures.statement), c.command_of_statement.ensures)

pub returns-in-Err-Syntax : goal.returns-in-Err-Syntax
returns-in-Err-Syntax c = (
  ASyntaxFault c.in-Err-Syntax.at,
  (c.args.tokens.now, c.requires.tokens, subst (IsCauseOf c.args.text.now c.args.tokens.now) c.in-Err-Syntax.field-0-is c.in-Err-Syntax.ensures.fault),
  refl,
)

pub returns-in-Err-TooDeep : goal.returns-in-Err-TooDeep
returns-in-Err-TooDeep c = (
  ATooDeep c.in-Err-TooDeep.at,
  (c.args.tokens.now, c.requires.tokens, subst (IsCauseOf c.args.text.now c.args.tokens.now) c.in-Err-TooDeep.field-0-is c.in-Err-TooDeep.ensures.fault),
  refl,
)
