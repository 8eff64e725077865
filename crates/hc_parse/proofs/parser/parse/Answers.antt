use Rattle.hc_parse.proofs.Answered.{only_statement, only_fault}
use Rattle.hc_parse.proofs.parser.parse.Goals as goal

pub returns-clause-only_statement : goal.returns-clause-only_statement
returns-clause-only_statement c = only_statement c.args.text.now c.args.tokens.now c.read.result c.read.ensures

pub returns-clause-only_fault : goal.returns-clause-only_fault
returns-clause-only_fault c = only_fault c.args.text.now c.args.tokens.now c.read.result c.read.ensures
