use Rattle.std.proofs.Common.{rules}
use Rattle.hc_lex.specs.Statements.{HasStatements}
use Rattle.hc_lex.proofs.Boundaries.{statements_lie_at}
use Rattle.hc_lex.proofs.OneReading.{statements_are_one}
use Rattle.hc_lex.proofs.PlaceLemmas.{statements_ascend}
use Rattle.hc_lex.proofs.statements.cut.Goals as goal
use Rattle.hc_lex.proofs.statements.cut.Goals.{After-from_vec}

has_statements : (c : After-from_vec) → HasStatements c.args.text.now c.from_vec.result
has_statements c = search rules

pub returns-clause-places : goal.returns-clause-places
returns-clause-places c = statements_ascend c.args.text.now c.from_vec.result (has_statements c)

pub returns-clause-boundaries : goal.returns-clause-boundaries
returns-clause-boundaries c = statements_lie_at c.args.text.now c.from_vec.result c.utf8.text (has_statements c)

pub returns-clause-only : goal.returns-clause-only
returns-clause-only c = λ others is. statements_are_one c.args.text.now others c.from_vec.result is (has_statements c)
