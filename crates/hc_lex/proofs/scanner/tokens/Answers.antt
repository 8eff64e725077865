use Rattle.std.proofs.Common.{rules}
use Rattle.hc_lex.specs.Reading.{HasTokens, IsFaultOf}
use Rattle.hc_lex.proofs.Boundaries.{tokens_lie_at}
use Rattle.hc_lex.proofs.OneReading.{no_fault_beside, no_tokens_beside, only_these_tokens, only_this_fault}
use Rattle.hc_lex.proofs.PlaceLemmas.{tokens_ascend}
use Rattle.hc_lex.proofs.scanner.tokens.Goals as goal
use Rattle.hc_lex.proofs.scanner.tokens.Goals.{After-from_vec, In-Err}

has_tokens : (c : After-from_vec) → HasTokens c.args.text.now c.from_vec.result
has_tokens c = search rules

has_fault : (c : In-Err) → IsFaultOf c.args.text.now c.in-Err.fault
has_fault c = search rules

pub returns-in-Ok-clause-places : goal.returns-in-Ok-clause-places
returns-in-Ok-clause-places c = tokens_ascend c.args.text.now c.from_vec.result (has_tokens c)

pub returns-in-Ok-clause-boundaries : goal.returns-in-Ok-clause-boundaries
returns-in-Ok-clause-boundaries c = tokens_lie_at c.args.text.now c.from_vec.result c.utf8.text (has_tokens c)

pub returns-in-Ok-clause-only_tokens : goal.returns-in-Ok-clause-only_tokens
returns-in-Ok-clause-only_tokens c = only_these_tokens c.args.text.now c.from_vec.result (has_tokens c)

pub returns-in-Ok-clause-only_fault : goal.returns-in-Ok-clause-only_fault
returns-in-Ok-clause-only_fault c = no_fault_beside c.args.text.now c.from_vec.result (has_tokens c)

pub returns-in-Err-clause-only_tokens : goal.returns-in-Err-clause-only_tokens
returns-in-Err-clause-only_tokens c = no_tokens_beside c.args.text.now c.in-Err.fault (has_fault c)

pub returns-in-Err-clause-only_fault : goal.returns-in-Err-clause-only_fault
returns-in-Err-clause-only_fault c = only_this_fault c.args.text.now c.in-Err.fault (has_fault c)
