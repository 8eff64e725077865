use Rattle.std.proofs.Common.{subst}
use Rattle.hc_lex.specs.Reading.{IsNextToken}
use Rattle.hc_lex.proofs.TokensBetween.{all_read, faulty, one_more}
use Rattle.hc_lex.proofs.scanner.read_all.Goals as goal

pub loop-token-preserved : goal.loop-token-preserved
loop-token-preserved c =
    one_more c.args.text.now c.loop-token.at c.in-Ok-Some.token _ _ c.loop-token.invariant
    (subst (λ next. IsNextToken c.args.text.now c.loop-token.at next) c.in-Ok-Some.field-0-is c.in-Ok-Some.ensures.token) c.in_ok-push-in-Ok-Some.ensures.items

pub returns-in-Ok-None-clause-tokens : goal.returns-in-Ok-None-clause-tokens
returns-in-Ok-None-clause-tokens c =
    all_read c.args.text.now c.loop-token.at _ c.loop-token.invariant
    (subst (λ next. IsNextToken c.args.text.now c.loop-token.at next) c.in-Ok-None.field-0-is c.in-Ok-None.ensures.token)

pub returns-in-Err-clause-fault : goal.returns-in-Err-clause-fault
returns-in-Err-clause-fault c = faulty c.args.text.now c.loop-token.at _ c.in-Err.fault c.loop-token.invariant c.in-Err.ensures.fault
