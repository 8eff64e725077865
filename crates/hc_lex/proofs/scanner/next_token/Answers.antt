use Rattle.std.proofs.Common.{refl}
use Rattle.hc_lex.proofs.TokensBetween.{fault_after, token_after}
use Rattle.hc_lex.proofs.scanner.next_token.Goals as goal

pub returns-in-Ok-clause-token : goal.returns-in-Ok-clause-token
returns-in-Ok-clause-token c =
    token_after c.args.text.now c.args.from c.skip_blanks-rest.result.now c.in-Ok.after.now c.in-Ok.kind _ _ c.requires.within c.skip_blanks-rest.ensures.blanks c.in-Ok.ensures.ok refl refl

pub returns-in-Err-clause-fault : goal.returns-in-Err-clause-fault
returns-in-Err-clause-fault c =
    fault_after c.args.text.now c.args.from c.skip_blanks-rest.result.now _ _ c.in-Err.flaw.offset c.in-Err.flaw.kind c.requires.within c.skip_blanks-rest.ensures.blanks c.in-Err.ensures.err refl refl
