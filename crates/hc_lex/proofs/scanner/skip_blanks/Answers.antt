use Rattle.std.proofs.Common.{◌∙◌, ap, drop}
use Rattle.hc_lex.proofs.TokensBetween.{no_blanks, one_blank, rest_within}
use Rattle.hc_lex.proofs.scanner.skip_blanks.Goals as goal

pub loop-after-init : goal.loop-after-init
loop-after-init c = no_blanks _ c.split_at.result.1.now (c.split_at.ensures.back ∙ ap (λ bytes. drop c.args.from bytes) c.as_bytes.ensures.value)

pub loop-after-preserved : goal.loop-after-preserved
loop-after-preserved c = one_blank _ c.loop-after.rest.now c.in-Some.after.now c.loop-after.invariant c.in-Some.ensures.some

pub returns-clause-within : goal.returns-clause-within
returns-clause-within c = rest_within c.args.text.now c.args.from _ c.loop-after.invariant
