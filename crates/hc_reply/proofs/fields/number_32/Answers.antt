use Rattle.std.proofs.Common.{◌++◌, refl, arith}
use Rattle.std.specs.Prelude.{decimal}
use Rattle.std.proofs.lemmas.Result.{err_from_is_err_and}
use Rattle.hc_transcript.specs.Fields.{Number32, IsHeld}
use Rattle.hc_reply.specs.Numbers.{IsWithin}
use Rattle.hc_reply.specs.Mismatches.{Anything}
use Rattle.hc_reply.proofs.Sequences.{mismatch_as, mismatch_as_other}
use Rattle.hc_reply.proofs.fields.number_32.Goals as goal

pub returns-in_err-n-clause-stop : goal.returns-in_err-n-clause-stop
returns-in_err-n-clause-stop c =
    let p = err_from_is_err_and c.from_residual.result c.from_residual.ensures.1 in
    rw (p.1, p.2)
    (mismatch_as Anything Anything (IsWithin 0 4294967295) (λ n. decimal n ++ c.args.words.now) (IsHeld Number32) (λ n. decimal n ++ c.args.words.now) c.args.bytes.now c.args.bytes.now
    (mismatch_as_other Anything (IsWithin 0 4294967295) (IsHeld Number32) (λ n. decimal n ++ c.args.words.now) (λ n. decimal n ++ c.args.words.now) (λ n h. omega (arith, h.1)) (λ n h. (omega arith, omega (arith, h))) (λ n. refl) c.args.bytes.now)
    c.in_err-n.field-0.0 c.in_err-n.ensures.stop)
