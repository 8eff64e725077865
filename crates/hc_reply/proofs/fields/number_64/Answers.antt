use Rattle.std.proofs.Common.{[], ◌∷◌, ◌++◌, refl, arith}
use Rattle.std.specs.Prelude.{decimal}
use Rattle.std.proofs.lemmas.Result.{err_from_is_err_and}
use Rattle.hc_transcript.specs.Fields.{Number64, IsHeld}
use Rattle.hc_reply.specs.Numbers.{IsWithin}
use Rattle.hc_reply.specs.Mismatches.{Anything}
use Rattle.hc_reply.proofs.Sequences.{mismatch_as, mismatch_as_other}
use Rattle.hc_reply.proofs.fields.number_64.Goals as goal

pub returns-in_err-n-clause-stop : goal.returns-in_err-n-clause-stop
returns-in_err-n-clause-stop c =
    let p = err_from_is_err_and c.from_residual.result c.from_residual.ensures.1 in
    rw (p.1, p.2)
    (mismatch_as Anything Anything (IsWithin 0 18446744073709551615) (λ n. decimal n ++ (10 ∷ [])) (IsHeld Number64) (λ n. decimal n ++ (10 ∷ [])) c.args.bytes.now c.args.bytes.now
    (mismatch_as_other Anything (IsWithin 0 18446744073709551615) (IsHeld Number64) (λ n. decimal n ++ (10 ∷ [])) (λ n. decimal n ++ (10 ∷ [])) (λ n h. omega (arith, h.1)) (λ n h. (omega arith, omega (arith, h))) (λ n. refl) c.args.bytes.now)
    c.in_err-n.field-0.0 c.in_err-n.ensures.stop)
