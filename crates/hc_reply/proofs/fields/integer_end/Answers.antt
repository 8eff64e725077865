use Rattle.std.proofs.Common.{[], ◌∷◌, inl, arith, w64, FitsSigned}
use Rattle.std.specs.Fmt.{signed_decimal}
use Rattle.std.proofs.lemmas.Result.{err_from_is_err_and}
use Rattle.hc_transcript.specs.Fields.{Integer, Last, IsHeld}
use Rattle.hc_reply.specs.Fields.{content_end}
use Rattle.hc_reply.specs.Mismatches.{Anything, NoDigit}
use Rattle.hc_reply.specs.Words.{IsWord, the_word}
use Rattle.hc_reply.proofs.Sequences.{mismatch_as, mismatch_before_word, mismatch_in_word}
use Rattle.hc_reply.proofs.Integers.{integer_free}
use Rattle.hc_reply.proofs.FirstBytes.{no_digit_there}
use Rattle.hc_reply.proofs.fields.integer_end.Goals as goal

pub returns-in_err-n-clause-stop : goal.returns-in_err-n-clause-stop
returns-in_err-n-clause-stop c =
    let p = err_from_is_err_and c.from_residual.result c.from_residual.ensures.1 in
    rw (p.1, p.2)
    (mismatch_as NoDigit Anything (FitsSigned w64) signed_decimal (IsHeld Integer) (content_end (Last Integer)) c.args.bytes.now c.args.bytes.now
    (λ rest s. mismatch_before_word NoDigit (FitsSigned w64) signed_decimal (10 ∷ []) (λ rest. inl (omega arith)) c.args.bytes.now rest s) c.in_err-n.field-0.0 c.in_err-n.ensures.stop)

pub returns-in_err-rest-clause-stop : goal.returns-in_err-rest-clause-stop
returns-in_err-rest-clause-stop c =
    let p = err_from_is_err_and c.from_residual-in_err-rest.result c.from_residual-in_err-rest.ensures.1 in
    rw (p.1, p.2)
    (mismatch_as Anything Anything IsWord (the_word (10 ∷ [])) (IsHeld Integer) (content_end (Last Integer)) c.in_ok-n.after.now c.args.bytes.now
    (λ rest s. mismatch_in_word NoDigit (FitsSigned w64) signed_decimal (10 ∷ []) (λ rest. inl (omega arith)) integer_free no_digit_there
    c.args.bytes.now c.in_ok-n.after.now rest c.in_ok-n.n c.in_ok-n.ensures.found.0 c.in_ok-n.ensures.found.1 c.in_ok-n.ensures.found.2 s) c.in_err-rest.field-0.0 c.in_err-rest.ensures.stop)
