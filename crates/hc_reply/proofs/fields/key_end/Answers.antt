use Rattle.std.proofs.Common.{[], ◌∷◌, Some, refl}
use Rattle.std.proofs.lemmas.Result.{err_from_is_err_and}
use Rattle.hc_range.specs.declared.key.TheConstants.{LONGEST_KEY}
use Rattle.hc_transcript.specs.Literals.{blob_literal}
use Rattle.hc_transcript.specs.Fields.{Key, Last, IsHeld}
use Rattle.hc_reply.specs.Blobs.{IsBlob}
use Rattle.hc_reply.specs.Fields.{content_end}
use Rattle.hc_reply.specs.Mismatches.{Anything}
use Rattle.hc_reply.specs.Words.{IsWord, the_word}
use Rattle.hc_reply.proofs.Sequences.{mismatch_as, mismatch_before_word, mismatch_in_word, mismatch_as_other}
use Rattle.hc_reply.proofs.Blobs.{blob_free}
use Rattle.hc_reply.proofs.fields.key_end.Goals as goal

pub returns-in_err-key-clause-stop : goal.returns-in_err-key-clause-stop
returns-in_err-key-clause-stop c =
    let p = err_from_is_err_and c.from_residual.result c.from_residual.ensures.1 in
    rw (p.1, p.2)
    (mismatch_as Anything Anything (IsBlob (Some LONGEST_KEY)) blob_literal (IsHeld Key) (content_end (Last Key)) c.args.bytes.now c.args.bytes.now
    (λ rest s. mismatch_as_other Anything (IsBlob (Some LONGEST_KEY)) (IsHeld Key) (content_end (Last Key)) (content_end (Last Key)) (λ v h. (h.1, h.0)) (λ v h. (h.1, h.0)) (λ v. refl) c.args.bytes.now rest
    (mismatch_before_word Anything (IsBlob (Some LONGEST_KEY)) blob_literal (10 ∷ []) (λ rest. tt) c.args.bytes.now rest s)) c.in_err-key.field-0.0 c.in_err-key.ensures.stop)

pub returns-in_err-rest-clause-stop : goal.returns-in_err-rest-clause-stop
returns-in_err-rest-clause-stop c =
    let p = err_from_is_err_and c.from_residual-in_err-rest.result c.from_residual-in_err-rest.ensures.1 in
    rw (p.1, p.2)
    (mismatch_as Anything Anything IsWord (the_word (10 ∷ [])) (IsHeld Key) (content_end (Last Key)) c.in_ok-key.after.now c.args.bytes.now
    (λ rest s. mismatch_as_other Anything (IsBlob (Some LONGEST_KEY)) (IsHeld Key) (content_end (Last Key)) (content_end (Last Key)) (λ v h. (h.1, h.0)) (λ v h. (h.1, h.0)) (λ v. refl) c.args.bytes.now rest
    (mismatch_in_word Anything (IsBlob (Some LONGEST_KEY)) blob_literal (10 ∷ []) (λ rest. tt) (blob_free (Some LONGEST_KEY)) (λ r o same any. tt)
    c.args.bytes.now c.in_ok-key.after.now rest c.in_ok-key.key.items c.in_ok-key.ensures.found.0 c.in_ok-key.ensures.found.1 tt s)) c.in_err-rest.field-0.0 c.in_err-rest.ensures.stop)
