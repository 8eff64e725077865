use Rattle.std.proofs.Common.{◌≡◌, ℕ, ◌+◌, arith, length, ◌++◌, ◌∷◌, [], refl, codes, subst}
use Rattle.std.proofs.lemmas.Result.{err_from_is_err_and}
use Rattle.hc_transcript.specs.Literals.{hex, blob_literal}
use Rattle.hc_reply.specs.Blobs.{IsBlob, IsWithinLimit}
use Rattle.hc_reply.specs.Mismatches.{Anything}
use Rattle.hc_reply.specs.Words.{IsWord, the_word}
use Rattle.hc_reply.proofs.Sequences.{mismatch_as, mismatch_in_front}
use Rattle.hc_reply.proofs.Blobs.{mismatch_at_end, mismatch_when_full, mismatch_in_byte, nothing_is}
use Rattle.hc_reply.proofs.blob.blob.Goals as goal

pub returns-in_err-rest-clause-stop : goal.returns-in_err-rest-clause-stop
returns-in_err-rest-clause-stop c =
    let p = err_from_is_err_and c.from_residual.result c.from_residual.ensures.1 in
    rw (p.1, p.2)
    (mismatch_as Anything Anything IsWord (the_word (codes "X'")) (IsBlob c.args.limit) blob_literal c.args.bytes.now c.args.bytes.now
    (mismatch_in_front Anything (IsBlob c.args.limit) blob_literal (codes "X'") (λ v. hex v ++ 39 ∷ []) (λ v. refl) [] (nothing_is c.args.limit) c.args.bytes.now)
    c.in_err-rest.field-0.0 c.in_err-rest.ensures.stop)

pub returns-then-not-has_room-clause-stop : goal.returns-then-not-has_room-clause-stop
returns-then-not-has_room-clause-stop c =
    mismatch_when_full c.args.limit c.loop-high.out.items c.args.bytes.now c.loop-high.rest.now c.in-Some.after.now c.in-Some.high c.loop-high.invariant.is c.loop-high.invariant.written
    c.in-Some.ensures.some.0 c.in-Some.ensures.some.1 (subst (λ (n : ℕ). IsWithinLimit c.args.limit (n + 1) → ⊥) (let long : c.len.result ≡ length c.loop-high.out.items = omega (arith, c.len.ensures, c.loop-high.out.ok) in long) (c.has_room.ensures.none c.if-not-has_room.true))

pub returns-in_default-hex_digit-clause-stop : goal.returns-in_default-hex_digit-clause-stop
returns-in_default-hex_digit-clause-stop c =
    mismatch_in_byte c.args.limit c.loop-high.out.items c.args.bytes.now c.loop-high.rest.now c.in-Some.after.now c.in-Some.high c.loop-high.invariant.is c.loop-high.invariant.written
    c.in-Some.ensures.some.0 c.in-Some.ensures.some.1 (subst (λ (n : ℕ). IsWithinLimit c.args.limit (n + 1)) (let long : c.len.result ≡ length c.loop-high.out.items = omega (arith, c.len.ensures, c.loop-high.out.ok) in long) (c.has_room.ensures.some c.if-not-has_room.false)) c.in_default-hex_digit.ensures.none

pub returns-in_default-after_quote-clause-stop : goal.returns-in_default-after_quote-clause-stop
returns-in_default-after_quote-clause-stop c =
    mismatch_at_end c.args.limit c.loop-high.out.items c.args.bytes.now c.loop-high.rest.now c.loop-high.invariant.is c.loop-high.invariant.written
    c.in_default.ensures.none c.in_default-after_quote.ensures.none
