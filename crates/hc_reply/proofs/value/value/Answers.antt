use Rattle.std.proofs.Common.{None, codes, w64, FitsSigned}
use Rattle.std.specs.Str.{IsUtf8}
use Rattle.std.specs.Fmt.{signed_decimal}
use Rattle.std.proofs.lemmas.Result.{err_from_is_err_and}
use Rattle.hc_transcript.specs.Literals.{text_literal, blob_literal, value_text}
use Rattle.hc_transcript.specs.Literals.{IsPrintable}
use Rattle.hc_reply.specs.Blobs.{IsBlob}
use Rattle.hc_reply.specs.Mismatches.{Anything, NoDigit, NoQuote, EndsValue}
use Rattle.hc_reply.specs.Words.{IsWord, the_word}
use Rattle.hc_reply.proofs.Sequences.{mismatch_as}
use Rattle.hc_reply.proofs.Values.{null_stuck, text_stuck, blob_stuck, integer_stuck, may_be_integer}
use Rattle.hc_reply.proofs.value.value.Goals as goal

pub returns-in_err-rest-clause-stop : goal.returns-in_err-rest-clause-stop
returns-in_err-rest-clause-stop c =
    let p = err_from_is_err_and c.from_residual.result c.from_residual.ensures.1 in
    let first = c.begins.ensures.some c.if-begins.true in
    rw (p.1, p.2)
    (mismatch_as Anything EndsValue IsWord (the_word (codes "NULL")) IsPrintable value_text c.args.bytes.now c.args.bytes.now
    (λ rest s. null_stuck c.args.bytes.now rest first.0 first.1 s) c.in_err-rest.field-0.0 c.in_err-rest.ensures.stop)

pub returns-in_err-text-clause-stop : goal.returns-in_err-text-clause-stop
returns-in_err-text-clause-stop c =
    let p = err_from_is_err_and c.from_residual-in_err-text.result c.from_residual-in_err-text.ensures.1 in
    let first = c.begins-2.ensures.some c.if-begins-2.true in
    rw (p.1, p.2)
    (mismatch_as NoQuote EndsValue IsUtf8 text_literal IsPrintable value_text c.args.bytes.now c.args.bytes.now
    (λ rest s. text_stuck c.args.bytes.now rest first.0 first.1 s) c.in_err-text.field-0.0 c.in_err-text.ensures.stop)

pub returns-in_err-bytes-clause-stop : goal.returns-in_err-bytes-clause-stop
returns-in_err-bytes-clause-stop c =
    let p = err_from_is_err_and c.from_residual-in_err-bytes.result c.from_residual-in_err-bytes.ensures.1 in
    let first = c.begins-3.ensures.some c.if-begins-3.true in
    rw (p.1, p.2)
    (mismatch_as Anything EndsValue (IsBlob None) blob_literal IsPrintable value_text c.args.bytes.now c.args.bytes.now
    (λ rest s. blob_stuck c.args.bytes.now rest first.0 first.1 s) c.in_err-bytes.field-0.0 c.in_err-bytes.ensures.stop)

pub returns-in_err-n-clause-stop : goal.returns-in_err-n-clause-stop
returns-in_err-n-clause-stop c =
    let p = err_from_is_err_and c.from_residual-in_err-n.result c.from_residual-in_err-n.ensures.1 in
    let may = may_be_integer c.args.bytes.now (c.begins.ensures.none c.if-begins.false) (c.begins-2.ensures.none c.if-begins-2.false) (c.begins-3.ensures.none c.if-begins-3.false) in
    rw (p.1, p.2)
    (mismatch_as NoDigit EndsValue (FitsSigned w64) signed_decimal IsPrintable value_text c.args.bytes.now c.args.bytes.now
    (λ rest s. integer_stuck c.args.bytes.now rest may s) c.in_err-n.field-0.0 c.in_err-n.ensures.stop)
