use Rattle.std.proofs.Common.{◌∙◌, ◌∷◌, ap, Bool}
use Rattle.std.proofs.lemmas.Result.{err_from_is_err_and}
use Rattle.hc_transcript.specs.Literals.{value_text, IsPrintable}
use Rattle.hc_transcript.specs.Fields.{Values, IsContent}
use Rattle.hc_reply.specs.Fields.{content_end}
use Rattle.hc_reply.specs.Rows.{separator}
use Rattle.hc_reply.specs.Mismatches.{Anything, EndsValue}
use Rattle.hc_reply.proofs.Sequences.{mismatch_as}
use Rattle.hc_reply.proofs.Rows.{row_more, written_last, mismatch_in_value, mismatch_at_separator}
use Rattle.hc_reply.proofs.row.row.Goals as goal

pub returns-in_err-next-clause-stop : goal.returns-in_err-next-clause-stop
returns-in_err-next-clause-stop c =
    let p = err_from_is_err_and c.from_residual.result c.from_residual.ensures.1 in
    rw (p.1, p.2)
    (mismatch_as EndsValue Anything IsPrintable value_text (IsContent Values) (content_end Values) c.loop-values.rest.now c.args.bytes.now
    (λ stop s. mismatch_in_value c.loop-values.values c.args.bytes.now c.loop-values.rest.now stop c.loop-values.invariant.are c.loop-values.invariant.written s) c.in_err-next.field-0.0 c.in_err-next.ensures.stop)

pub returns-in_default-clause-stop : goal.returns-in_default-clause-stop
returns-in_default-clause-stop c =
    mismatch_at_separator c.loop-values.values c.in_ok-next.next c.args.bytes.now c.loop-values.rest.now c.in_ok-next.after.now c.loop-values.invariant.are c.in_ok-next.ensures.found.0
    c.loop-values.invariant.written c.in_ok-next.ensures.found.1 c.in_ok-next.ensures.found.2 c.in_default.ensures.none

pub returns-then-is_last-clause-found : goal.returns-then-is_last-clause-found
returns-then-is_last-clause-found c =
    let end = c.in-Some.ensures.some ∙ ap (λ (b : Bool). separator b ∷ c.in-Some.left.now) c.if-is_last.true in
    rw c.in_ok-push.ensures.ok (
      row_more c.loop-values.values c.in_ok-next.next c.loop-values.invariant.are c.in_ok-next.ensures.found.0,
      written_last c.args.bytes.now c.loop-values.rest.now c.in_ok-next.after.now c.in-Some.left.now c.loop-values.values c.in_ok-next.next
          c.loop-values.invariant.written c.in_ok-next.ensures.found.1 end,
    )
