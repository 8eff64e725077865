use Rattle.std.proofs.lemmas.Result.{err_from_is_err_and}
use Rattle.hc_transcript.specs.Words.{tag_words}
use Rattle.hc_transcript.specs.Table.{fields}
use Rattle.hc_reply.specs.Fields.{content_end}
use Rattle.hc_reply.specs.Lines.{IsExpected, FitsFrom, MayCome, output_line_text}
use Rattle.hc_reply.specs.Mismatches.{Anything}
use Rattle.hc_reply.proofs.Sequences.{mismatch_as}
use Rattle.hc_reply.proofs.Lines.{mismatch_in_tag, mismatch_after_tag, line_found}
use Rattle.hc_reply.proofs.output_line.read_line.Goals as goal

pub returns-in_err-tag-clause-stop : goal.returns-in_err-tag-clause-stop
returns-in_err-tag-clause-stop c =
    let p = err_from_is_err_and c.from_residual.result c.from_residual.ensures.1 in
    rw (p.1, p.2)
    (mismatch_as Anything Anything (MayCome c.args.allowed) tag_words (IsExpected c.args.allowed c.args.low) output_line_text c.args.bytes.now c.args.bytes.now
    (λ rest s. mismatch_in_tag c.args.allowed c.args.low c.requires.low c.args.bytes.now rest s) c.in_err-tag.field-0.0 c.in_err-tag.ensures.stop)

pub returns-in_err-line-clause-stop : goal.returns-in_err-line-clause-stop
returns-in_err-line-clause-stop c =
    let p = err_from_is_err_and c.from_residual-in_err-line.result c.from_residual-in_err-line.ensures.1 in
    let found = c.in_ok-tag.ensures.found in
    rw (p.1, p.2)
    (mismatch_as Anything Anything (FitsFrom c.args.low c.in_ok-tag.tag) (content_end (fields c.in_ok-tag.tag)) (IsExpected c.args.allowed c.args.low) output_line_text c.in_ok-tag.after.now c.args.bytes.now
    (λ rest s. mismatch_after_tag c.args.allowed c.args.low c.in_ok-tag.tag c.args.bytes.now c.in_ok-tag.after.now rest found.0 found.1 s) c.in_err-line.field-0.0 c.in_err-line.ensures.stop)

pub returns-clause-found : goal.returns-clause-found
returns-clause-found c =
    let found = c.in_ok-tag.ensures.found in
    line_found c.args.allowed c.args.low c.in_ok-tag.tag c.args.bytes.now c.in_ok-tag.after.now c.in_ok-line.rest.now c.in_ok-line.line found.0 found.1 c.in_ok-line.ensures.found
