use Rattle.std.proofs.Common.{◌≡◌, ◌∙◌, ◌+◌, ◌-◌, ◌<◌, ◌≤◌, length, ap, subst, arith, refl, length-append}
use Rattle.hc_lex.specs.declared.statements.Span.{Span}
use Rattle.hc_lex.specs.Pieces.{Skips}
use Rattle.hc_lex.specs.Statements.{IsPart}
use Rattle.hc_lex.proofs.Lengths.{part_moves}
use Rattle.hc_lex.proofs.SpansSoFar.{all_cut, blank_read, end_read, no_span_yet, own_read, unread_within, ordinary_read}
use Rattle.hc_lex.proofs.statements.cut_all.Goals as goal

pub loop-first-init : goal.loop-first-init
loop-first-init c = no_span_yet c.args.bytes.now c.new-spans.result.items c.new-spans.ensures.items

pub overflow_sub-from : goal.overflow_sub-from
overflow_sub-from c = unread_within c.args.bytes.now c.loop-first.rest.now _ _ c.loop-first.invariant

pub overflow_sub-to : goal.overflow_sub-to
overflow_sub-to c =
    let within : length c.loop-first.rest.now ≤ length c.args.bytes.now = unread_within c.args.bytes.now c.loop-first.rest.now _ _ c.loop-first.invariant in
    let word = c.skip_ordinary-rest.ensures in
    let shorter : length c.read_part-part.result.1.now ≡ length word.0 + length c.skip_ordinary-rest.result.now = ap length word.1 ∙ length-append word.0 c.skip_ordinary-rest.result.now in
    let moves : length c.read_part-part.result.1.now < length c.loop-first.rest.now = part_moves _ c.loop-first.rest.now c.read_part-part.result.1.now c.read_part-part.ensures in
    omega (arith, within, shorter, moves)

pub loop-first-preserved-in-Blank : goal.loop-first-preserved-in-Blank
loop-first-preserved-in-Blank c =
    blank_read c.args.bytes.now c.loop-first.rest.now c.read_part-part.result.1.now _ _ c.loop-first.invariant
    (subst (λ part. Skips (IsPart part) c.loop-first.rest.now c.read_part-part.result.1.now) c.in-Blank.is c.read_part-part.ensures)

pub loop-first-preserved-in-Statement : goal.loop-first-preserved-in-Statement
loop-first-preserved-in-Statement c =
    let after = c.read_part-part.result.1.now in
    let word = c.skip_ordinary-rest.ensures in
    let before : Span = record { from = c.with_bytes.result.from; to = length c.args.bytes.now - length after } in
    ordinary_read word.0 c.args.bytes.now after c.skip_ordinary-rest.result.now _ before c.with_bytes.result
    (own_read c.args.bytes.now c.loop-first.rest.now after _ c.loop-first.unfinished before _ (length c.args.bytes.now - length after) c.loop-first.invariant
    (subst (λ part. Skips (IsPart part) c.loop-first.rest.now after) c.in-Statement.is c.read_part-part.ensures)
    refl refl c.with_bytes.ensures.from refl (part_moves _ c.loop-first.rest.now after c.read_part-part.ensures))
    word.1 word.2 refl refl c.with_bytes.ensures.to

pub loop-first-preserved : goal.loop-first-preserved
loop-first-preserved c =
    end_read c.args.bytes.now c.loop-first.rest.now c.read_part-part.result.1.now _ _ c.loop-first.unfinished c.loop-first.invariant
    (subst (λ part. Skips (IsPart part) c.loop-first.rest.now c.read_part-part.result.1.now) c.in-Separator.is c.read_part-part.ensures) c.in_ok-push_if-in-Separator.ensures

pub returns : goal.returns
returns c = all_cut c.args.bytes.now c.loop-first.rest.now _ _ c.loop-first.unfinished c.loop-first.invariant c.in_default.ensures.cases c.in_ok-push_if.ensures
