use Rattle.std.proofs.Common.{◌∙◌, ap, sym, Ok, map}
use Rattle.hc_schema.specs.Binding.Expressions.{reading_of}
use Rattle.hc_bind.specs.Scopes.{seen}
use Rattle.hc_bind.proofs.Forms.{not_rows, minus_rows, plus_rows, binary_rows, one_of_rows, like_rows, between_rows, call_rows}
use Rattle.hc_bind.proofs.Judging.{each_more, each_why, tells_same}
use Rattle.hc_bind.proofs.row.+on_rows.Goals as goal

pub each_on_rows-loop-e-preserved : goal.each_on_rows-loop-e-preserved
each_on_rows-loop-e-preserved t c =
    each_more (λ e. (reading_of (seen c.args.scope.now) e).on_rows) c.args.list.now c.loop-e.e-index c.e-item.result c.loop-e.found.items c.in-Ok.t c.loop-e-test.true c.e-item.is c.loop-e.invariant c.in-Ok.ensures
    ∙ ap (λ ts. Ok ts) (sym c.in_ok-push-in-Ok.ensures.items)

pub each_on_rows-returns-in-Err : goal.each_on_rows-returns-in-Err
each_on_rows-returns-in-Err t c =
    each_why (λ e. (reading_of (seen c.args.scope.now) e).on_rows) c.args.list.now c.loop-e.e-index c.e-item.result c.loop-e.found.items c.in-Err.fault c.loop-e-test.true c.e-item.is c.loop-e.invariant c.in-Err.ensures

pub on_rows-returns-in-Not : goal.on_rows-returns-in-Not
on_rows-returns-in-Not t c =
    tells_same _ _ c.unary.result (not_rows (seen c.args.scope.now) c.args.e.now c.in-Not.of c.get.result.now c.in-Not.is c.get.ensures) (c.unary.ensures _ c.on_rows.ensures)

pub on_rows-returns-in-Minus : goal.on_rows-returns-in-Minus
on_rows-returns-in-Minus t c =
    tells_same _ _ c.unary-in-Minus.result (minus_rows (seen c.args.scope.now) c.args.e.now c.in-Minus.of c.get-in-Minus.result.now c.in-Minus.is c.get-in-Minus.ensures) (c.unary-in-Minus.ensures _ c.on_rows-in-Minus.ensures)

pub on_rows-returns-in-Plus : goal.on_rows-returns-in-Plus
on_rows-returns-in-Plus t c =
    tells_same _ _ c.unary-in-Plus.result (plus_rows (seen c.args.scope.now) c.args.e.now c.in-Plus.of c.get-in-Plus.result.now c.in-Plus.is c.get-in-Plus.ensures) (c.unary-in-Plus.ensures _ c.on_rows-in-Plus.ensures)

pub on_rows-returns-in-Binary : goal.on_rows-returns-in-Binary
on_rows-returns-in-Binary t c =
    tells_same _ _ c.binary.result
    (binary_rows (seen c.args.scope.now) c.in-Binary.op c.args.e.now c.in-Binary.left c.in-Binary.right c.get-in-Binary.result.now c.get-in-Binary-2.result.now c.in-Binary.is c.get-in-Binary.ensures c.get-in-Binary-2.ensures)
    (c.binary.ensures _ _ c.on_rows-l.ensures c.on_rows-r.ensures)

pub on_rows-returns-in-OneOf : goal.on_rows-returns-in-OneOf
on_rows-returns-in-OneOf t c =
    tells_same _ _ c.one_of.result
    (one_of_rows (seen c.args.scope.now) c.in-OneOf.not c.args.e.now c.in-OneOf.left c.get-in-OneOf.result.now c.in-OneOf.list c.as_slice.result.now c.in-OneOf.is c.get-in-OneOf.ensures c.as_slice.ensures)
    (c.one_of.ensures _ (map (λ x. (reading_of (seen c.args.scope.now) x).on_rows) c.as_slice.result.now) c.on_rows-value.ensures c.each_on_rows-among.ensures)

pub on_rows-returns-in-Like : goal.on_rows-returns-in-Like
on_rows-returns-in-Like t c =
    tells_same _ _ c.like.result
    (like_rows (seen c.args.scope.now) c.in-Like.not c.args.e.now c.in-Like.left c.in-Like.pattern c.get-in-Like.result.now c.get-in-Like-2.result.now c.in-Like.is c.get-in-Like.ensures c.get-in-Like-2.ensures)
    (c.like.ensures _ _ c.on_rows-text.ensures c.on_rows-form.ensures)

pub on_rows-returns-in-Between : goal.on_rows-returns-in-Between
on_rows-returns-in-Between t c =
    tells_same _ _ c.between.result
    (between_rows (seen c.args.scope.now) c.in-Between.not c.args.e.now c.in-Between.left c.in-Between.low c.in-Between.high c.get-in-Between.result.now c.get-in-Between-2.result.now c.get-in-Between-3.result.now c.in-Between.is c.get-in-Between.ensures c.get-in-Between-2.ensures c.get-in-Between-3.ensures)
    (c.between.ensures _ _ _ c.on_rows-middle.ensures c.on_rows-least.ensures c.on_rows-most.ensures)

pub on_rows-returns-in-Call : goal.on_rows-returns-in-Call
on_rows-returns-in-Call t c =
    tells_same _ _ c.row_function.result
    (call_rows (seen c.args.scope.now) c.args.e.now c.in-Call.name c.as_str-in-Call.result.now c.in-Call.args c.as_slice-in-Call.result.now c.in-Call.is (c.as_str-in-Call.ensures.text ∙ c.get-in-Call.ensures) c.as_slice-in-Call.ensures)
    (c.row_function.ensures (map (λ x. (reading_of (seen c.args.scope.now) x).on_rows) c.as_slice-in-Call.result.now) c.each_on_rows-ts.ensures)
