use Rattle.std.proofs.Common.{◌∙◌, ◌<◌, length, ap, sym, map, drop, arith, ◌+◌}
use Rattle.std.specs.Prelude.{◌&&◌}
use Rattle.std.proofs.lemmas.List.{drop_all}
use Rattle.hc_schema.specs.Binding.Changes.{all_fit_columns}
use Rattle.hc_bind.specs.Places.{placed_of}
use Rattle.hc_bind.proofs.Columns.{fit_more, none_left}
use Rattle.hc_bind.proofs.change.all_fit_columns.Goals as goal

pub loop-i-preserved : goal.loop-i-preserved
loop-i-preserved c =
    let at_place : c.loop-i.i < length c.args.places.now = omega (arith, c.requires) in
    c.loop-i.invariant
    ∙ fit_more c.args.places.now c.args.row.now c.loop-i.i _ c.index-row-i.result at_place c.loop-i-test.true c.index-row-i.is
    ∙ ap (λ b. b && all_fit_columns (map placed_of (drop (c.loop-i.i + 1) c.args.places.now)) (drop (c.loop-i.i + 1) c.args.row.now)) (sym c.fits.ensures ∙ c.if-not-fits.false)

pub returns-then-not-fits : goal.returns-then-not-fits
returns-then-not-fits c =
    let at_place : c.loop-i.i < length c.args.places.now = omega (arith, c.requires) in
    sym (c.loop-i.invariant
    ∙ fit_more c.args.places.now c.args.row.now c.loop-i.i _ c.index-row-i.result at_place c.loop-i-test.true c.index-row-i.is
    ∙ ap (λ b. b && all_fit_columns (map placed_of (drop (c.loop-i.i + 1) c.args.places.now)) (drop (c.loop-i.i + 1) c.args.row.now)) (sym c.fits.ensures ∙ c.if-not-fits.true))

pub returns : goal.returns
returns c =
    sym (c.loop-i.invariant
    ∙ ap (all_fit_columns (map placed_of (drop c.loop-i.i c.args.places.now))) (drop_all c.loop-i.i c.args.row.now c.loop-i-test.false)
    ∙ none_left (map placed_of (drop c.loop-i.i c.args.places.now)))
