-- Each word goes to its place.
use Rattle.std.proofs.Common.{◌+◌, ◌++◌, take, drop, get_or, set, sym, subst, arith}
use Rattle.hc_rows.specs.Regions.{rows}
use Rattle.hc_rows.proofs.Steps.{row_below, total_small}
use Rattle.hc_rule.specs.Start.{IsLaid}
use Rattle.hc_rule.proofs.Laying.{laid_none, laid_more, laid_all}
use Rattle.hc_steps.proofs.first.lay_row.Goals as goal

pub loop-k-init : goal.loop-k-init
loop-k-init c = laid_none c.args.layout.now c.args.words.now c.args.p.0 c.args.page.now.words c.requires.sized c.requires.page c.requires.long

pub offset_bounds-words-row_at : goal.offset_bounds-words-row_at
offset_bounds-words-row_at c =
    let below = row_below c.args.layout.now c.args.p.0 c.loop-k.k c.requires.page (omega arith) in
    let small = total_small c.args.layout.now c.requires.layout in omega (arith, below, small, c.row_at.ensures)

pub bounds-words-row_at : goal.bounds-words-row_at
bounds-words-row_at c =
    let below = row_below c.args.layout.now c.args.p.0 c.loop-k.k c.requires.page (omega arith) in omega (arith, below, c.row_at.ensures, c.requires.sized, c.loop-k.invariant.sized)

pub loop-k-preserved : goal.loop-k-preserved
loop-k-preserved c =
    let y = c.args.layout.now in
    let words = c.args.words.now in
    let p = c.args.p.0 in
    let row = c.args.page.now.words in
    let k = c.loop-k.k in
    subst (λ place. IsLaid y words (set c.loop-k.words place (get_or row k 0)) p (take (k + 1) row ++ drop (k + 1) (rows y words p))) (sym c.row_at.ensures)
    (laid_more y words p row c.requires.sized c.requires.page c.requires.long c.loop-k.words k (omega arith) c.loop-k.invariant)

pub returns : goal.returns
returns c = laid_all c.args.layout.now c.args.words.now c.args.p.0 c.args.page.now.words c.requires.sized c.requires.page c.requires.long c.loop-k.words c.loop-k.k (omega arith) c.loop-k.invariant
