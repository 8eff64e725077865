use Rattle.std.proofs.Common.{◌≡◌, ◌≤◌, [], ◌∷◌, inl, inr, length, take, get_or, sym, subst, ◌∙◌, rules, arith}
use Rattle.std.proofs.lemmas.List.{take_more, take_all}
use Rattle.hc_base.specs.Lookup.{Among}
use Rattle.hc_schema.specs.Cells.{cell_of}
use Rattle.hc_schema.specs.Trees.{greatest, tree_numbers}
use Rattle.hc_schema.proofs.Orders.{among_either}
use Rattle.hc_schema.proofs.TreeNumbers.{telling, told, greatest_at_most, among_item, next_is}
use Rattle.hc_schema.proofs.tree.next_tree.Goals as goal

pub loop-cell-preserved : goal.loop-cell-preserved
loop-cell-preserved c =
    let cells = c.args.catalog.now in
    let cell = c.cell-item.result in
    record {
      fits = omega (arith, c.max-greatest.type_inv);
      below = λ tables is.
          let tells = telling tables cells cell is (among_item cells c.loop-cell.cell-index cell c.cell-item.is c.loop-cell-test.true) in
          omega (arith, c.loop-cell.invariant.below tables is, c.max-greatest.ensures, c.tree_told.ensures tells.0 tells.2.n tells.2.is tells.1, tells.2.most);
      above = λ e n is among.
          elim (among_either (cell_of e) (take c.loop-cell.cell-index cells) (get_or cells c.loop-cell.cell-index cell ∷ []) (subst (Among (cell_of e)) (take_more cells c.loop-cell.cell-index cell c.loop-cell-test.true) among)) [
            | inl old ↦ omega (arith, c.loop-cell.invariant.above e n is old, c.max-greatest.ensures)
            | inr (inl same) ↦ omega (arith, c.tree_told.ensures e n is (c.cell-item.is ∙ sym same), c.max-greatest.ensures)
            | inr (inr none) ↦ absurd none
          ];
    }

pub returns : goal.returns
returns c tables is =
    let cells = c.args.catalog.now in
    let done : length cells ≤ c.loop-cell.cell-index = search (rules, c.loop-cell-test.false) in
    let all = take_all c.loop-cell.cell-index cells done in
    let most : greatest (tree_numbers tables) ≤ c.loop-cell.greatest =
    greatest_at_most (tree_numbers tables) c.loop-cell.greatest
    (λ n among. let t = told tables cells n is among in c.loop-cell.invariant.above t.e n t.is (subst (Among (cell_of t.e)) (sym all) t.among)) in
    let same : greatest (tree_numbers tables) ≡ c.loop-cell.greatest = omega (arith, most, c.loop-cell.invariant.below tables is) in
    next_is c.checked_add.result c.loop-cell.greatest (greatest (tree_numbers tables)) same c.loop-cell.invariant.fits c.checked_add.ensures
