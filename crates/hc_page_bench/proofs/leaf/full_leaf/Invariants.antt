-- The leaf stays one without fences.
use Rattle.hc_page.specs.Open.{IsOpenLeaf}
use Rattle.hc_page_bench.proofs.leaf.full_leaf.Given as goal

abbrev pub invariant-puts : goal.invariant-puts
invariant-puts l = IsOpenLeaf l.page.words
