-- the leaf stays one of small entries
use Rattle.hc_test_pages.specs.SmallPages.{HasSmallLeaf}
use Rattle.hc_page_bench.proofs.plans.full_leaf.Given as goal

abbrev pub invariant-loop-number : goal.invariant-loop-number
invariant-loop-number l = HasSmallLeaf l.page.words
