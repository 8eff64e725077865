-- the page stays an inner one
use Rattle.hc_test_pages.specs.SmallPages.{HasInner}
use Rattle.hc_page_bench.proofs.plans.inner_page.Given as goal

abbrev pub invariant-loop-number : goal.invariant-loop-number
invariant-loop-number l = HasInner l.page.words
