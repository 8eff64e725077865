-- The leaf stays one without fences.
use Rattle.hc_page.specs.Open.{IsOpenLeaf}
use Rattle.hc_engine_tests.proofs.leaves.tests.each_key_is_found_in_its_place.Given as goal

abbrev pub invariant-loop-at : goal.invariant-loop-at
invariant-loop-at g l = IsOpenLeaf l.page.words
