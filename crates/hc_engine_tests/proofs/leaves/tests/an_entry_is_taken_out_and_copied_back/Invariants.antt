-- The leaf stays one without fences.
use Rattle.hc_page.specs.Open.{IsOpenLeaf}
use Rattle.hc_engine_tests.proofs.leaves.tests.an_entry_is_taken_out_and_copied_back.Given as goal

abbrev pub invariant-loop-key : goal.invariant-loop-key
invariant-loop-key g l = IsOpenLeaf l.page.words
