-- The leaf stays one without fences.
use Rattle.hc_page.specs.Open.{IsOpenLeaf}
use Rattle.hc_engine_tests.proofs.leaves.tests.four_entries_leave_so_much_room.Given as goal

abbrev pub invariant-loop-key : goal.invariant-loop-key
invariant-loop-key g l = IsOpenLeaf l.page.words
