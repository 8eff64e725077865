-- It has three entries.
use Rattle.std.proofs.Common.{arith}
use Rattle.hc_page.proofs.Entries.{entry_there}
use Rattle.hc_engine_tests.specs.ByHand.{inner}
use Rattle.hc_engine_tests.proofs.hand_pages.inner_child.Goals as goal

pub child-requires : goal.child-requires
child-requires c = let there = entry_there inner.entries c.args.slot c.requires.slot in record { inner = (inner, there.0, c.requires.page, omega arith, there.1) }
