-- It has two entries.
use Rattle.std.proofs.Common.{refl}
use Rattle.hc_page.proofs.Entries.{entry_there}
use Rattle.hc_engine_tests.specs.ByHand.{leaf}
use Rattle.hc_engine_tests.proofs.hand_pages.leaf_entry.Goals as goal

pub entry-requires : goal.entry-requires
entry-requires c = let there = entry_there leaf.entries c.args.slot c.requires.slot in record { leaf = (leaf, there.0, c.requires.page, refl, there.1) }
