-- The words are those that are written out.
use Rattle.std.proofs.Common.{refl}
use Rattle.hc_engine_tests.specs.ByHand.{leaf}
use Rattle.hc_engine_tests.proofs.HandPages.{leaf_is}
use Rattle.hc_engine_tests.proofs.hand_pages.leaf_page.Goals as goal

pub returns-clause-page : goal.returns-clause-page
returns-clause-page c = leaf_is _ refl

pub returns-clause-valid : goal.returns-clause-valid
returns-clause-valid c = (leaf, leaf_is _ refl)
