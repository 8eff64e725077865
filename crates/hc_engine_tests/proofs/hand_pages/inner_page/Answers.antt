-- The words are those that are written out.
use Rattle.std.proofs.Common.{refl}
use Rattle.hc_engine_tests.specs.ByHand.{inner}
use Rattle.hc_engine_tests.proofs.HandPages.{inner_is}
use Rattle.hc_engine_tests.proofs.hand_pages.inner_page.Goals as goal

pub returns-clause-page : goal.returns-clause-page
returns-clause-page c = inner_is _ refl

pub returns-clause-valid : goal.returns-clause-valid
returns-clause-valid c = (inner, inner_is _ refl)
