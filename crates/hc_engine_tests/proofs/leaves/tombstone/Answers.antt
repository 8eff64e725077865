-- Its bytes are bytes.
use Rattle.std.proofs.Common.{arith}
use Rattle.hc_page.proofs.Open.{bytes_are}
use Rattle.hc_engine_tests.proofs.leaves.tombstone.Goals as goal

pub returns-clause-entry : goal.returns-clause-entry
returns-clause-entry c = ((omega (arith, c.ranges.tid.fits), tt, tt), bytes_are c.args.key.now (omega (arith, c.requires)) c.type_inv.key)
