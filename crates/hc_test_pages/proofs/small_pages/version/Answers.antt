use Rattle.std.proofs.Common.{arith, length-append}
use Rattle.hc_base.proofs.Places.{words_of-length}
use Rattle.hc_page.proofs.Open.{bytes_are}
use Rattle.std.proofs.Common.{◌++◌}
use Rattle.hc_test_pages.proofs.small_pages.version.Goals as goal

pub returns-clause-small : goal.returns-clause-small
returns-clause-small c = (
  ((omega (arith, c.ranges.tid.fits), bytes_are c.args.rec.now (omega (arith, c.requires.rec)) c.type_inv.rec, tt), bytes_are c.args.key.now (omega (arith, c.requires.key)) c.type_inv.key),
  (omega (arith, words_of-length (c.args.key.now ++ c.args.rec.now), length-append c.args.key.now c.args.rec.now, c.requires.rec), c.requires.key),
)
