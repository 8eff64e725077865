-- The first word has it.
use Rattle.std.proofs.Common.{arith}
use Rattle.hc_page.proofs.Entries.{used_is}
use Rattle.hc_page.proofs.room.used.Goals as goal

pub returns : goal.returns
returns c =
    let h = c.requires.valid in
    record {
      small = omega (arith, used_is c.args.page.now.words h.0 h.1, h.1.fits);
      used = λ d page. used_is c.args.page.now.words d page;
    }
