-- The entry's words are counted.
use Rattle.std.proofs.Common.{refl, sym}
use Rattle.hc_base.specs.Content.{Version}
use Rattle.hc_page.proofs.Freed.{version_size}
use Rattle.hc_page.proofs.room.fits.Goals as goal

pub returns : goal.returns
returns c = record {
  fits = λ d tid rec older page rec_is.
      c.has_room.ensures.room d (record { key = c.args.key.now; held = Version tid rec older }) page refl (sym (version_size c.args.key.now tid rec older c.args.rec_len rec_is));
}
