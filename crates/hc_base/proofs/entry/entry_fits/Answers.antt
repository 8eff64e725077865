use Rattle.std.proofs.lemmas.Bool.{lt-leb}
use Rattle.hc_base.proofs.Entries.{fits_beside, fits_not}
use Rattle.hc_base.proofs.entry.entry_fits.Goals as goal

pub returns-then-key_len-le463 : goal.returns-then-key_len-le463
returns-then-key_len-le463 c = fits_beside c.args.key_len c.args.rec_len c.if-key_len-le463.true

pub returns-else-key_len-le463 : goal.returns-else-key_len-le463
returns-else-key_len-le463 c = fits_not c.args.key_len c.args.rec_len (lt-leb c.args.key_len 463 c.if-key_len-le463.false)
