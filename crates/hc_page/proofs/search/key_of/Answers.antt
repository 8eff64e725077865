-- The entry is on the page, so its place and its key are.
use Rattle.std.proofs.Common.{arith}
use Rattle.hc_page.proofs.Entries.{key_read}
use Rattle.hc_page.proofs.search.key_of.Goals as goal

pub overflow_add-result : goal.overflow_add-result
overflow_add-result c = let r = key_read c.args.page.now.words c.args.level c.args.slot c.requires.entry in omega (arith, r.fits, c.place-first.ensures, c.head.ensures)

pub offset_bounds-page-first : goal.offset_bounds-page-first
offset_bounds-page-first c = let r = key_read c.args.page.now.words c.args.level c.args.slot c.requires.entry in omega (arith, r.place, c.place-first.ensures)

pub bounds-page-first : goal.bounds-page-first
bounds-page-first c = let r = key_read c.args.page.now.words c.args.level c.args.slot c.requires.entry in omega (arith, r.place, c.place-first.ensures)

pub returns-clause-fits : goal.returns-clause-fits
returns-clause-fits c = let r = key_read c.args.page.now.words c.args.level c.args.slot c.requires.entry in rw (c.key_len.ensures, c.head.ensures, c.place-first.ensures) r.fits

pub returns-clause-key : goal.returns-clause-key
returns-clause-key c = let r = key_read c.args.page.now.words c.args.level c.args.slot c.requires.entry in rw (c.key_len.ensures, c.head.ensures, c.place-first.ensures) r.key
