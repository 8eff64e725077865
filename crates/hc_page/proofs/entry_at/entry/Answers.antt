-- The entry is on the page, and its words tell what it has.
use Rattle.std.proofs.Common.{arith, ◌∙◌}
use Rattle.hc_page.proofs.Versions.{version_read}
use Rattle.hc_page.proofs.Entries.{same_level}
use Rattle.hc_page.proofs.entry_at.entry.Goals as goal

pub offset_bounds-page-first : goal.offset_bounds-page-first
offset_bounds-page-first c =
    let h = c.requires.leaf in
    let r = version_read c.args.page.now.words h.0 c.args.slot h.1 h.2 h.3 h.4 in omega (arith, r.room, c.place-first.ensures)

pub bounds-page-first : goal.bounds-page-first
bounds-page-first c =
    let h = c.requires.leaf in
    let r = version_read c.args.page.now.words h.0 c.args.slot h.1 h.2 h.3 h.4 in omega (arith, r.room, c.place-first.ensures)

pub overflow_add-key_at : goal.overflow_add-key_at
overflow_add-key_at c =
    let h = c.requires.leaf in
    let r = version_read c.args.page.now.words h.0 c.args.slot h.1 h.2 h.3 h.4 in omega (arith, r.room, c.place-first.ensures)

pub overflow_mul-key_at : goal.overflow_mul-key_at
overflow_mul-key_at c =
    let h = c.requires.leaf in
    let r = version_read c.args.page.now.words h.0 c.args.slot h.1 h.2 h.3 h.4 in omega (arith, r.room, c.place-first.ensures)

pub overflow_add-result : goal.overflow_add-result
overflow_add-result c =
    let h = c.requires.leaf in
    let r = version_read c.args.page.now.words h.0 c.args.slot h.1 h.2 h.3 h.4 in rw c.place-first.ensures (omega (arith, r.fits))

pub bounds-page-first-2 : goal.bounds-page-first-2
bounds-page-first-2 c =
    let h = c.requires.leaf in
    let r = version_read c.args.page.now.words h.0 c.args.slot h.1 h.2 h.3 h.4 in omega (arith, r.room, c.place-first.ensures)

pub returns : goal.returns
returns c = record {
  entry = λ d entry page there.
      let h = c.requires.leaf in
      let words = c.args.page.now.words in
      let r = version_read words d c.args.slot entry page (same_level words d h.0 page h.2 ∙ h.3) there in
      rw (c.older.ensures.older, c.place-first.ensures) r.tells;
  key_within =
      let h = c.requires.leaf in
      let r = version_read c.args.page.now.words h.0 c.args.slot h.1 h.2 h.3 h.4 in rw c.place-first.ensures (omega (arith, r.fits));
  rec_within =
      let h = c.requires.leaf in
      let r = version_read c.args.page.now.words h.0 c.args.slot h.1 h.2 h.3 h.4 in rw c.place-first.ensures (omega (arith, r.fits));
}
